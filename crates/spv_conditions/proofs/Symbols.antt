-- The symbols of a program whose declarations are right are such as an arena may have.
use Rattle.std.proofs.Common.{◌≡◌, Bool, true, false, ◌&&◌, ◌||◌, not, nat_eq, List, [], ◌∷◌, ◌++◌, map, length, refl, sym, ap, ◌∙◌}
use Rattle.std.specs.List.{list_all, list_any}
use Rattle.spv_logic.proofs.list.Tests.{left_true, right_true}
use Rattle.spv_logic.specs.declared.names.names.Symbol.{Symbol}
use Rattle.spv_logic.specs.declared.types.Decl.{Decl}
use Rattle.spv_term.specs.Arena.{symbols_differ, decls_in_range}
use Rattle.spv_program.specs.Lists.{same_name, names_differ}
use Rattle.spv_program.specs.Types.{forms_ok}
use Rattle.spv_program.specs.Programs.{Program, shapes}
use Rattle.spv_program.specs.Typing.{program_names, types_exist, symbol_ok, declarations_ok}

differ_behind : (xs ys : List Symbol) → names_differ (xs ++ ys) ≡ true → names_differ ys ≡ true
differ_behind [] ys h = h
differ_behind (x ∷ xs) ys h = differ_behind xs ys (right_true (not (list_any (same_name x) (xs ++ ys))) _ h)

none_in_front : (p : Symbol → Bool) (xs ys : List Symbol) → not (list_any p (xs ++ ys)) ≡ true → not (list_any p xs) ≡ true
none_in_front p [] ys h = refl
none_in_front p (x ∷ xs) ys h = by (p x) h (none_in_front p xs ys)
  where
    by : (b : Bool) → not (b || list_any p (xs ++ ys)) ≡ true → (not (list_any p (xs ++ ys)) ≡ true → not (list_any p xs) ≡ true) → not (b || list_any p xs) ≡ true
    by true h below = h
    by false h below = below h

differ_in_front : (xs ys : List Symbol) → names_differ (xs ++ ys) ≡ true → names_differ xs ≡ true
differ_in_front [] ys h = refl
differ_in_front (x ∷ xs) ys h =
    ap (λ b. b && names_differ xs) (none_in_front (same_name x) xs ys (left_true _ _ h))
    ∙ differ_in_front xs ys (right_true (not (list_any (same_name x) (xs ++ ys))) _ h)

any_named : (d : Decl) (ds : List Decl) → list_any (same_name d.name) (map (λ e. e.name) ds) ≡ list_any (λ e. nat_eq d.name.0 e.name.0) ds
any_named d [] = refl
any_named d (e ∷ ds) = ap (λ b. same_name d.name e.name || b) (any_named d ds)

by_name : (ds : List Decl) → names_differ (map (λ d. d.name) ds) ≡ symbols_differ ds
by_name [] = refl
by_name (d ∷ ds) = ap (λ b. not b && names_differ (map (λ e. e.name) ds)) (any_named d ds) ∙ ap (λ b. not (list_any (λ e. nat_eq d.name.0 e.name.0) ds) && b) (by_name ds)

-- what stands behind types that are there
behind_types : (p : Program) → declarations_ok p ≡ true → (list_all (symbol_ok p) p.symbols && names_differ (program_names p)) ≡ true
behind_types p h =
    right_true (types_exist p p.variables) _ (right_true (types_exist p p.types) _ (right_true (nat_eq (length p.titles) (length p.forms)) _ (right_true (forms_ok p.forms) _ h)))

pub symbols_may_stand : (p : Program) → declarations_ok p ≡ true → symbols_differ p.symbols ≡ true
symbols_may_stand p h =
    let names = right_true (list_all (symbol_ok p) p.symbols) _ (behind_types p h) in
    let constants = differ_behind (map (λ n. n.0) p.constants) _ names in
    let types = differ_behind (map (λ n. n.0) p.types) _ constants in
    let variables = differ_behind (map (λ n. n.0) p.variables) _ types in
    let symbols = differ_in_front (map (λ d. d.name) p.symbols) (map (λ r. r.name) p.routines) variables in
    sym (by_name p.symbols) ∙ symbols

pub symbols_are_there : (p : Program) → declarations_ok p ≡ true → decls_in_range (shapes p) p.symbols ≡ true
symbols_are_there p h = left_true _ _ (behind_types p h)
