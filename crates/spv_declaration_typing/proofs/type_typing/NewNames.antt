-- Names that are new.
use Rattle.std.proofs.Common.{◌≡◌, ℕ, Bool, true, false, cond, ◌&&◌, ◌||◌, not, List, [], ◌∷◌, ◌++◌, Option, Some, Ok, is_some, refl, sym, ap, ◌∙◌}
use Rattle.std.proofs.lemmas.List.{map-append}
use Rattle.std.specs.List.{list_any}
use Rattle.spv_logic.specs.declared.names.names.Symbol.{Symbol}
use Rattle.spv_tree.specs.declared.syntax.names.Name.{Name}
use Rattle.spv_program.specs.Lists.{found, same_name}
use Rattle.spv_typing.specs.Outcomes.{where_so, twice}
use Rattle.spv_typing.specs.DeclarationWalk.{new_name}
use Rattle.spv_program.proofs.ordered_map.Lookups.{nat_eq_turned}
use Rattle.spv_declaration_typing.specs.type_typing.Names.{only_names}

some_or : (b : Bool) {X : Type 0} (x : X) (o : Option X) → is_some (cond b (Some x) o) ≡ (b || is_some o)
some_or true x o = refl
some_or false x o = refl

pub among : {X : Type 0} (entries : List (Symbol × X)) (x : Symbol) → is_some (found entries x) ≡ list_any (same_name x) (only_names entries)
among [] x = refl
among (e ∷ entries) x =
    some_or (same_name e.0 x) e.1 (found entries x)
    ∙ (ap (λ b. b || is_some (found entries x)) (nat_eq_turned e.0.0 x.0) ∙ ap (λ b. same_name x e.0 || b) (among entries x))

pub name_added : (free : Symbol → Bool) (old new : List (Symbol × ℕ)) (x : Name) → free x.symbol ≡ true → is_some (found old x.symbol) ≡ false
    → new ≡ old ++ (x.symbol, x.line) ∷ [] → new_name free (only_names old) x ≡ Ok (only_names new)
name_added free old new x is_free missing pushed =
    let ending : List Symbol = only_names old ++ x.symbol ∷ [] in
    let only : Symbol × ℕ → Symbol = λ e. e.0 in
    ap (λ b. where_so (b && not (list_any (same_name x.symbol) (only_names old))) (twice x) (Ok ending)) is_free
    ∙ (ap (λ b. where_so (not b) (twice x) (Ok ending)) (sym (among old x.symbol) ∙ missing)
    ∙ ap Ok (sym (ap only_names pushed ∙ map-append only old ((x.symbol, x.line) ∷ []))))
