-- The rows of all roots.
use Rattle.std.proofs.Common.{◌≡◌, ℕ, Bool, true, false, ◌||◌, cond, nat_eq, List, [], ◌∷◌, ◌++◌, map, filter, Option, Some, is_some, refl, sym, ap, ◌∙◌, arith}
use Rattle.std.specs.List.{list_any}
use Rattle.std.proofs.lemmas.Bool.Decides.{nat_tests}
use Rattle.std.proofs.lemmas.List.{append_assoc, map-append}
use Rattle.std.proofs.lemmas.List.Folds.{list_any-append}
use Rattle.spv_logic.specs.declared.names.names.Symbol.{Symbol}
use Rattle.spv_logic.proofs.names.NameTable.{list_any-map}
use Rattle.spv_effects.specs.frame_events.Names.{named}
use Rattle.spv_logic.specs.declared.types.TypeId.{TypeId}
use Rattle.spv_logic.specs.declared.operators.Head.{Head}
use Rattle.spv_program.specs.declared.types.TypeForm.{TypeForm}
use Rattle.spv_program.specs.Lists.{same_name, found}
use Rattle.spv_program.specs.Programs.{Program, Routine}
use Rattle.spv_program.specs.Scopes.{own_names_in, is_own}
use Rattle.spv_program.specs.Uses as plain
use Rattle.spv_program.specs.Uses.{Own, Shared, same_root}
use Rattle.spv_program.specs.Changes.{all_types, all_roots}
use Rattle.spv_effects.specs.declared.mod_sets.roots.RootHead.{RootHead}
use Rattle.spv_effects.specs.mod_sets.Roots.{plain_root, row_of, rows_of, named_row, class_row, own_among}
use Rattle.spv_effects.proofs.mod_sets.Tests.{or_false}

-- ---- what is put behind what is there

pub pushed_row : (old new : List RootHead) (r : RootHead) → new ≡ old ++ r ∷ [] → rows_of new ≡ rows_of old ++ row_of r ∷ []
pushed_row old new r h = ap rows_of h ∙ map-append row_of old (r ∷ [])

-- ---- which names are own

same_name-sym : (x y : Symbol) → same_name x y ≡ same_name y x
same_name-sym x y = let same : (m n : ℕ) → nat_eq m n ≡ nat_eq n m = λ m n. grind (arith, nat_tests) in same x.0 y.0

own_found : (forms : List TypeForm) (x : Symbol) (names : List (Symbol × TypeId)) → own_among (map (named_row forms true) names) x ≡ is_some (found names x)
own_found forms x [] = refl
own_found forms x (n ∷ names) =
    ap (λ b. b || own_among (map (named_row forms true) names) x) (same_name-sym x n.0) ∙ by_case (same_name n.0 x) (own_found forms x names)
  where
    by_case : (b : Bool) → own_among (map (named_row forms true) names) x ≡ is_some (found names x)
        → b || own_among (map (named_row forms true) names) x ≡ is_some (cond b (Some n.1) (found names x))
    by_case true later = refl
    by_case false later = later

variables_not_own : (forms : List TypeForm) (x : Symbol) (names : List (Symbol × TypeId)) → own_among (map (named_row forms false) names) x ≡ false
variables_not_own forms x [] = refl
variables_not_own forms x (n ∷ names) = variables_not_own forms x names

classes_not_own : (x : Symbol) (types : List TypeId) → own_among (map class_row types) x ≡ false
classes_not_own x [] = refl
classes_not_own x (t ∷ types) = classes_not_own x types

own_both : (xs ys : List (plain.Root × Head)) (x : Symbol) → own_among (xs ++ ys) x ≡ own_among xs x || own_among ys x
own_both xs ys x = list_any-append (λ (r : plain.Root × Head). same_root (Own x) r.0) xs ys

own_is : (p : Program) (here : Option Routine) (x : Symbol) → own_among (all_roots p here) x ≡ is_own here x
own_is p here x =
    let mine = map (named_row p.forms true) (own_names_in here) in
    let shared = map (named_row p.forms false) p.variables in
    let classes = map class_row (all_types p) in
    own_both mine (shared ++ classes) x
    ∙ ap (λ b. own_among mine x || b)
    (own_both shared classes x ∙ ap (λ b. b || own_among classes x) (variables_not_own p.forms x p.variables) ∙ classes_not_own x (all_types p))
    ∙ or_false (own_among mine x) ∙ own_found p.forms x (own_names_in here)

-- the rows as the code has them
pub none_named : (rows : List RootHead) (own : List Symbol) → own ≡ [] → (x : Symbol)
    → named own x || list_any (λ (r : RootHead). same_root (Own x) (plain_root r.root)) rows ≡ own_among (rows_of rows) x
none_named rows own none x =
    ap (λ (names : List Symbol). named names x || list_any (λ (r : RootHead). same_root (Own x) (plain_root r.root)) rows) none
    ∙ sym (list_any-map (λ (r : plain.Root × Head). same_root (Own x) r.0) row_of rows)

pub own_of_all : (p : Program) (here : Option Routine) (rows : List RootHead) → rows_of rows ≡ all_roots p here → own_among (rows_of rows) ≡ is_own here
own_of_all p here rows is at x = (ap (λ (rs : List (plain.Root × Head)). own_among rs x) is ∙ own_is p here x) at

-- ---- all rows, one part behind the other

pub all_are : (forms : List TypeForm) (none own variables : List RootHead) (all : List RootHead) (p : Program) (here : Option Routine) (names shared : List (Symbol × TypeId)) (types : List TypeId)
    → none ≡ [] → forms ≡ p.forms → names ≡ own_names_in here → shared ≡ p.variables → types ≡ all_types p
    → rows_of own ≡ rows_of none ++ map (named_row forms true) names
    → rows_of variables ≡ rows_of own ++ map (named_row forms false) shared
    → rows_of all ≡ rows_of variables ++ map class_row types
    → rows_of all ≡ all_roots p here
all_are forms none own variables all p here names shared types empty forms_are names_are shared_are types_are a b c =
    c ∙ ap (λ (rs : List (plain.Root × Head)). rs ++ map class_row types) (b ∙ ap (λ (rs : List (plain.Root × Head)). rs ++ map (named_row forms false) shared) (a ∙ ap (λ (rs : List RootHead). rows_of rs ++ map (named_row forms true) names) empty))
    ∙ append_assoc (map (named_row forms true) names) (map (named_row forms false) shared) (map class_row types)
    ∙ ap (λ (fs : List TypeForm). map (named_row fs true) names ++ (map (named_row fs false) shared ++ map class_row types)) forms_are
    ∙ ap (λ (ns : List (Symbol × TypeId)). map (named_row p.forms true) ns ++ (map (named_row p.forms false) shared ++ map class_row types)) names_are
    ∙ ap (λ (ns : List (Symbol × TypeId)). map (named_row p.forms true) (own_names_in here) ++ (map (named_row p.forms false) ns ++ map class_row types)) shared_are
    ∙ ap (λ (ts : List TypeId). map (named_row p.forms true) (own_names_in here) ++ (map (named_row p.forms false) p.variables ++ map class_row ts)) types_are

-- ---- the rows that are kept

kept_by : (t : plain.Root → Bool) (rows : List RootHead)
    → map (λ (r : RootHead). r.head) (filter (λ (r : RootHead). t (plain_root r.root)) rows) ≡ map (λ (r : plain.Root × Head). r.1) (filter (λ (r : plain.Root × Head). t r.0) (rows_of rows))
kept_by t [] = refl
kept_by t (r ∷ rows) = by_case (t (plain_root r.root)) (kept_by t rows)
  where
    by_case : (b : Bool)
        → map (λ (r : RootHead). r.head) (filter (λ (r : RootHead). t (plain_root r.root)) rows) ≡ map (λ (r : plain.Root × Head). r.1) (filter (λ (r : plain.Root × Head). t r.0) (rows_of rows))
        → map (λ (r : RootHead). r.head) (cond b (r ∷ filter (λ (r : RootHead). t (plain_root r.root)) rows) (filter (λ (r : RootHead). t (plain_root r.root)) rows))
        ≡ map (λ (r : plain.Root × Head). r.1) (cond b (row_of r ∷ filter (λ (r : plain.Root × Head). t r.0) (rows_of rows)) (filter (λ (r : plain.Root × Head). t r.0) (rows_of rows)))
    by_case true later = ap (λ (hs : List Head). r.head ∷ hs) later
    by_case false later = later

-- the tests may be told otherwise, and the rows
pub kept_are : (s t : plain.Root → Bool) (rows : List RootHead) (all : List (plain.Root × Head)) → s ≡ t → rows_of rows ≡ all
    → map (λ (r : RootHead). r.head) (filter (λ (r : RootHead). s (plain_root r.root)) rows) ≡ map (λ (r : plain.Root × Head). r.1) (filter (λ (r : plain.Root × Head). t r.0) all)
kept_are s t rows all same are =
    kept_by s rows ∙ ap (λ (u : plain.Root → Bool). map (λ (r : plain.Root × Head). r.1) (filter (λ (r : plain.Root × Head). u r.0) (rows_of rows))) same
    ∙ ap (λ (rs : List (plain.Root × Head)). map (λ (r : plain.Root × Head). r.1) (filter (λ (r : plain.Root × Head). t r.0) rs)) are
