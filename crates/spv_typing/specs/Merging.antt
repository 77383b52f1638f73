-- Two pointer types with one target are one type. Targets may be declared later than their pointers, so types first get
-- numbers in the order of the text, and those of equal pointer types are put together when all names are known.
use Rattle.std.specs.Prelude.{ℕ, zero, suc, Bool, false, List, [], ◌∷◌, map, length, Option, Some, None, option_map, nat_eq, if◌then◌else◌}
use Rattle.spv_logic.specs.declared.types.TypeId.{TypeId}
use Rattle.spv_logic.specs.declared.names.names.Symbol.{Symbol}
use Rattle.spv_program.specs.declared.types.TypeForm.{TypeForm}
use Rattle.spv_program.specs.declared.types.TypeForm.TheVariants.{Pointer, Array, Record}
use Rattle.spv_program.specs.Lists.{found, item_at}

-- how a type is written: built of types that have numbers, or a pointer to cells of the type with this name
pub data Written : Type 0 where
  Built : TypeForm → Written
  PointerTo : Symbol → Written

-- ---- which pointer types are one

abbrev pub target_number : List (Symbol × TypeId) → Written → Option ℕ
target_number names (Built (Pointer t)) = Some t.0
target_number names (PointerTo x) = option_map (λ t. t.0) (found names x)
target_number names (Built form) = None

-- the place of the first item that passes a test, or the length of the list
abbrev pub first_where : {X : Type 0} → (X → Bool) → List X → ℕ
first_where test [] = 0
first_where test (x ∷ xs) = if test x then 0 else suc (first_where test xs)

abbrev pub same_number : Option ℕ → Option ℕ → Bool
same_number (Some n) (Some m) = nat_eq n m
same_number _ _ = false

-- whether both are pointers and their targets stand for one type
abbrev pub points_alike : List ℕ → ℕ → Option ℕ → Bool
points_alike firsts target None = false
points_alike firsts target (Some other) = same_number (item_at firsts target) (item_at firsts other)

-- the first type that is the same, where each stands for the first of its kind that was found so far
abbrev pub first_alike : List (Option ℕ) → List ℕ → ℕ → Option ℕ → ℕ
first_alike targets firsts place None = place
first_alike targets firsts place (Some target) = first_where (points_alike firsts target) targets

abbrev pub alike_from : List (Option ℕ) → List ℕ → ℕ → List (Option ℕ) → List ℕ
alike_from targets firsts place [] = []
alike_from targets firsts place (t ∷ others) = first_alike targets firsts place t ∷ alike_from targets firsts (suc place) others

abbrev pub numbers_from : ℕ → List (Option ℕ) → List ℕ
numbers_from place [] = []
numbers_from place (t ∷ others) = place ∷ numbers_from (suc place) others

-- for each type the first one that is the same; each round may put pointers to pointers together
abbrev pub firsts_after : ℕ → List (Option ℕ) → List ℕ
firsts_after zero targets = numbers_from 0 targets
firsts_after (suc rounds) targets = alike_from targets (firsts_after rounds targets) 0 targets

abbrev pub firsts : List (Option ℕ) → List ℕ
firsts targets = firsts_after (length targets) targets

-- ---- new numbers, without gaps

-- how many of the types before a place are the first of their kind
abbrev pub kinds_before : ℕ → ℕ → List ℕ → ℕ
kinds_before zero place firsts = 0
kinds_before (suc n) place [] = 0
kinds_before (suc n) place (f ∷ firsts) =
    if nat_eq f place then suc (kinds_before n (suc place) firsts) else kinds_before n (suc place) firsts

abbrev pub number_or : ℕ → Option ℕ → ℕ
number_or other None = other
number_or other (Some n) = n

abbrev pub renumbered : List ℕ → TypeId → TypeId
renumbered firsts t = record { 0 = kinds_before (number_or t.0 (item_at firsts t.0)) 0 firsts }

abbrev pub form_with : (TypeId → TypeId) → TypeForm → TypeForm
form_with new (Pointer t) = Pointer (new t)
form_with new (Array index element) = Array (new index) (new element)
form_with new (Record fields) = Record (map (λ f. record { name = f.name; of = new f.of }) fields)
form_with new form = form

abbrev pub target_or_first : Option TypeId → TypeId
target_or_first None = record { 0 = 0 }
target_or_first (Some t) = t

abbrev pub form_of : List (Symbol × TypeId) → Written → TypeForm
form_of names (Built form) = form
form_of names (PointerTo x) = Pointer (target_or_first (found names x))

-- the forms of the types that are the first of their kind
abbrev pub forms_from : List (Symbol × TypeId) → (TypeId → TypeId) → ℕ → List ℕ → List Written → List TypeForm
forms_from names new place [] written = []
forms_from names new place (f ∷ firsts) [] = []
forms_from names new place (f ∷ firsts) (w ∷ written) =
    if nat_eq f place then form_with new (form_of names w) ∷ forms_from names new (suc place) firsts written
    else forms_from names new (suc place) firsts written

-- types as they are written, with the names of types, become forms and new numbers
pub record Merged : Type 0 where
  pub forms : List TypeForm
  pub new : TypeId → TypeId

abbrev pub merged : List (Symbol × TypeId) → List Written → Merged
merged names written =
    let same = firsts (map (target_number names) written) in
    record { forms = forms_from names (renumbered same) 0 same written; new = renumbered same }
