-- The sorts that arguments must have, told by the first of them.
use Rattle.std.specs.Prelude.{ℕ, Bool, List, [], ◌∷◌, Option, Some, None, Ok, Err, if◌then◌else◌}
use Rattle.spv_program.specs.declared.types.TypeForm.{TypeForm}
use Rattle.spv_program.specs.Types.{sort_of}
use Rattle.spv_logic.specs.declared.types.TypeId.{TypeId}
use Rattle.spv_logic.specs.declared.types.Sort.{Sort}
use Rattle.spv_logic.specs.declared.types.Sort.TheVariants as sort
use Rattle.spv_logic.specs.declared.types.Shape.{Shape}
use Rattle.spv_logic.specs.Shapes.{element_sort}
use Rattle.spv_program.specs.Formulas.{Formula, Formulas, formulas}
use Rattle.spv_typing.specs.Outcomes.{Outcome, after, wrong}
use Rattle.spv_typing.specs.OperatorWalk.{Operand, Of, NilAt}
use Rattle.spv_typing.specs.FormulaWalk.{Signature}
use Rattle.spv_environments.specs.declared.known.Signature.{Signature as SignatureText}

abbrev pub signature_view : SignatureText → Signature
signature_view s = record { wanted = s.args; result = s.result }

-- the sort of an array and that of its elements
pub record ArraySorts : Type 0 where
  pub array : Sort
  pub element : Sort

abbrev pub array_with : ℕ → Sort → Option Sort → Outcome ArraySorts
array_with line a None = Err (wrong line)
array_with line a (Some e) = Ok (record { array = a; element = e })

abbrev pub array_in : List Shape → ℕ → Operand Formula → Outcome ArraySorts
array_in shapes line (NilAt at) = Err (wrong line)
array_in shapes line (Of f s) = array_with line s (element_sort shapes s)

-- the first argument is an array
abbrev pub first_array : List Shape → List (ℕ × Operand Formula) → Outcome ArraySorts
first_array shapes [] = Err (wrong 0)
first_array shapes (o ∷ others) = array_in shapes o.0 o.1

abbrev pub class_sort : ℕ → Sort → Outcome TypeId
class_sort line (sort.Class t) = Ok t
class_sort line s = Err (wrong line)

abbrev pub class_in : ℕ → Operand Formula → Outcome TypeId
class_in line (NilAt at) = Err (wrong line)
class_in line (Of f s) = class_sort line s

-- the first argument is a class
abbrev pub first_class : List (ℕ × Operand Formula) → Outcome TypeId
first_class [] = Err (wrong 0)
first_class (o ∷ others) = class_in o.0 o.1

abbrev pub behind_pointer_sort : ℕ → Sort → List (ℕ × Operand Formula) → Outcome TypeId
behind_pointer_sort line (sort.Ptr t) others = first_class others
behind_pointer_sort line s others = Err (wrong line)

abbrev pub behind_operand : ℕ → Operand Formula → List (ℕ × Operand Formula) → Outcome TypeId
behind_operand line (NilAt at) others = first_class others
behind_operand line (Of f s) others = behind_pointer_sort line s others

-- a pointer comes first, and a class behind it
abbrev pub class_behind : List (ℕ × Operand Formula) → Outcome TypeId
class_behind [] = Err (wrong 0)
class_behind (o ∷ others) = behind_operand o.0 o.1 others

-- ---- signatures

abbrev pub wants : List Sort → Sort → Signature
wants sorts gives = record { wanted = sorts; result = gives }

abbrev pub array_sorts : Sort → Sort → ArraySorts
array_sorts a e = record { array = a; element = e }

-- SELECT, or STORE
abbrev pub array_signature : List Shape → List (ℕ × Operand Formula) → Bool → Outcome Signature
array_signature shapes given stores =
    after (first_array shapes given) (λ a.
    Ok (if stores then wants (a.array ∷ sort.Int ∷ a.element ∷ []) a.array else wants (a.array ∷ sort.Int ∷ []) a.element))

-- CELL, or SETCELL and EXTEND
abbrev pub content_signature : List TypeForm → List (ℕ × Operand Formula) → Bool → Outcome Signature
content_signature forms given changes =
    after (first_class given) (λ t.
    Ok (if changes then wants (sort.Class t ∷ sort.Ptr t ∷ sort_of forms t ∷ []) (sort.Class t) else wants (sort.Class t ∷ sort.Ptr t ∷ []) (sort_of forms t)))

-- POINTERTO
abbrev pub member_signature : List (ℕ × Operand Formula) → Outcome Signature
member_signature given = after (class_behind given) (λ t. Ok (wants (sort.Ptr t ∷ sort.Class t ∷ []) sort.Bool))

-- formulas in front of a chain
abbrev pub joined : List Formula → Formulas → Formulas
joined [] others = others
joined (f ∷ fs) others = formulas f (joined fs others)
