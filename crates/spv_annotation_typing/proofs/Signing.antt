-- The signatures of the definition by their first arguments.
use Rattle.std.proofs.Common.{◌≡◌, ℕ, true, false, List, [], ◌∷◌, Option, Some, None, Ok, refl}
use Rattle.spv_logic.specs.declared.types.TypeId.{TypeId}
use Rattle.spv_logic.specs.declared.types.Sort.{Sort}
use Rattle.spv_logic.specs.declared.types.Sort.TheVariants as sort
use Rattle.spv_logic.specs.declared.types.Shape.{Shape}
use Rattle.spv_logic.specs.Shapes.{element_sort}
use Rattle.spv_program.specs.Programs.{shapes}
use Rattle.spv_program.specs.Formulas.{Formula}
use Rattle.spv_typing.specs.Outcomes.{after}
use Rattle.spv_typing.specs.Known as known
use Rattle.spv_typing.specs.OperatorWalk.{Operand, Of, NilAt}
use Rattle.spv_typing.specs.FormulaWalk.{Signature, signature_of, signature_on, on_array, on_class, on_pointer}
use Rattle.spv_annotation_typing.specs.Signatures.{first_array, array_with, first_class, class_behind, array_signature, content_signature, member_signature}

array_on : (line : ℕ) (a : Sort) (o : Option Sort) (f : Sort → Sort → Signature) → signature_on line a f o ≡ after (array_with line a o) (λ s. Ok (f s.array s.element))
array_on line a None f = refl
array_on line a (Some e) f = refl

array_is : (sh : List Shape) (given : List (ℕ × Operand Formula)) (f : Sort → Sort → Signature) → on_array sh given f ≡ after (first_array sh given) (λ s. Ok (f s.array s.element))
array_is sh [] f = refl
array_is sh ((line, NilAt at) ∷ others) f = refl
array_is sh ((line, Of x s) ∷ others) f = array_on line s (element_sort sh s) f

class_is : (given : List (ℕ × Operand Formula)) (f : TypeId → Signature) → on_class given f ≡ after (first_class given) (λ t. Ok (f t))
class_is [] f = refl
class_is ((line, NilAt at) ∷ others) f = refl
class_is ((line, Of x (sort.Class t)) ∷ others) f = refl
class_is ((line, Of x sort.Int) ∷ others) f = refl
class_is ((line, Of x sort.Bool) ∷ others) f = refl
class_is ((line, Of x sort.List) ∷ others) f = refl
class_is ((line, Of x (sort.Ptr t)) ∷ others) f = refl
class_is ((line, Of x (sort.Whole t)) ∷ others) f = refl

behind_is : (given : List (ℕ × Operand Formula)) (f : TypeId → Signature) → on_pointer given f ≡ after (class_behind given) (λ t. Ok (f t))
behind_is [] f = refl
behind_is ((line, NilAt at) ∷ others) f = class_is others f
behind_is ((line, Of x (sort.Ptr t)) ∷ others) f = class_is others f
behind_is ((line, Of x (sort.Class t)) ∷ others) f = refl
behind_is ((line, Of x sort.Int) ∷ others) f = refl
behind_is ((line, Of x sort.Bool) ∷ others) f = refl
behind_is ((line, Of x sort.List) ∷ others) f = refl
behind_is ((line, Of x (sort.Whole t)) ∷ others) f = refl

module _ (s : known.Scope) (given : List (ℕ × Operand Formula)) where
  pub select_is : signature_of s known.Select given ≡ array_signature (shapes s.known.program) given false
  select_is = array_is (shapes s.known.program) given _

  pub store_is : signature_of s known.Store given ≡ array_signature (shapes s.known.program) given true
  store_is = array_is (shapes s.known.program) given _

  pub cell_is : signature_of s known.Cell given ≡ content_signature s.known.program.forms given false
  cell_is = class_is given _

  pub set_cell_is : signature_of s known.SetCell given ≡ content_signature s.known.program.forms given true
  set_cell_is = class_is given _

  pub extend_is : signature_of s known.Extend given ≡ content_signature s.known.program.forms given true
  extend_is = class_is given _

  pub pointer_to_is : signature_of s known.PointerTo given ≡ member_signature given
  pointer_to_is = behind_is given _
