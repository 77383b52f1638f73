-- Programs with routines that are correct in every world.
use Rattle.std.proofs.Common.{◌≡◌, Bool, true, false, not, ◌&&◌, ◌||◌, refl, ap, ◌∙◌, pos}
use Rattle.std.specs.Cmp.Derive.{both_true}
use Rattle.spv_logic.specs.Values.{Value, Number, value_eq}
use Rattle.spv_logic.specs.declared.types.Sort.TheVariants as sort
use Rattle.spv_logic.specs.declared.operators.Head.TheVariants as head
use Rattle.spv_logic.specs.Conditions.{Meaning, answers, holds}
use Rattle.spv_logic.proofs.Equality.{value_eq-true, value_eq-refl}
use Rattle.spv_program.specs.Programs.{shapes}
use Rattle.spv_meaning.specs.Correct.{Correct}
use Rattle.spv_program_soundness.proofs.Programs.{program_correct}
use Rattle.spv_worked.specs.Small.{x, y, p, q, n}
use Rattle.spv_worked.specs.Terms.{X, N, fresh, eq, less, no}
use Rattle.spv_worked.specs.CallConditions.{swapping}
use Rattle.spv_worked.specs.CorrectPrograms.{clearing}

-- a test follows from itself, whatever else is known
itself : (a b : Bool) → (not (a && (b && true)) || b) ≡ true
itself true true = refl
itself true false = refl
itself false b = refl

alone : (b : Bool) → (not (b && true) || b) ≡ true
alone true = refl
alone false = refl

-- where x is 1 and y is 2, and p is y and q is x, p is 2 and q is 1
swapped : (x y p q : Value)
    → (not ((value_eq x (Number (pos 1)) && value_eq y (Number (pos 2))) && ((value_eq p y && value_eq q x) && true)) || (value_eq p (Number (pos 2)) && value_eq q (Number (pos 1)))) ≡ true
swapped x y p q = by_tests (value_eq x (Number (pos 1))) refl (value_eq y (Number (pos 2))) refl (value_eq p y) refl (value_eq q x) refl
  where
    Goal : Bool → Bool → Bool → Bool → Type 0
    Goal a b c d = (not ((a && b) && ((c && d) && true)) || (value_eq p (Number (pos 2)) && value_eq q (Number (pos 1)))) ≡ true

    by_tests : (a : Bool) → value_eq x (Number (pos 1)) ≡ a → (b : Bool) → value_eq y (Number (pos 2)) ≡ b → (c : Bool) → value_eq p y ≡ c → (d : Bool) → value_eq q x ≡ d → Goal a b c d
    by_tests false _ b _ c _ d _ = refl
    by_tests true _ false _ c _ d _ = refl
    by_tests true _ true _ false _ d _ = refl
    by_tests true _ true _ true _ false _ = refl
    by_tests true one true two true three true four =
        both_true (ap (λ v. value_eq v (Number (pos 2))) (value_eq-true p y three ∙ value_eq-true y (Number (pos 2)) two) ∙ refl)
        (ap (λ v. value_eq v (Number (pos 1))) (value_eq-true q x four ∙ value_eq-true x (Number (pos 1)) one) ∙ refl)

-- what is true of itself follows from anything
any : (b : Bool) → (not (b && true) || true) ≡ true
any true = refl
any false = refl

pub swapping_correct : (world : Meaning) → Correct swapping world
swapping_correct world =
    program_correct swapping (record { typed = refl; framed = refl }) world (
      (λ v val. both_true (value_eq-refl (v (head.Var q sort.Int 0))) (value_eq-refl (v (head.Var p sort.Int 0)))),
      ((λ v val. swapped (v (head.Var x sort.Int 0)) (v (head.Var y sort.Int 0)) (v (head.Var p sort.Int 1)) (v (head.Var q sort.Int 1))), tt),
    )

pub clearing_correct : (world : Meaning) → Correct clearing world
clearing_correct world =
    program_correct clearing (record { typed = refl; framed = refl }) world (
      (λ v val. itself (holds symbols v (less (N 0) (X n))) (holds symbols v (eq (fresh x 1) (N 0)))),
      ((λ v val. any (holds symbols v (no (less (N 0) (X n))))), ((λ v val. alone (holds symbols v (eq (fresh x 2) (N 0)))), tt)),
    )
  where
    symbols : Meaning
    symbols = answers (shapes clearing) clearing.symbols world
