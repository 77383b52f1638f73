-- Evaluations that reach no annotation and take no choice.
use Rattle.std.specs.Prelude.{◌≡◌, List}
use Rattle.spv_logic.specs.Values.{Value}
use Rattle.spv_meaning.specs.declared.faults.Fault.{Fault}
use Rattle.spv_meaning.specs.Outcomes.{Outcome, ends, stops}

-- stopped by a fault, or with a result that passes; all choices are left
pub data Quiet (A : Type 0) (P : A → Type 0) (choices : List Value) (o : Outcome A) : Type 0 where
  Stops : (f : Fault) → o ≡ stops f choices → Quiet A P choices o
  Gives : (x : A) → o ≡ ends x choices → P x → Quiet A P choices o
