-- What an answer that is no fault tells of the steps before it.
use Rattle.std.proofs.Common.{◌≡◌, Bool, true, false, refl, ap}
use Rattle.std.specs.Prelude.{Ok, Err}
use Rattle.std.proofs.lemmas.Bool.{false≢true}
use Rattle.spv_typing.specs.declared.faults.TypeFault.{TypeFault}
use Rattle.spv_typing.specs.Outcomes.{Outcome, after, where_so}

abbrev is_fine : {A : Type 0} → Outcome A → Bool
is_fine (Ok x) = true
is_fine (Err fault) = false

pub no_fault : {A : Type 0} {fault : TypeFault} {x : A} → Err fault ≡ Ok x → ⊥
no_fault e = false≢true (ap is_fine e)

abbrev value_or : {A : Type 0} → A → Outcome A → A
value_or other (Ok x) = x
value_or other (Err fault) = other

abbrev pub fine : {A : Type 0} → A → Outcome A
fine x = Ok x

pub same_value : {A : Type 0} {x y : A} → fine x ≡ Ok y → x ≡ y
same_value {A} {x} {y} e = ap (value_or x) e

-- a step and what came of it
pub record Went {A B : Type 0} (step : Outcome A) (next : A → Outcome B) (z : B) : Type 0 where
  pub value : A
  pub first : step ≡ Ok value
  pub rest : next value ≡ Ok z

pub went : {A B : Type 0} (step : Outcome A) (next : A → Outcome B) (z : B) → after step next ≡ Ok z → Went step next z
went (Ok x) next z e = record { value = x; first = refl; rest = e }
went (Err fault) next z e = absurd (no_fault e)

pub held : {A : Type 0} (b : Bool) (fault : TypeFault) (next : Outcome A) (z : A) → where_so b fault next ≡ Ok z → b ≡ true
held true fault next z e = refl
held false fault next z e = absurd (no_fault e)

pub behind_test : {A : Type 0} (b : Bool) (fault : TypeFault) (next : Outcome A) (z : A) → where_so b fault next ≡ Ok z → next ≡ Ok z
behind_test true fault next z e = e
behind_test false fault next z e = absurd (no_fault e)
