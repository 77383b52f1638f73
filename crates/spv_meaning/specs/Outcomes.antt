-- How runs end, and how one goes on from another.
use Rattle.std.specs.Prelude.{ℕ, Bool, List, [], ◌∷◌, ◌++◌, Option, Some, None, if◌then◌else◌}
use Rattle.spv_logic.specs.declared.conditions.Kind.{Kind}
use Rattle.spv_logic.specs.declared.types.Sort.{Sort}
use Rattle.spv_logic.specs.declared.types.Shape.{Shape}
use Rattle.spv_logic.specs.Values.{Value}
use Rattle.spv_logic.specs.Terms.{Term}
use Rattle.spv_logic.specs.Fits.{fits}
use Rattle.spv_logic.specs.Conditions.{View}
use Rattle.spv_meaning.specs.declared.faults.Fault.{Fault}
use Rattle.spv_meaning.specs.declared.faults.Fault.TheVariants as fault
use Rattle.spv_meaning.specs.Places.{State}

-- how a run ends: with what it is to give, by a fault, by a jump to a label in a state, or not yet, since its turns are used up
pub data End (A : Type 0) : Type 0 where
  Ended : A → End A
  Stopped : Fault → End A
  Jump : ℕ → State → End A
  Going : End A

-- an annotation that was reached: its formula, kind and line, what showed when its routine began, and what shows now
pub record Met : Type 0 where
  pub formula : Term
  pub kind : Kind
  pub line : ℕ
  pub entry : View
  pub now : View

-- the end, the annotations reached in order, and the choices that are left
pub record Outcome (A : Type 0) : Type 0 where
  pub end : End A
  pub met : List Met
  pub rest : List Value

abbrev pub ends : {A : Type 0} → A → List Value → Outcome A
ends x rest = record { end = Ended x; met = []; rest = rest }

abbrev pub stops : {A : Type 0} → Fault → List Value → Outcome A
stops f rest = record { end = Stopped f; met = []; rest = rest }

abbrev pub is_going : {A : Type 0} → List Value → Outcome A
is_going rest = record { end = Going; met = []; rest = rest }

-- goes on from where a run ended; the first fault, the first jump, and the end of the turns, end the whole
abbrev pub go_on : {A B : Type 0} → End A → List Met → List Value → (A → List Value → Outcome B) → Outcome B
go_on (Ended x) met rest next = let after = next x rest in record { end = after.end; met = met ++ after.met; rest = after.rest }
go_on (Stopped f) met rest next = record { end = Stopped f; met = met; rest = rest }
go_on (Jump label state) met rest next = record { end = Jump label state; met = met; rest = rest }
go_on Going met rest next = record { end = Going; met = met; rest = rest }

abbrev pub and_then : {A B : Type 0} → Outcome A → (A → List Value → Outcome B) → Outcome B
and_then first next = go_on first.end first.met first.rest next

-- an annotation is reached
abbrev pub meets : {A : Type 0} → Option Met → A → List Value → Outcome A
meets None x rest = ends x rest
meets (Some m) x rest = record { end = Ended x; met = m ∷ []; rest = rest }

-- goes on only where a test passes
abbrev pub stops_unless : {A : Type 0} → Bool → Fault → A → List Value → Outcome A
stops_unless test f x rest = if test then ends x rest else stops f rest

-- the next choice, which has to be of this sort
abbrev pub take_choice : List Shape → Sort → List Value → Outcome Value
take_choice shapes s [] = stops fault.Choice []
take_choice shapes s (v ∷ rest) = if fits shapes v s then ends v rest else stops fault.Choice (v ∷ rest)
