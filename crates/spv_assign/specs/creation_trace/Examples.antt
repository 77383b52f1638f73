-- The lists that small statements make before one condition.
use Rattle.std.specs.Prelude.{◌≡◌, ℕ, ℤ, pos, true, List, [], ◌∷◌, Option, Some}
use Rattle.spv_logic.specs.declared.names.names.Symbol.{Symbol}
use Rattle.spv_logic.specs.declared.conditions.RoutineId.{RoutineId}
use Rattle.spv_logic.specs.Conditions.{Condition}
use Rattle.spv_program.specs.Formulas.{Annotation}
use Rattle.spv_program.specs.declared.operators.Direction.{Direction}
use Rattle.spv_program.specs.Expressions.{Boolean, Numeral}
use Rattle.spv_program.specs.Statements.{Statement, Empty, Sequence, If, Case, While, Repeat, For, Assert, no_arms, arm}
use Rattle.spv_program.specs.Programs.{Program}
use Rattle.spv_program.specs.Supplies.{Supply}
use Rattle.spv_assign.specs.creation_trace.Events.{Event, Terms, Conditions}
use Rattle.spv_assign.specs.creation_trace.StatementEvents.{events}

-- the lengths of the lists, in order
abbrev pub lengths_of : List Event → List ℕ
lengths_of [] = []
lengths_of (Terms ts ∷ events) = lengths_of events
lengths_of (Conditions n ∷ events) = n ∷ lengths_of events

abbrev pub lists_before : Program → Option RoutineId → Supply → Condition → Statement → List ℕ
lists_before p here n c s = lengths_of (events p here s (record { conditions = c ∷ []; supply = n }))

-- two IFs double the conditions twice; an ASSERT adds one; the arms of a CASE add up; and a loop with an
-- annotation has one condition at its beginning, one of its turns, and the one behind it
pub record ExamplesAreCounted (p : Program) (here : Option RoutineId) (n : Supply) (c : Condition) (f : Annotation) : Type 0 where
  pub two_ifs : lists_before p here n c (Sequence (If 1 (Boolean true) Empty Empty) (If 2 (Boolean true) Empty Empty)) ≡ 2 ∷ 4 ∷ []
  pub assertion : lists_before p here n c (Assert f) ≡ 2 ∷ []
  pub arms : (labels : List ℤ) → lists_before p here n c (Case 1 (Numeral (pos 0)) (arm labels Empty (arm labels (Assert f) no_arms))) ≡ 1 ∷ 2 ∷ 3 ∷ []
  pub while_loop : lists_before p here n c (While 1 (Some f) (Boolean true) Empty) ≡ 2 ∷ 3 ∷ []
  pub repeat_loop : lists_before p here n c (Repeat 1 (Some f) Empty (Boolean true)) ≡ 2 ∷ 3 ∷ []
  pub counting_loop : (x : Symbol) (d : Direction) → lists_before p here n c (For 1 (Some f) (record { variable = x; direction = d; first = Numeral (pos 0); last = Numeral (pos 9) }) Empty) ≡ 3 ∷ []
