-- What a walk over statements makes, in order, where others make the terms of expressions and the conditions before leaves. What
-- comes behind a statement was made before.
use Rattle.std.specs.Prelude.{ℕ, ◌+◌, List, [], ◌∷◌, ◌++◌, length, Option}
use Rattle.spv_logic.specs.declared.conditions.Kind.TheVariants as kind
use Rattle.spv_logic.specs.declared.conditions.RoutineId.{RoutineId}
use Rattle.spv_logic.specs.Terms.{Term}
use Rattle.spv_logic.specs.Conditions.{Condition}
use Rattle.spv_program.specs.declared.types.Item.TheVariants.{Variable}
use Rattle.spv_program.specs.Statements.{Statement, Arms, Empty, Assign, Perform, New, Sequence, If, Case, While, Repeat, For, Assert, no_arms, arm}
use Rattle.spv_program.specs.Programs.{Program, routine_in}
use Rattle.spv_program.specs.Terms.{alone, item_head}
use Rattle.spv_program.specs.ExpressionTerms.{Called, valued}
use Rattle.spv_assign.specs.Conditions.{all_terms_in}
use Rattle.spv_meaning.specs.Before.{Made, all_assuming, annotation_term, before, before_arms, before_calls, is_label, negated, next_term, wanted_if_there, wanted_with}
use Rattle.spv_assign.specs.creation_trace.Events.{Event}
use Rattle.spv_assign.specs.creation_trace.StatementEvents.{counted, events, in_order, loop_events, loop_names, one, one_if_there, several}
use Rattle.spv_flow_parts.specs.for_loops.Counting.{counter_terms, ended_events, ended_made}
use Rattle.spv_flow_parts.specs.leaves.Parts.{Making}
use Rattle.spv_flow_parts.specs.leaves.Values.{call_events}

-- the calls of a FOR's ends in front of conditions, those of the last one first
abbrev pub end_call_events : Option RoutineId → List Called → List Called → List Condition → List (List Event)
end_call_events here first last conditions = call_events here last conditions ∷ call_events here first (before_calls here last conditions) ∷ []

abbrev mutual
  pub events_by : Making → Program → Option RoutineId → Statement → Made → List Event
  events_by by p here Empty q = []
  events_by by p here (Assign d e) q = by.leaf (Assign d e) q
  events_by by p here (Perform c) q = by.leaf (Perform c) q
  events_by by p here (New line d t) q = by.leaf (New line d t) q
  events_by by p here (Sequence a b) q = in_order (events_by by p here b q ∷ events_by by p here a (before p here b q) ∷ [])
  events_by by p here (If line e a b) q =
      let v = valued p (routine_in p here) q.supply e in
      let to_first : Made = record { conditions = q.conditions; supply = v.supply } in
      let first = before p here a to_first in
      let to_second : Made = record { conditions = q.conditions; supply = first.supply } in
      let second = before p here b to_second in
      in_order (by.test e q.supply
      ∷ events_by by p here a to_first
      ∷ events_by by p here b to_second
      ∷ one (negated v.term)
      ∷ counted (length first.conditions + length second.conditions)
      ∷ call_events here v.calls (all_assuming v.term first.conditions ++ all_assuming (negated v.term) second.conditions)
      ∷ [])
  events_by by p here (Case line e arms) q =
      let v = valued p (routine_in p here) q.supply e in
      let to_arms : Made = record { conditions = q.conditions; supply = v.supply } in
      in_order (by.test e q.supply
      ∷ arm_events_by by p here v.term arms 0 to_arms
      ∷ call_events here v.calls (before_arms p here v.term arms to_arms).conditions
      ∷ [])
  events_by by p here (While line f e s) q =
      let v = valued p (routine_in p here) q.supply e in
      let again : Made = record { conditions = wanted_if_there p here kind.Preserved f; supply = v.supply } in
      let turn = before p here s again in
      let uses = all_assuming v.term turn.conditions ++ all_assuming (negated v.term) q.conditions in
      in_order (by.test e q.supply
      ∷ one_if_there (annotation_term p here f)
      ∷ events_by by p here s again
      ∷ one (negated v.term)
      ∷ counted (length uses)
      ∷ call_events here v.calls uses
      ∷ loop_events p here f (loop_names p here (While line f e s) turn.supply) (before_calls here v.calls uses)
      ∷ [])
  events_by by p here (Repeat line f s e) q =
      let v = valued p (routine_in p here) q.supply e in
      let uses = all_assuming (negated v.term) (wanted_if_there p here kind.Preserved f) ++ all_assuming v.term q.conditions in
      let to_turn : Made = record { conditions = before_calls here v.calls uses; supply = v.supply } in
      let turn = before p here s to_turn in
      in_order (by.test e q.supply
      ∷ one_if_there (annotation_term p here f)
      ∷ one (negated v.term)
      ∷ counted (length uses)
      ∷ call_events here v.calls uses
      ∷ events_by by p here s to_turn
      ∷ loop_events p here f (loop_names p here (Repeat line f s e) turn.supply) turn.conditions
      ∷ [])
  events_by by p here (For line f count s) q =
      let first = valued p (routine_in p here) q.supply count.first in
      let last = valued p (routine_in p here) first.supply count.last in
      let v = item_head p (routine_in p here) (Variable count.variable) in
      let again : Made = record { conditions = wanted_with p here kind.Preserved v (next_term count.direction (alone v)) f; supply = last.supply } in
      let turn = before p here s again in
      let fresh = loop_names p here (For line f count s) turn.supply in
      in_order (by.test count.first q.supply
      ∷ by.test count.last first.supply
      ∷ one_if_there (annotation_term p here f)
      ∷ several (counter_terms count.direction v)
      ∷ several (all_terms_in again.conditions)
      ∷ events_by by p here s again
      ∷ ended_events p here f count.direction v first.term last.term fresh turn.conditions q.conditions
      ∷ end_call_events here first.calls last.calls (ended_made p here f count.direction v first.term last.term fresh turn.conditions q.conditions).conditions)
  events_by by p here (Assert a) q = events p here (Assert a) q

  -- the arms of a CASE, behind so many conditions of the arms before them
  pub arm_events_by : Making → Program → Option RoutineId → Term → Arms → ℕ → Made → List Event
  arm_events_by by p here t no_arms count q = []
  arm_events_by by p here t (arm labels s others) count q =
      let first = before p here s q in
      let so_far = count + length first.conditions in
      in_order (events_by by p here s q
      ∷ one (is_label t labels)
      ∷ counted so_far
      ∷ arm_events_by by p here t others so_far (record { conditions = q.conditions; supply = first.supply })
      ∷ [])
