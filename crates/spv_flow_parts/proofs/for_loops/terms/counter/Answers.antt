use Rattle.std.proofs.Common.{subst}
use Rattle.spv_logic.specs.Terms.{Term}
use Rattle.spv_logic.specs.declared.types.Sort.TheVariants as sort
use Rattle.spv_assign.specs.creation_trace.Events.{Stops, Walked}
use Rattle.spv_assign.specs.creation_trace.StatementEvents.{one}
use Rattle.spv_program.specs.Terms.{alone}
use Rattle.spv_meaning.specs.Before.{next_term}
use Rattle.spv_assign.proofs.limited_steps.Limits.{same_stop, sort_from}
use Rattle.spv_assign.proofs.limited_steps.Renamings.{stops_at_one, stops_at_two, walked_two}
use Rattle.spv_flow_parts.specs.for_loops.Counting.{number_head}
use Rattle.spv_flow_parts.proofs.for_loops.Tests.{is_counter}
use Rattle.spv_flow_parts.proofs.for_loops.terms.counter.Goals as goal

pub returns-in_err-variable-clause-walk : goal.returns-in_err-variable-clause-walk
returns-in_err-variable-clause-walk c =
    same_stop c.from_residual.result c.in_err-variable.field-0.0 _ _ _ c.from_residual.ensures.1
    (stops_at_one (alone (number_head c.args.x)) (next_term c.args.direction (alone (number_head c.args.x))) c.in_err-variable.field-0.0 c.args.terms.now c.made.new.terms c.in_err-variable.ensures.walk)

pub next_value-requires-clause-sort : goal.next_value-requires-clause-sort
next_value-requires-clause-sort c = sort_from sort.Int _ c.in_ok-variable.ensures.sort

pub returns-in_err-next-clause-walk : goal.returns-in_err-next-clause-walk
returns-in_err-next-clause-walk c =
    same_stop c.from_residual-in_err-next.result c.in_err-next.field-0.0 _ _ _ c.from_residual-in_err-next.ensures.1
    (stops_at_two (alone (number_head c.args.x)) (next_term c.args.direction (alone (number_head c.args.x))) c.in_err-next.field-0.0 c.args.terms.now c.made.new.terms c.next_value.new.terms c.in_ok-variable.ensures.walk
    (subst (λ (t : Term). Stops c.in_err-next.field-0.0 (one (next_term c.args.direction t)) c.made.new.terms c.next_value.new.terms) c.in_ok-variable.ensures.term.is_tree c.in_err-next.ensures.walk))

pub returns-clause-counter : goal.returns-clause-counter
returns-clause-counter c =
    is_counter c.made.new.terms c.next_value.new.terms c.in_ok-variable.variable c.in_ok-next.next c.args.direction (number_head c.args.x) c.in_ok-variable.ensures.term c.in_ok-next.ensures.grows c.in_ok-next.ensures.term
    (sort_from sort.Int _ c.in_ok-variable.ensures.sort) c.in_ok-next.ensures.sort

pub returns-clause-walk : goal.returns-clause-walk
returns-clause-walk c =
    walked_two (alone (number_head c.args.x)) (next_term c.args.direction (alone (number_head c.args.x))) c.args.terms.now c.made.new.terms c.next_value.new.terms c.in_ok-variable.ensures.walk
    (subst (λ (t : Term). Walked (one (next_term c.args.direction t)) c.made.new.terms c.next_value.new.terms) c.in_ok-variable.ensures.term.is_tree c.in_ok-next.ensures.walk)
