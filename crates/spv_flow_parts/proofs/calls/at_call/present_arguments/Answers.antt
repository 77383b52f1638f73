use Rattle.spv_term.proofs.ArenaLemmas.{Extends-trans}
use Rattle.spv_assign.proofs.limited_steps.Limits.{same_stop}
use Rattle.spv_flow_parts.proofs.calls.Presenting.{present_begin, given_itself, given_sort, present_stop, present_next, present_walk, present_all}
use Rattle.spv_flow_parts.proofs.calls.at_call.present_arguments.Goals as goal

pub loop-argument-init : goal.loop-argument-init
loop-argument-init g c = present_begin c.args.terms.now g.at.arguments _ c.new-ids.ensures

pub present_argument-requires-clause-given : goal.present_argument-requires-clause-given
present_argument-requires-clause-given g c =
    given_itself c.args.terms.now c.loop-argument.terms g.at.arguments c.loop-argument.argument-index c.loop-argument.ids c.args.given.now c.argument-item.result c.loop-argument.invariant c.requires.1 c.loop-argument-test.true c.argument-item.is

pub present_argument-requires-clause-sorts : goal.present_argument-requires-clause-sorts
present_argument-requires-clause-sorts g c =
    given_sort c.args.terms.now c.loop-argument.terms g.at.arguments c.loop-argument.argument-index c.loop-argument.ids c.args.given.now c.argument-item.result c.loop-argument.invariant c.requires.1 c.loop-argument-test.true c.argument-item.is
    c.requires.0

pub loop-argument-preserved : goal.loop-argument-preserved
loop-argument-preserved g c =
    present_next c.args.terms.now c.loop-argument.terms g.at.arguments c.loop-argument.argument-index c.loop-argument.ids c.args.given.now c.argument-item.result c.loop-argument.invariant c.requires.1 c.loop-argument-test.true c.argument-item.is
    c.present_argument.new.terms c.in_ok-id.id c.push.new.self c.in_ok-id.ensures.grows c.in_ok-id.ensures.walk c.in_ok-id.ensures.term c.in_ok-push.ensures.ok

pub returns-in_err-id-clause-grows : goal.returns-in_err-id-clause-grows
returns-in_err-id-clause-grows g c = Extends-trans c.loop-argument.invariant.terms.walked.grows c.present_argument.ensures.grows

pub returns-in_err-push-clause-grows : goal.returns-in_err-push-clause-grows
returns-in_err-push-clause-grows g c = Extends-trans c.loop-argument.invariant.terms.walked.grows c.present_argument.ensures.grows

pub returns-in_err-id-clause-walk : goal.returns-in_err-id-clause-walk
returns-in_err-id-clause-walk g c =
    same_stop c.from_residual.result c.in_err-id.field-0.0 _ _ _ c.from_residual.ensures.1
    (present_stop c.args.terms.now c.loop-argument.terms g.at.arguments c.loop-argument.argument-index c.loop-argument.ids c.args.given.now c.argument-item.result c.loop-argument.invariant c.requires.1 c.loop-argument-test.true c.argument-item.is
    c.present_argument.new.terms c.in_err-id.field-0.0 c.in_err-id.ensures.walk)

pub returns-clause-grows : goal.returns-clause-grows
returns-clause-grows g c = c.loop-argument.invariant.terms.walked.grows

pub returns-clause-walk : goal.returns-clause-walk
returns-clause-walk g c = present_walk c.args.terms.now c.loop-argument.terms g.at.arguments c.loop-argument.argument-index c.loop-argument.ids c.args.given.now c.loop-argument.invariant c.requires.1 c.loop-argument-test.false

pub returns-clause-present : goal.returns-clause-present
returns-clause-present g c = present_all c.args.terms.now c.loop-argument.terms g.at.arguments c.loop-argument.argument-index c.loop-argument.ids c.args.given.now c.loop-argument.invariant c.requires.1 c.loop-argument-test.false
