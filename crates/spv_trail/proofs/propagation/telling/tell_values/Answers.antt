use Rattle.std.proofs.Common.{arith}
use Rattle.std.proofs.lemmas.Option.{slice_get-get_or}
use Rattle.spv_trail.proofs.propagation.Changes.{tellable_then, none_told, one_more_told, all_told, if_some_value}
use Rattle.spv_trail.proofs.propagation.telling.tell_values.Goals as goal

pub loop-t-init : goal.loop-t-init
loop-t-init c = none_told c.args.terms.now c.args.condition.now c.args.derivation.now c.args.known.now c.args.both.now c.args.questions.now c.args.before.now c.args.now.now c.requires.both

pub tell_changed-requires-clause-t : goal.tell_changed-requires-clause-t
tell_changed-requires-clause-t c =
    tellable_then c.args.terms.now c.args.condition.now c.args.both.now c.loop-t.both _ c.loop-t.invariant.goes.stays (c.requires.questions.each c.loop-t.t-index _ (slice_get-get_or c.args.questions.now c.loop-t.t-index _ c.loop-t-test.true))

pub tell_changed-requires-clause-value : goal.tell_changed-requires-clause-value
tell_changed-requires-clause-value c =
    if_some_value c.args.terms.now c.args.known.now c.args.now.now _ c.value_at-new_value.result c.requires.values
    (c.requires.questions.each c.loop-t.t-index _ (slice_get-get_or c.args.questions.now c.loop-t.t-index _ c.loop-t-test.true)).formula.within c.value_at-new_value.ensures

pub loop-t-preserved : goal.loop-t-preserved
loop-t-preserved c =
    one_more_told c.args.terms.now c.args.condition.now c.args.derivation.now c.loop-t.derivation c.tell_changed.new.derivation c.args.known.now c.args.both.now c.loop-t.both c.tell_changed.new.both c.args.questions.now c.args.before.now c.args.now.now c.loop-t.t-index _
    c.value_at-old_value.result c.value_at-new_value.result c.value_at-old_value.ensures c.value_at-new_value.ensures c.loop-t.invariant c.loop-t-test.true c.in_ok-tell_changed.ensures.both c.in_ok-tell_changed.ensures.goes c.in_ok-tell_changed.ensures.tells

pub returns-clause-tells : goal.returns-clause-tells
returns-clause-tells c =
    all_told c.args.terms.now c.args.condition.now c.args.derivation.now c.loop-t.derivation c.args.known.now c.args.both.now c.loop-t.both c.args.questions.now c.args.before.now c.args.now.now c.loop-t.t-index c.loop-t.invariant (omega (arith, c.loop-t-test.false))
