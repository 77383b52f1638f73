use Rattle.std.proofs.Common.{arith}
use Rattle.spv_assignments.proofs.kleene.Filling.{turn_clashes, turn_passes, turn_inside, passed_all}
use Rattle.spv_assignments.proofs.kleene.passes.first_clash.Goals as goal

pub returns-then-opposite-clause-clash : goal.returns-then-opposite-clause-clash
returns-then-opposite-clause-clash c =
    turn_clashes c.args.terms.now c.law_arena.ensures c.args.ids.now c.requires.ids c.args.own.now c.args.s c.args.v c.loop-t.t-index c.loop-t.found.items c.loop-t.invariant (record { 0 = 0 }) (omega (arith, c.loop-t-test.true))
    c.as_slice.result.now c.as_slice.ensures.value c.computed-value.result c.computed-value.ensures c.given_at-given.result c.given_at-given.ensures c.opposite.result c.opposite.ensures c.if-opposite.true

pub set-requires : goal.set-requires
set-requires c =
    turn_inside c.args.terms.now c.law_arena.ensures c.args.ids.now c.requires.ids c.args.own.now c.args.s c.args.v c.loop-t.t-index c.loop-t.found.items c.loop-t.invariant (record { 0 = 0 }) (omega (arith, c.loop-t-test.true))

pub loop-t-preserved : goal.loop-t-preserved
loop-t-preserved c =
    turn_passes c.args.terms.now c.law_arena.ensures c.args.ids.now c.requires.ids c.args.own.now c.args.s c.args.v c.loop-t.t-index c.loop-t.found.items c.loop-t.invariant (record { 0 = 0 }) (omega (arith, c.loop-t-test.true))
    c.as_slice.result.now c.as_slice.ensures.value c.computed-value.result c.computed-value.ensures c.given_at-given.result c.given_at-given.ensures c.opposite.result c.opposite.ensures c.if-opposite.false
    _ c.or_else.result c.or_else.ensures c.set.ensures

pub returns-clause-none : goal.returns-clause-none
returns-clause-none c =
    passed_all c.args.terms.now c.law_arena.ensures c.args.ids.now c.requires.ids c.args.own.now c.args.s c.args.v c.loop-t.t-index c.loop-t.found.items c.loop-t.invariant (omega (arith, c.loop-t-test.false))
