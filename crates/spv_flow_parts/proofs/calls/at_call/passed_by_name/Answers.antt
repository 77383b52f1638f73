use Rattle.std.proofs.Common.{◌∙◌, sym, arith}
use Rattle.spv_flow_parts.proofs.calls.Passing.{none_begin, none_next, by_name, by_no_name}
use Rattle.spv_flow_parts.proofs.calls.at_call.passed_by_name.Goals as goal

pub loop-place-init : goal.loop-place-init
loop-place-init g c = none_begin c.args.name c.args.formals.now _

pub loop-place-preserved : goal.loop-place-preserved
loop-place-preserved g c = none_next c.args.name c.args.formals.now _ c.loop-place.place c.loop-place.invariant (sym c.eq.ensures ∙ c.if-eq.false)

pub returns-then-eq : goal.returns-then-eq
returns-then-eq g c =
    λ a present.
    by_name g.at.program g.at.routine c.args.name c.args.formals.now _ c.args.now.now g.at.arguments c.loop-place.place c.requires.0 c.loop-place.invariant a present _ c.loop-place-test.true c.requires.1
    (sym c.eq.ensures ∙ c.if-eq.true)

pub returns : goal.returns
returns g c =
    λ a present.
    by_no_name g.at.program g.at.routine c.args.name c.args.formals.now _ c.args.now.now g.at.arguments c.loop-place.place c.requires.0 c.loop-place.invariant a present (omega (arith, c.loop-place-test.false))
