use Rattle.std.proofs.Common.{pos, ◌<◌, length, arith}
use Rattle.spv_proof.specs.declared.sums.fault.SumFault.{SumFault}
use Rattle.spv_proof.specs.sums.Added.{StopsParts}
use Rattle.spv_proof.proofs.sums.Tallies.{part-narrow, adding_turn, adding_turn_stops, if_same}
use Rattle.spv_proof.proofs.sums.adding.add_parts.Goals as goal

pub returns-in_err-factor-clause-stop : goal.returns-in_err-factor-clause-stop
returns-in_err-factor-clause-stop c =
    let below : c.loop-part.part-index < length c.args.parts.now = omega (arith, c.loop-part-test.true) in
    if_same c.from_residual.result c.in_err-factor.field-0.0 (λ (e : SumFault). StopsParts c.args.m c.args.parts.now c.args.sum.now e) c.from_residual.ensures.1
    (adding_turn_stops c.args.m c.args.parts.now c.args.sum.now c.loop-part.sum c.loop-part.part-index (record { 0 = 0 }, pos 0) below c.loop-part.invariant _ _ c.factor.ensures
    (part-narrow c.args.m c.args.parts.now c.args.sum.now c.loop-part.sum c.loop-part.part-index (record { 0 = 0 }, pos 0) below c.loop-part.invariant)
    c.in_err-factor.field-0.0 c.in_err-factor.ensures.stop)

pub loop-part-preserved : goal.loop-part-preserved
loop-part-preserved c =
    let below : c.loop-part.part-index < length c.args.parts.now = omega (arith, c.loop-part-test.true) in
    adding_turn c.args.m c.args.parts.now c.args.sum.now c.loop-part.sum c.loop-part.part-index (record { 0 = 0 }, pos 0) below c.loop-part.invariant _ _ c.factor.ensures
    (part-narrow c.args.m c.args.parts.now c.args.sum.now c.loop-part.sum c.loop-part.part-index (record { 0 = 0 }, pos 0) below c.loop-part.invariant)
    c.in_ok-factor.factor c.set_factor.new.self c.in_ok-factor.ensures.value c.in_ok-set_factor.ensures
