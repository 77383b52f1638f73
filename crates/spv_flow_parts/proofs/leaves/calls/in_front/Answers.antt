use Rattle.std.proofs.Common.{◌≡◌, ℕ, ◌-◌, drop, ap, refl, arith}
use Rattle.spv_flow_parts.proofs.leaves.InFront.{one_before, calls_go_on, calls_stop, calls_come}
use Rattle.spv_flow_parts.proofs.leaves.calls.in_front.Goals as goal

pub returns-in_err-made : goal.returns-in_err-made
returns-in_err-made c =
    λ a ds cs h these.
    calls_stop c.args.here (drop c.loop-place.place c.args.calls.now) c.args.rest.items c.loop-place.made.items c.loop-place.invariant c.index-calls-place.result c.from_residual.result c.in_err-made.field-0.0 c.args.calls.now
    (c.loop-place.place - 1) (one_before c.args.calls.now c.loop-place.place c.index-calls-place.result _ c.loop-place-test.true c.loop-place.auto.place c.index-calls-place.is) c.from_residual.ensures.1 c.in_err-made.ensures a ds cs h these

pub loop-place-preserved : goal.loop-place-preserved
loop-place-preserved c =
    calls_go_on c.args.here (drop c.loop-place.place c.args.calls.now) c.args.rest.items c.loop-place.made.items c.loop-place.invariant c.index-calls-place.result c.in_ok-made.made (drop (c.loop-place.place - 1) c.args.calls.now)
    (one_before c.args.calls.now c.loop-place.place c.index-calls-place.result _ c.loop-place-test.true c.loop-place.auto.place c.index-calls-place.is) c.in_ok-made.ensures

pub returns : goal.returns
returns c =
    let e : c.loop-place.place ≡ 0 = omega (arith, c.loop-place-test.false) in
    calls_come c.args.here (drop c.loop-place.place c.args.calls.now) c.args.calls.now c.args.rest.items c.loop-place.made.items c.loop-place.made (ap (λ (k : ℕ). drop k c.args.calls.now) e) refl c.loop-place.invariant
