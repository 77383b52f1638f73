use Rattle.std.proofs.Common.{◌<◌, ◌≤◌, length, drop, arith}
use Rattle.std.proofs.lemmas.Grind.{common_steps}
use Rattle.std.proofs.lemmas.List.{drop_all}
use Rattle.spv_assign.proofs.pending.WrittenOut.{step_listed, all_listed}
use Rattle.spv_assign.proofs.pending.listing.conditions.Goals as goal

pub loop-place-preserved : goal.loop-place-preserved
loop-place-preserved c =
    let within : c.loop-place.place < length c.args.steps.now.items = grind (arith, common_steps, c.loop-place-test.true, c.len-place-end.ensures) in
    step_listed c.args.steps.now.items c.loop-place.place c.index.result.now c.loop-place.known.items c.take.new.known.items c.loop-place.all.items c.take.new.all.items within c.index.ensures c.in_ok-take.ensures
    c.loop-place.invariant

pub returns : goal.returns
returns c =
    let past : length c.args.steps.now.items ≤ c.loop-place.place = grind (arith, common_steps, c.loop-place-test.false, c.len-place-end.ensures) in
    all_listed c.args.steps.now.items (drop c.loop-place.place c.args.steps.now.items) c.loop-place.known.items c.loop-place.all.items (drop_all c.loop-place.place c.args.steps.now.items past) c.loop-place.invariant
