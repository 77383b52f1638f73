use Rattle.std.proofs.Common.{◌<◌, ◌≤◌, length, arith}
use Rattle.spv_proof.specs.declared.sums.fault.SumFault.{SumFault}
use Rattle.spv_proof.specs.sums.Added.{StopsSum}
use Rattle.spv_proof.proofs.sums.Tallies.{if_same}
use Rattle.spv_proof.proofs.sums.Multiples.{summing_starts, summing_turn, summing_turn_fails, summing_turn_stops, summing_done}
use Rattle.spv_proof.proofs.sums.adding.sum_of.Goals as goal

pub loop-multiple-init : goal.loop-multiple-init
loop-multiple-init c = summing_starts c.args.terms.now c.args.facts.now c.args.claim c.args.multiples.now c.new-sum.result c.new-sum.ensures

pub returns-in_err-add_cited-clause-stop : goal.returns-in_err-add_cited-clause-stop
returns-in_err-add_cited-clause-stop c =
    let below : c.loop-multiple.multiple-index < length c.args.multiples.now = omega (arith, c.loop-multiple-test.true) in
    if_same c.from_residual.result c.in_err-add_cited.field-0.0 (λ (e : SumFault). StopsSum c.args.terms.now c.args.facts.now c.args.claim c.args.multiples.now e) c.from_residual.ensures.1
    (summing_turn_stops c.args.terms.now c.args.facts.now c.args.claim c.args.multiples.now c.loop-multiple.sum c.loop-multiple.multiple-index c.multiple-item.result below c.multiple-item.is c.loop-multiple.invariant
    c.in_err-add_cited.field-0.0 c.in_err-add_cited.ensures.stop)

pub returns-then-not-branch-clause-summed : goal.returns-then-not-branch-clause-summed
returns-then-not-branch-clause-summed c =
    let below : c.loop-multiple.multiple-index < length c.args.multiples.now = omega (arith, c.loop-multiple-test.true) in
    summing_turn_fails c.args.terms.now c.args.facts.now c.args.claim c.args.multiples.now c.loop-multiple.sum c.loop-multiple.multiple-index c.multiple-item.result below c.multiple-item.is c.loop-multiple.invariant
    c.add_cited.new.sum _ c.in_ok-add_cited.ensures.added c.if-not-branch.true

pub loop-multiple-preserved : goal.loop-multiple-preserved
loop-multiple-preserved c =
    let below : c.loop-multiple.multiple-index < length c.args.multiples.now = omega (arith, c.loop-multiple-test.true) in
    summing_turn c.args.terms.now c.args.facts.now c.args.claim c.args.multiples.now c.loop-multiple.sum c.loop-multiple.multiple-index c.multiple-item.result below c.multiple-item.is c.loop-multiple.invariant
    c.add_cited.new.sum _ c.in_ok-add_cited.ensures.added c.if-not-branch.false

pub returns-clause-summed : goal.returns-clause-summed
returns-clause-summed c =
    let beyond : length c.args.multiples.now ≤ c.loop-multiple.multiple-index = omega (arith, c.loop-multiple-test.false) in
    summing_done c.args.terms.now c.args.facts.now c.args.claim c.args.multiples.now c.loop-multiple.sum c.loop-multiple.multiple-index beyond c.loop-multiple.invariant
