use Rattle.std.proofs.Common.{length, ap, arith}
use Rattle.spv_term.proofs.TreeLemmas.{AllBelow-at}
use Rattle.spv_trail.proofs.backtracking.Giving.{given_at, first_none, one_more_known, all_known}
use Rattle.spv_trail.proofs.backtracking.beginning.give_hypotheses.Goals as goal

pub give_one-requires-clause-t : goal.give_one-requires-clause-t
give_one-requires-clause-t c =
    AllBelow-at (length c.args.terms.now.nodes) c.args.condition.now.given c.loop-place.place _ c.requires.given (given_at c.args.condition.now.given c.as_slice-given.result.now c.loop-place.place _ c.as_slice-given.ensures c.loop-place-test.true)

pub loop-place-preserved : goal.loop-place-preserved
loop-place-preserved c =
    one_more_known c.args.terms.now c.args.condition.now c.loop-place.derivation c.give_one.new.derivation c.loop-place.known.items c.give_one.new.known.items c.loop-place.place _
    (given_at c.args.condition.now.given c.as_slice-given.result.now c.loop-place.place _ c.as_slice-given.ensures c.loop-place-test.true) c.loop-place.invariant
    (first_none c.args.terms.now c.args.condition.now c.give_one.new.derivation c.give_one.new.known.items c.loop-place.known.items _ c.in_ok-end.end c.in_default.is c.in_ok-end.ensures)

pub returns : goal.returns
returns c =
    all_known c.args.terms.now c.args.condition.now c.loop-place.derivation c.loop-place.known.items c.loop-place.place c.loop-place.invariant
    (let all = c.loop-place-test.false in let many = ap length c.as_slice-given.ensures in omega (arith, all, many))
