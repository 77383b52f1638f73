use Rattle.std.proofs.Common.{length, arith}
use Rattle.spv_table.specs.Kept.{listed_over}
use Rattle.spv_verdicts.proofs.candidate_models.Worths.{one_key, pair_in_here, pairs_as}
use Rattle.spv_verdicts.proofs.candidate_models.keys.keys_of.Goals as goal

pub key_of-requires-clause-t : goal.key_of-requires-clause-t
key_of-requires-clause-t c =
    pair_in_here c.args.terms.now c.args.pairs.now c.loop-place.place c.index-pairs-place.result (pairs_as c.args.terms.now c.args.table.now.values c.args.pairs.now c.requires.pairs c.requires.values) (omega (arith, c.loop-place-test.true))

pub loop-place-preserved : goal.loop-place-preserved
loop-place-preserved c =
    one_key c.args.terms.now (listed_over c.args.terms.now c.args.table.now.values) c.args.pairs.now c.loop-place.place c.index-pairs-place.result (omega (arith, c.loop-place-test.true)) c.loop-place.keys.items c.push.new.self.items
    c.in-Some.key c.loop-place.invariant (rw c.in-Some.is at c.in_ok-found.ensures) c.in_ok-push-in-Some.ensures.items
