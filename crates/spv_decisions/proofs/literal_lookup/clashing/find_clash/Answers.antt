use Rattle.std.proofs.Common.{arith}
use Rattle.spv_decisions.proofs.literal_lookup.Turns.{all_of_them}
use Rattle.spv_decisions.proofs.literal_lookup.Among.{core_at}
use Rattle.spv_decisions.proofs.literal_lookup.Opposed.{NoClash, no_clash_more, clash_found}
use Rattle.spv_decisions.proofs.literal_lookup.clashing.find_clash.Goals as goal

pub clash_with-requires-clause-k : goal.clash_with-requires-clause-k
clash_with-requires-clause-k c = core_at c.args.terms.now c.args.known.now c.loop-k.k-index _ c.requires.known c.loop-k-test.true

pub returns-in-Some-clause-found : goal.returns-in-Some-clause-found
returns-in-Some-clause-found c = clash_found c.args.terms.now c.args.known.now c.args.added c.loop-k.k-index _ c.in-Some.found c.loop-k-test.true c.in-Some.ensures.found

pub loop-k-preserved : goal.loop-k-preserved
loop-k-preserved c = no_clash_more c.args.terms.now c.args.known.now c.args.added c.loop-k.k-index _ c.loop-k.invariant c.loop-k-test.true c.in_default.ensures.none

pub returns-clause-none : goal.returns-clause-none
returns-clause-none c = record {
  each = all_of_them (NoClash c.args.terms.now c.args.added) c.args.known.now c.loop-k.k-index c.loop-k.invariant (omega (arith, c.loop-k-test.false));
}
