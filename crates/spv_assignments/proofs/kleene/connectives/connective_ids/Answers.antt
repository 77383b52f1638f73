use Rattle.std.proofs.Common.{refl, arith}
use Rattle.spv_assignments.proofs.kleene.Listing.{listed_next, listed_all}
use Rattle.spv_assignments.proofs.kleene.connectives.connective_ids.Goals as goal

pub loop-i-preserved : goal.loop-i-preserved
loop-i-preserved c =
    listed_next c.args.terms.now c.loop-i.i c.loop-i.ids.items _ c.loop-i.invariant _ refl c.is_connective-wanted.result c.is_connective-wanted.ensures c.in_ok-push_if.ensures

pub returns : goal.returns
returns c = listed_all c.args.terms.now c.loop-i.i c.loop-i.ids.items c.loop-i.invariant (omega (arith, c.loop-i-test.false, c.len-i-end.ensures.len, c.loop-i.auto.i-end))
