use Rattle.std.proofs.Common.{refl}
use Rattle.spv_assignments.specs.kleene.Passes.{plain_at}
use Rattle.spv_assignments.proofs.kleene.Listing.{valued_next}
use Rattle.spv_assignments.proofs.kleene.connectives.plain_values.Goals as goal

pub loop-i-preserved : goal.loop-i-preserved
loop-i-preserved c = valued_next c.loop-i.i (plain_at c.args.terms.now) c.loop-i.values.items _ _ c.plain_at.result c.loop-i.invariant refl c.plain_at.ensures c.in_ok-push.ensures.items
