use Rattle.std.proofs.Common.{subst, sym}
use Rattle.spv_congruence.specs.Keep.{Fits}
use Rattle.spv_congruence.proofs.Tells.{settle_level, fits_fact}
use Rattle.spv_congruence.proofs.kept.Kept.tell_or_stop.Goals as goal

pub settle-requires-clause-level : goal.settle-requires-clause-level
settle-requires-clause-level c = settle_level c.args.self.now c.write.new.self c.args.fact _ c.in_ok-write.ensures.ok c.requires.equals c.requires.fits c.requires.graph c.requires.left c.requires.right

pub settle-requires-clause-fits : goal.settle-requires-clause-fits
settle-requires-clause-fits c = subst Fits (sym c.in_ok-write.ensures.ok) (fits_fact c.args.self.now c.args.fact c.requires.left c.requires.right c.requires.fits)
