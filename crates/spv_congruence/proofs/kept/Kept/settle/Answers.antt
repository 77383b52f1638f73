use Rattle.spv_congruence.proofs.Goings.{goes_refl}
use Rattle.spv_congruence.proofs.kept.Kept.settle.Goals as goal

pub loop-equal-init : goal.loop-equal-init
loop-equal-init c = record { fits = c.requires.fits; level = c.requires.level; goes = goes_refl _ }
