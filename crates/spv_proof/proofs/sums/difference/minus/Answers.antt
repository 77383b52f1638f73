use Rattle.std.proofs.Common.{refl}
use Rattle.spv_atoms.proofs.Sums.{narrow}
use Rattle.spv_proof.proofs.sums.Negated.{other_sign, minus_made}
use Rattle.spv_proof.proofs.sums.difference.minus.Goals as goal

pub returns-in-Ok : goal.returns-in-Ok
returns-in-Ok c =
    minus_made c.args.left c.args.right c.in-Ok.number _ _ (narrow c.args.left c.requires.left) (other_sign c.args.right c.requires.right) c.in-Ok.ensures.value (c.in-Ok.ensures.fits.0 refl)
