use Rattle.spv_atoms.proofs.Sums.{narrow}
use Rattle.spv_proof.proofs.sums.Negated.{less_constant, one_less}
use Rattle.spv_proof.proofs.sums.difference.constant.Goals as goal

pub returns-then-right-gt0 : goal.returns-then-right-gt0
returns-then-right-gt0 c =
    less_constant c.args.is_above c.args.left c.args.right _ _ c.minus-then-right-gt0.result c.if-not-is_above.false
    (narrow c.args.left c.requires.left) (one_less c.args.right c.requires.right c.if-right-gt0.true) c.minus-then-right-gt0.ensures
