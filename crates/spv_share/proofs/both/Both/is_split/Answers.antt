use Rattle.std.proofs.Common.{refl}
use Rattle.spv_share.proofs.Points.{split_above, split_below}
use Rattle.spv_share.proofs.both.Both.is_split.Goals as goal

pub returns-then-is_met : goal.returns-then-is_met
returns-then-is_met c = λ sure. split_above c.args.self.now.standing c.args.related.row c.requires.kept c.requires.point (c.if-is_met.ensures refl)

pub returns-else-is_met : goal.returns-else-is_met
returns-else-is_met c = λ sure. split_below c.args.self.now.standing c.args.related.row c.requires.kept c.requires.point (c.is_met-else-is_met.ensures sure)
