use Rattle.std.proofs.Common.{sym, ◌∙◌}
use Rattle.spv_congruence.specs.Keep.{graph}
use Rattle.spv_congruence.proofs.Splits.{split_forth, split_back}
use Rattle.spv_congruence.proofs.kept.Kept.split.Goals as goal

pub returns-then-were_same : goal.returns-then-were_same
returns-then-were_same c = split_forth (graph c.args.self.now) c.args.self.now.classes.count c.law_joins.ensures c.requires.graph c.args.s c.args.t c.latest-place.result c.latest-place.ensures c.join_at-join.result c.join_at-join.ensures _ (sym c.were_same.ensures ∙ c.if-were_same.true) c.link-link.ensures

pub returns-else-were_same : goal.returns-else-were_same
returns-else-were_same c = split_back (graph c.args.self.now) c.args.self.now.classes.count c.law_joins.ensures c.requires.graph c.args.s c.args.t c.latest-place.result c.latest-place.ensures c.join_at-join.result c.join_at-join.ensures _ (sym c.were_same.ensures ∙ c.if-were_same.false) c.link-link-else-were_same.ensures
