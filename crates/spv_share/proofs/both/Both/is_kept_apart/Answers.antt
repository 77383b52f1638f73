use Rattle.std.proofs.Common.{◌≡◌, rules, false}
use Rattle.spv_share.proofs.Giving.{at_place, left_node, right_node, row_there}
use Rattle.spv_share.proofs.Seeking.{kept_at, not_open_apart}
use Rattle.spv_share.proofs.both.Both.is_kept_apart.Goals as goal

pub is_open-requires-clause-left : goal.is_open-requires-clause-left
is_open-requires-clause-left c = left_node c.args.terms.now c.args.self.now c.requires.sound c.args.place c.index-related.result.now (at_place c.args.self.now.relations.items c.args.place c.index-related.result.now c.requires.place c.index-related.ensures)

pub is_open-requires-clause-right : goal.is_open-requires-clause-right
is_open-requires-clause-right c = right_node c.args.terms.now c.args.self.now c.requires.sound c.args.place c.index-related.result.now (at_place c.args.self.now.relations.items c.args.place c.index-related.result.now c.requires.place c.index-related.ensures)

pub is_kept-requires-clause-row : goal.is_kept-requires-clause-row
is_kept-requires-clause-row c = row_there c.args.terms.now c.args.self.now c.requires.sound c.args.place c.index-related.result.now (at_place c.args.self.now.relations.items c.args.place c.index-related.result.now c.requires.place c.index-related.ensures)

pub returns-then-not-is_open : goal.returns-then-not-is_open
returns-then-not-is_open c = λ sure. let none : c.is_open.result ≡ false = search rules in not_open_apart c.args.self.now c.args.place c.index-related.result.now c.is_open.result (at_place c.args.self.now.relations.items c.args.place c.index-related.result.now c.requires.place c.index-related.ensures) c.is_open.ensures none

pub returns : goal.returns
returns c = λ sure r at e. kept_at c.args.terms.now c.args.self.now c.requires.sound c.args.place c.index-related.result.now (at_place c.args.self.now.relations.items c.args.place c.index-related.result.now c.requires.place c.index-related.ensures) (c.is_kept.ensures sure)
