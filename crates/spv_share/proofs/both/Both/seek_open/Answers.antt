use Rattle.std.proofs.Common.{◌≡◌, rules, false, true}
use Rattle.spv_derivations.proofs.derivation.Bridges.{if_ok}
use Rattle.spv_share.proofs.Giving.{at_place, left_node, right_node, there}
use Rattle.spv_share.proofs.Goings.{goes_same}
use Rattle.spv_share.proofs.Seeking.{found_not_open, found_same, open_at}
use Rattle.spv_share.proofs.both.Both.seek_open.Goals as goal

pub is_open-requires-clause-left : goal.is_open-requires-clause-left
is_open-requires-clause-left c = left_node c.args.terms.now c.args.self.now c.requires.sound c.args.place c.index-related.result.now (at_place c.args.self.now.relations.items c.args.place c.index-related.result.now c.requires.place c.index-related.ensures)

pub is_open-requires-clause-right : goal.is_open-requires-clause-right
is_open-requires-clause-right c = right_node c.args.terms.now c.args.self.now c.requires.sound c.args.place c.index-related.result.now (at_place c.args.self.now.relations.items c.args.place c.index-related.result.now c.requires.place c.index-related.ensures)

pub returns-then-not-is_open-clause-goes : goal.returns-then-not-is_open-clause-goes
returns-then-not-is_open-clause-goes c = goes_same c.args.terms.now c.args.self.now c.requires.sound

pub returns-then-not-is_open-clause-found : goal.returns-then-not-is_open-clause-found
returns-then-not-is_open-clause-found c = let none : c.is_open.result ≡ false = search rules in found_not_open c.args.self.now c.args.place c.index-related.result.now c.is_open.result (at_place c.args.self.now.relations.items c.args.place c.index-related.result.now c.requires.place c.index-related.ensures) c.is_open.ensures none

pub seek_point-requires-clause-there : goal.seek_point-requires-clause-there
seek_point-requires-clause-there c = there c.args.terms.now c.args.self.now c.requires.sound c.args.place c.index-related.result.now (at_place c.args.self.now.relations.items c.args.place c.index-related.result.now c.requires.place c.index-related.ensures)

pub seek_point-requires-clause-unjoined : goal.seek_point-requires-clause-unjoined
seek_point-requires-clause-unjoined c = let sure : c.is_open.result ≡ true = search rules in open_at c.args.self.now c.args.place c.index-related.result.now c.is_open.result c.is_open.ensures sure

pub returns-clause-found : goal.returns-clause-found
returns-clause-found c = if_ok c.seek_point.result c.seek_point.ensures.found (λ s h r at. found_same c.args.self.now c.seek_point.new.self c.index-related.result.now r s c.args.place (at_place c.args.self.now.relations.items c.args.place c.index-related.result.now c.requires.place c.index-related.ensures) at h)
