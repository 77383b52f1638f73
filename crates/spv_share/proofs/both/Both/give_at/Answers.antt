use Rattle.std.proofs.Common.{◌≡◌, false, rules}
use Rattle.std.specs.Bool.{IsTrue}
use Rattle.spv_share.proofs.Giving.{at_place, left_node, right_node, row_there, there}
use Rattle.spv_share.proofs.Goings.{goes_same}
use Rattle.spv_share.proofs.Settling.{if_stands_at, not_joined, stands_at}
use Rattle.spv_share.proofs.both.Both.give_at.Goals as goal

pub is_joined-requires-clause-left : goal.is_joined-requires-clause-left
is_joined-requires-clause-left c = left_node c.args.terms.now c.args.self.now c.requires.sound c.args.place c.index-related.result.now (at_place c.args.self.now.relations.items c.args.place c.index-related.result.now c.requires.place c.index-related.ensures)

pub is_joined-requires-clause-right : goal.is_joined-requires-clause-right
is_joined-requires-clause-right c = right_node c.args.terms.now c.args.self.now c.requires.sound c.args.place c.index-related.result.now (at_place c.args.self.now.relations.items c.args.place c.index-related.result.now c.requires.place c.index-related.ensures)

pub returns-then-not-is_joined-clause-goes : goal.returns-then-not-is_joined-clause-goes
returns-then-not-is_joined-clause-goes c = goes_same c.args.terms.now c.args.self.now c.requires.sound

pub returns-then-not-is_joined-clause-stands : goal.returns-then-not-is_joined-clause-stands
returns-then-not-is_joined-clause-stands c =
    let none : c.is_joined.result ≡ false = search rules in
    not_joined c.args.self.now c.args.place c.index-related.result.now c.is_joined.result (at_place c.args.self.now.relations.items c.args.place c.index-related.result.now c.requires.place c.index-related.ensures) c.is_joined.ensures none

pub stands-requires-clause-row : goal.stands-requires-clause-row
stands-requires-clause-row c = row_there c.args.terms.now c.args.self.now c.requires.sound c.args.place c.index-related.result.now (at_place c.args.self.now.relations.items c.args.place c.index-related.result.now c.requires.place c.index-related.ensures)

pub returns-then-stands-clause-goes : goal.returns-then-stands-clause-goes
returns-then-stands-clause-goes c = goes_same c.args.terms.now c.args.self.now c.requires.sound

pub returns-then-stands-clause-stands : goal.returns-then-stands-clause-stands
returns-then-stands-clause-stands c = λ r at e.
    let sure : IsTrue c.stands.result = search rules in
    stands_at c.args.terms.now c.args.self.now c.requires.sound c.args.self.now.standing c.args.place c.index-related.result.now
    (at_place c.args.self.now.relations.items c.args.place c.index-related.result.now c.requires.place c.index-related.ensures) (c.stands.ensures.there sure)

pub give-requires-clause-there : goal.give-requires-clause-there
give-requires-clause-there c = there c.args.terms.now c.args.self.now c.requires.sound c.args.place c.index-related.result.now (at_place c.args.self.now.relations.items c.args.place c.index-related.result.now c.requires.place c.index-related.ensures)

pub returns-clause-stands : goal.returns-clause-stands
returns-clause-stands c =
    if_stands_at c.args.terms.now c.args.self.now c.give.new.self c.requires.sound c.args.place c.index-related.result.now c.give.result (at_place c.args.self.now.relations.items c.args.place c.index-related.result.now c.requires.place c.index-related.ensures)
    c.give.ensures.stands
