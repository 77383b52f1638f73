use Rattle.spv_derivations.proofs.derivation.Bridges.{on_ok}
use Rattle.spv_share.proofs.Closing.{closed_now, same_last}
use Rattle.spv_share.proofs.Giving.{left_node, right_node}
use Rattle.spv_share.proofs.Goings.{goes_joined}
use Rattle.spv_share.proofs.Seeking.{is_sum}
use Rattle.spv_share.proofs.both.Both.join.Goals as goal

pub join_by_sums-joined-requires-clause-left : goal.join_by_sums-joined-requires-clause-left
join_by_sums-joined-requires-clause-left c = left_node c.args.terms.now c.args.self.now c.requires.sound c.args.related.row c.args.related c.requires.there

pub join_by_sums-joined-requires-clause-right : goal.join_by_sums-joined-requires-clause-right
join_by_sums-joined-requires-clause-right c = right_node c.args.terms.now c.args.self.now c.requires.sound c.args.related.row c.args.related c.requires.there

pub join_by_sums-joined-requires-clause-sum : goal.join_by_sums-joined-requires-clause-sum
join_by_sums-joined-requires-clause-sum c = is_sum c.args.terms.now c.args.self.now c.requires.sound c.args.related c.requires.there c.args.first c.args.second c.requires.first c.requires.second

pub returns-clause-goes : goal.returns-clause-goes
returns-clause-goes c =
    goes_joined c.args.terms.now c.law_arena.ensures c.args.self.now c.join_by_sums-joined.new.self c.args.related.row c.args.related c.join_by_sums-joined.result c.requires.sound c.requires.there c.requires.unjoined c.join_by_sums-joined.ensures.holds
    c.join_by_sums-joined.ensures.grows c.join_by_sums-joined.ensures.literals c.join_by_sums-joined.ensures.told c.join_by_sums-joined.ensures.err c.law_same.ensures c.law_same-2.ensures

pub returns-clause-closed : goal.returns-clause-closed
returns-clause-closed c =
    on_ok c.join_by_sums-joined.result c.join_by_sums-joined.ensures.told
    (λ told.
    closed_now c.join_by_sums-joined.new.self.graph c.args.related
    (same_last c.args.terms.now c.law_arena.ensures c.args.self.now.trail.graph.told c.join_by_sums-joined.new.self.graph c.args.related.left c.args.related.right c.join_by_sums-joined.ensures.holds.of c.law_same-2.ensures
    (c.join_by_sums-joined.ensures.grows.nodes c.args.related.left (left_node c.args.terms.now c.args.self.now c.requires.sound c.args.related.row c.args.related c.requires.there))
    (c.join_by_sums-joined.ensures.grows.nodes c.args.related.right (right_node c.args.terms.now c.args.self.now c.requires.sound c.args.related.row c.args.related c.requires.there)) told))
