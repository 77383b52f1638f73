use Rattle.std.proofs.Common.{◌≡◌, List, get_or, ◌<◌, ◌≤◌, length, refl, subst}
use Rattle.spv_logic.specs.declared.conditions.TermId.{TermId}
use Rattle.spv_whole.specs.Fraction.{Fraction}
use Rattle.spv_rounds.proofs.moving.Besides.{so_far-item, so_far-end}
use Rattle.spv_rounds.proofs.moving.Moved.{PairMoves, pairs-moved}
use Rattle.spv_rounds.proofs.moving.rounds.moved_table.Goals as goal

pub loop-pair-preserved : goal.loop-pair-preserved
loop-pair-preserved c =
    so_far-item (PairMoves c.args.places.now) c.args.table.now.values c.loop-pair.pair-index c.pair-item.result c.loop-pair.values.items c.push.new.self.items (c.in_ok-u.u, c.pair-item.result.1)
    (subst (λ (ps : List (TermId × Fraction)). c.loop-pair.pair-index < length ps) c.as_slice-pair-items.ensures c.loop-pair-test.true)
    (subst (λ (ps : List (TermId × Fraction)). c.pair-item.result ≡ get_or ps c.loop-pair.pair-index c.pair-item.result) c.as_slice-pair-items.ensures c.pair-item.is) c.loop-pair.invariant (c.in_ok-u.ensures, refl) c.in_ok-push.ensures.items

pub returns : goal.returns
returns c =
    λ a b moves.
    pairs-moved c.args.places.now a b moves c.args.table.now.values c.from_vec.result
    (so_far-end (PairMoves c.args.places.now) c.args.table.now.values c.loop-pair.pair-index c.loop-pair.values.items c.from_vec.result (subst (λ (ps : List (TermId × Fraction)). length ps ≤ c.loop-pair.pair-index) c.as_slice-pair-items.ensures c.loop-pair-test.false) c.loop-pair.invariant c.from_vec.ensures)
