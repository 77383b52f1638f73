use Rattle.spv_rounds.proofs.moving.Besides.{so_far-item, so_far-end}
use Rattle.spv_rounds.proofs.moving.Moved.{RoundMoves, rounds-moved}
use Rattle.spv_rounds.proofs.moving.rounds.moved_rounds.Goals as goal

pub loop-round-preserved : goal.loop-round-preserved
loop-round-preserved c =
    so_far-item (RoundMoves c.args.places.now) c.args.rounds.now c.loop-round.round-index c.round-item.result c.loop-round.list.items c.push.new.self.items c.in_ok-moved_round.field-0 c.loop-round-test.true c.round-item.is c.loop-round.invariant c.in_ok-moved_round.ensures
    c.in_ok-push.ensures.items

pub returns : goal.returns
returns c = λ a b moves. rounds-moved c.args.places.now a b moves c.args.rounds.now c.from_vec.result (so_far-end (RoundMoves c.args.places.now) c.args.rounds.now c.loop-round.round-index c.loop-round.list.items c.from_vec.result c.loop-round-test.false c.loop-round.invariant c.from_vec.ensures)
