use Rattle.spv_rounds.proofs.moving.Besides.{so_far-more, so_far-end}
use Rattle.spv_rounds.proofs.moving.Moved.{IdMoves, ids-moved}
use Rattle.spv_rounds.proofs.moving.terms.moved_all.Goals as goal

pub loop-t-preserved : goal.loop-t-preserved
loop-t-preserved c = so_far-more (IdMoves c.args.places.now) c.args.ts.now c.loop-t.t-index _ c.loop-t.us.items c.push.new.ids.items c.in_ok-u.u c.loop-t-test.true c.loop-t.invariant c.in_ok-u.ensures c.in_ok-push.ensures

pub returns : goal.returns
returns c = λ a b moves. ids-moved c.args.places.now a b moves c.args.ts.now c.from_vec.result (so_far-end (IdMoves c.args.places.now) c.args.ts.now c.loop-t.t-index c.loop-t.us.items c.from_vec.result c.loop-t-test.false c.loop-t.invariant c.from_vec.ensures)
