use Rattle.std.proofs.Common.{List, subst}
use Rattle.spv_logic.specs.declared.conditions.TermId.{TermId}
use Rattle.spv_rounds.specs.moving.Moves.{AllMoved}
use Rattle.spv_rounds.proofs.moving.Besides.{so_far-item, so_far-end}
use Rattle.spv_rounds.proofs.moving.Moved.{InstanceMoves, instance-moves, instances-moved}
use Rattle.spv_rounds.proofs.moving.rounds.moved_instances.Goals as goal

pub loop-i-preserved : goal.loop-i-preserved
loop-i-preserved c =
    so_far-item (InstanceMoves c.args.places.now) c.args.instances.now c.loop-i.i-index c.i-item.result c.loop-i.list.items c.push.new.self.items c.in_ok-moved_instance.field-0 c.loop-i-test.true c.i-item.is c.loop-i.invariant
    (instance-moves c.args.places.now c.i-item.result c.in_ok-moved_instance.field-0 c.in_ok-moved_instance.ensures.rule
    (λ a b moves. subst (λ (ts : List TermId). AllMoved a b ts c.in_ok-moved_instance.field-0.values) c.as_slice.ensures (c.in_ok-moved_instance.ensures.values a b moves)))
    c.in_ok-push.ensures.items

pub returns : goal.returns
returns c = λ a b moves. instances-moved c.args.places.now a b moves c.args.instances.now c.from_vec.result (so_far-end (InstanceMoves c.args.places.now) c.args.instances.now c.loop-i.i-index c.loop-i.list.items c.from_vec.result c.loop-i-test.false c.loop-i.invariant c.from_vec.ensures)
