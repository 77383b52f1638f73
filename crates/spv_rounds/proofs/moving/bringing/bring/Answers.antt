use Rattle.std.proofs.Common.{refl}
use Rattle.spv_rounds.proofs.moving.Brought.{brings-more}
use Rattle.spv_rounds.proofs.moving.bringing.bring.Goals as goal

pub loop-id-preserved : goal.loop-id-preserved
loop-id-preserved c =
    brings-more c.args.from.now c.args.own.now c.loop-id.own c.bring_one.new.own c.loop-id.places.items c.push.new.places.items c.loop-id.id (record { 0 = c.loop-id.id }) c.in_ok-u.u refl c.loop-id.invariant c.in_ok-u.ensures.grows c.in_ok-u.ensures.moved c.in_ok-push.ensures
