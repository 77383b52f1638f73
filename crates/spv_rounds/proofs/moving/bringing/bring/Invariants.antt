use Rattle.spv_rounds.proofs.moving.Brought.{Brings}
use Rattle.spv_rounds.proofs.moving.bringing.bring.Given as goal

abbrev pub invariant-loop-id : goal.invariant-loop-id
invariant-loop-id l = Brings l.from l.fn.own l.own l.places.items l.id
