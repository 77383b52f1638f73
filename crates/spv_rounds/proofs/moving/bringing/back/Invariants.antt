use Rattle.spv_rounds.specs.moving.Moves.{AreMoves}
use Rattle.spv_rounds.proofs.moving.bringing.back.Given as goal

abbrev pub invariant-loop-id : goal.invariant-loop-id
invariant-loop-id l = AreMoves l.own l.from l.found.items
