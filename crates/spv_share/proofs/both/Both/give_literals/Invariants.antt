use Rattle.std.proofs.Common.{◌≡◌}
use Rattle.spv_share.specs.States.{GoesOn}
use Rattle.spv_share.proofs.Settling.{FirstClaims}
use Rattle.spv_share.proofs.both.Both.give_literals.Given as goal

abbrev pub invariant-loop-place : goal.invariant-loop-place
invariant-loop-place l = record {
  goes : GoesOn l.terms l.fn.self l.self;
  graph : l.self.trail.graph ≡ l.fn.self.trail.graph;
  stand : FirstClaims l.self l.place;
}
