use Rattle.std.proofs.Common.{List}
use Rattle.spv_logic.specs.Terms.{Term}
use Rattle.spv_trail.specs.backtracking.Paths.{GoesOn, IsBranchTrail, unvalued}
use Rattle.spv_trail.proofs.backtracking.path.BranchTrail.grow.Given as goal

abbrev pub invariant-loop-end : goal.invariant-loop-end
invariant-loop-end l = record {
  path_told : (cases : List Term) → IsBranchTrail l.terms l.condition cases l.fn.self → IsBranchTrail l.terms l.condition cases l.self;
  goes : GoesOn l.terms l.fn.self l.self;
}

abbrev pub decreases-loop-end : goal.decreases-loop-end
decreases-loop-end l = unvalued l.terms l.self.known.items l.ground.questions.items
