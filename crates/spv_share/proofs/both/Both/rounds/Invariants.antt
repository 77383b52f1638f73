use Rattle.spv_share.specs.States.{count_open, GoesOn}
use Rattle.spv_share.proofs.both.Both.rounds.Given as goal

abbrev pub invariant-loop-outcome : goal.invariant-loop-outcome
invariant-loop-outcome l = GoesOn l.terms l.fn.self l.self

abbrev pub decreases-loop-outcome : goal.decreases-loop-outcome
decreases-loop-outcome l = count_open l.self.trail.graph l.self.relations.items
