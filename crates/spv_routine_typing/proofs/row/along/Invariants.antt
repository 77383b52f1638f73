use Rattle.std.proofs.Common.{◌≡◌, drop, Ok}
use Rattle.spv_typing.specs.Outcomes.{after, each}
use Rattle.spv_typing.specs.ProgramWalk.{mark_walk}
use Rattle.spv_routine_typing.specs.Row.{along_walk, progress_at}
use Rattle.spv_routine_typing.proofs.row.along.Given as goal

abbrev pub invariant-loop-tree : goal.invariant-loop-tree
invariant-loop-tree l =
    after (each (mark_walk l.bodies) (progress_at l.known l.begun) (drop l.tree-index l.marks)) (λ at. Ok at.known) ≡ along_walk l.bodies l.initial.known l.marks
