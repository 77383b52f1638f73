use Rattle.std.proofs.Common.{◌≡◌, ◌++◌, drop}
use Rattle.spv_typing.specs.ProgramWalk.{names_of_bodies}
use Rattle.spv_routine_typing.proofs.numbers.Bodies.of.Given as goal

abbrev pub invariant-loop-mark : goal.invariant-loop-mark
invariant-loop-mark l = l.bodies ++ names_of_bodies (drop l.mark-index l.marks) ≡ names_of_bodies l.marks
