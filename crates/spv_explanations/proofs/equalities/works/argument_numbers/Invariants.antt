use Rattle.std.proofs.Common.{take}
use Rattle.spv_explanations.specs.equalities.Known.{NumbersOf}
use Rattle.spv_explanations.proofs.equalities.works.argument_numbers.Given as goal

abbrev pub invariant-loop-place : goal.invariant-loop-place
invariant-loop-place l = NumbersOf l.known (take l.place l.left) (take l.place l.right) l.numbers
