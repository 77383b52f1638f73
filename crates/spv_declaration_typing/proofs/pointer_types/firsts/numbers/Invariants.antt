use Rattle.std.proofs.Common.{◌≡◌, ◌++◌, drop}
use Rattle.spv_typing.specs.Merging.{numbers_from}
use Rattle.spv_declaration_typing.proofs.pointer_types.firsts.numbers.Given as goal

abbrev pub invariant-loop-place : goal.invariant-loop-place
invariant-loop-place l = l.numbers.items ++ numbers_from l.place (drop l.place l.targets) ≡ numbers_from 0 l.targets
