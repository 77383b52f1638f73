use Rattle.std.proofs.Common.{◌≡◌, ◌++◌, drop}
use Rattle.spv_typing.specs.Merging.{alike_from}
use Rattle.spv_declaration_typing.proofs.pointer_types.rounds.alike.Given as goal

abbrev pub invariant-loop-place : goal.invariant-loop-place
invariant-loop-place l = l.next.items ++ alike_from l.targets l.firsts l.place (drop l.place l.targets) ≡ alike_from l.targets l.firsts 0 l.targets
