use Rattle.std.proofs.Common.{◌≡◌, map, take}
use Rattle.spv_declaration_typing.specs.pointer_types.Rounds.{target_first}
use Rattle.spv_declaration_typing.proofs.pointer_types.rounds.targets_seen.Given as goal

abbrev pub invariant-loop-target : goal.invariant-loop-target
invariant-loop-target l = l.seen.items ≡ map (target_first l.firsts) (take l.target-index l.targets)
