use Rattle.std.proofs.Common.{◌≡◌, map, take}
use Rattle.spv_typing.specs.Merging.{target_number}
use Rattle.spv_declaration_typing.specs.pointer_types.Views.{all_written}
use Rattle.spv_declaration_typing.proofs.pointer_types.firsts.targets.Given as goal

abbrev pub invariant-loop-one : goal.invariant-loop-one
invariant-loop-one l = l.targets.items ≡ map (target_number l.names) (all_written (take l.one-index l.written))
