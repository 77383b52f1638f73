use Rattle.std.proofs.Common.{◌≡◌, ◌++◌, map, take}
use Rattle.spv_program.specs.ordered_map.Entries.{under}
use Rattle.spv_program.proofs.ordered_map.Named.put_names.Given as goal

abbrev pub invariant-loop-place : goal.invariant-loop-place
invariant-loop-place g l = l.self ≡ l.initial.self ++ map (under l.value) (take l.place l.names)
