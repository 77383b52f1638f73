use Rattle.std.proofs.Common.{◌≡◌, ◌++◌, take}
use Rattle.spv_program.proofs.ordered_map.Named.put_copies.Given as goal

abbrev pub invariant-loop-place : goal.invariant-loop-place
invariant-loop-place g l = l.self ≡ l.initial.self ++ take l.place l.names
