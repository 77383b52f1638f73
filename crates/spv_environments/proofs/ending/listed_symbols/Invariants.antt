use Rattle.std.proofs.Common.{◌≡◌, take}
use Rattle.spv_environments.specs.Symbols.{symbols_of}
use Rattle.spv_environments.proofs.ending.listed_symbols.Given as goal

abbrev pub invariant-loop-place : goal.invariant-loop-place
invariant-loop-place l = l.all ≡ symbols_of (take l.place l.table)
