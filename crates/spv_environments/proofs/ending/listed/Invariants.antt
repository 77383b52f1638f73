use Rattle.std.proofs.Common.{◌≡◌, take}
use Rattle.spv_environments.proofs.ending.listed.Given as goal

abbrev pub invariant-loop-place : goal.invariant-loop-place
invariant-loop-place g l = l.all ≡ take l.place l.table
