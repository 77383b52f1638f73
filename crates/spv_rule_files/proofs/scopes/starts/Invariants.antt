use Rattle.std.proofs.Common.{◌≡◌, take}
use Rattle.spv_rule_files.specs.Starts.{starts_of}
use Rattle.spv_rule_files.proofs.scopes.starts.Given as goal

abbrev pub invariant-loop-place : goal.invariant-loop-place
invariant-loop-place l = l.own ≡ starts_of (take l.place l.vars)
