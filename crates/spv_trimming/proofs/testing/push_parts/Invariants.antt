use Rattle.std.proofs.Common.{◌≡◌, ◌++◌, drop}
use Rattle.spv_trimming.proofs.testing.push_parts.Given as goal

abbrev pub invariant-loop-place : goal.invariant-loop-place
invariant-loop-place l = l.waiting.items ≡ drop l.place l.parts ++ l.initial.waiting.items
