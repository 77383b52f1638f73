use Rattle.std.proofs.Common.{◌≡◌, drop}
use Rattle.spv_typing.specs.ProgramWalk.{none_awaited}
use Rattle.spv_environments.specs.Views.{waiting}
use Rattle.spv_environments.proofs.waiting.nothing_waits.Given as goal

abbrev pub invariant-loop-place : goal.invariant-loop-place
invariant-loop-place l = none_awaited (waiting (drop l.place l.table)) ≡ none_awaited (waiting l.table)
