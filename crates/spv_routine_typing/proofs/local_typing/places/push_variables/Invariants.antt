use Rattle.std.proofs.Common.{◌≡◌, ◌++◌, map, take}
use Rattle.spv_routine_typing.proofs.local_typing.places.push_variables.Given as goal

abbrev pub invariant-loop-place : goal.invariant-loop-place
invariant-loop-place l = l.variables ≡ l.initial.variables ++ map (λ e. (e.0, l.t)) (take l.place l.names)
