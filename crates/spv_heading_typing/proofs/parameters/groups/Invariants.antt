use Rattle.std.proofs.Common.{◌≡◌, drop, Some}
use Rattle.spv_typing.specs.Outcomes.{each}
use Rattle.spv_typing.specs.RoutineWalk.{group_walk, params_walk}
use Rattle.spv_heading_typing.specs.Parameters.{parameters_of, IsPlaces}
use Rattle.spv_heading_typing.proofs.parameters.groups.Given as goal

abbrev pub invariant-loop-one : goal.invariant-loop-one
invariant-loop-one l =
    (each (group_walk l.known l.routine) (parameters_of l.parameters) (drop l.one-index l.one-items) ≡ params_walk l.known l.routine (Some l.tree))
    × IsPlaces l.parameters
