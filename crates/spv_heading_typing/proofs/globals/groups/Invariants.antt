use Rattle.std.proofs.Common.{◌≡◌, drop, Some}
use Rattle.spv_typing.specs.Outcomes.{each}
use Rattle.spv_typing.specs.Known.{named}
use Rattle.spv_typing.specs.RoutineWalk.{global_group_walk, globals_walk}
use Rattle.spv_environments.specs.Scopes.{own_of}
use Rattle.spv_heading_typing.proofs.globals.groups.Given as goal

abbrev pub invariant-loop-group : goal.invariant-loop-group
invariant-loop-group l =
    each (global_group_walk l.known (named own_of l.own)) l.shared (drop l.group-index l.group-items) ≡ globals_walk l.known (named own_of l.own) (Some l.tree)
