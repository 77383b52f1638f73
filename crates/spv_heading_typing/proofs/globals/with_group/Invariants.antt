use Rattle.std.proofs.Common.{◌≡◌, drop}
use Rattle.spv_typing.specs.Outcomes.{each}
use Rattle.spv_typing.specs.Known.{named}
use Rattle.spv_typing.specs.RoutineWalk.{item_walk, global_group_walk}
use Rattle.spv_environments.specs.Scopes.{own_of}
use Rattle.spv_heading_typing.proofs.globals.with_group.Given as goal

abbrev pub invariant-loop-item : goal.invariant-loop-item
invariant-loop-item l =
    each (item_walk l.known (named own_of l.own) l.is_var l.line) l.items (drop l.item-index l.item-items) ≡ global_group_walk l.known (named own_of l.own) l.fn.shared l.tree
