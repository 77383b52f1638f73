use Rattle.std.proofs.Common.{◌≡◌, drop}
use Rattle.spv_typing.specs.Outcomes.{each}
use Rattle.spv_routine_typing.specs.local_typing.Locals.{vars_by, local_of}
use Rattle.spv_routine_typing.proofs.local_typing.declaring.all_variables.Given as goal

abbrev pub invariant-loop-item : goal.invariant-loop-item
invariant-loop-item l =
    each (vars_by l.routine l.listed) (local_of l.known l.local) (drop l.item-index l.items)
    ≡ each (vars_by l.routine l.listed) (local_of l.initial.known l.fn.begun) l.items
