use Rattle.std.proofs.Common.{◌≡◌, drop}
use Rattle.spv_typing.specs.Outcomes.{each}
use Rattle.spv_routine_typing.specs.local_typing.Locals.{const_by, local_of, no_locals}
use Rattle.spv_routine_typing.proofs.local_typing.declaring.constants.Given as goal

abbrev pub invariant-loop-item : goal.invariant-loop-item
invariant-loop-item l =
    each (const_by l.routine l.listed) (local_of l.known l.local) (drop l.item-index l.items) ≡ each (const_by l.routine l.listed) (no_locals l.known l.fn.own) l.items
