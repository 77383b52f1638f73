use Rattle.std.proofs.Common.{◌≡◌, ◌++◌, drop}
use Rattle.spv_typing.specs.Outcomes.{each}
use Rattle.spv_typing.specs.StatementWalk.{new_label, new_labels}
use Rattle.spv_environments.specs.Scopes.{scope_of}
use Rattle.spv_statement_typing.proofs.labels.arm_labels.Given as goal

abbrev pub invariant-loop-other : goal.invariant-loop-other
invariant-loop-other l =
    (each (new_label (scope_of l.scope)) l.seen (drop l.other-index l.other-items) ≡ new_labels (scope_of l.scope) l.fn.seen l.trees)
    × (l.seen ≡ l.fn.seen ++ l.own)
