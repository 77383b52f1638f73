use Rattle.std.proofs.Common.{◌≡◌, ◌≤◌, ◌-◌, drop, length}
use Rattle.spv_typing.specs.StatementWalk.{own_in}
use Rattle.spv_environments.specs.Scopes.{scope_of}
use Rattle.spv_environments.specs.Numbered.{numbered}
use Rattle.spv_expression_typing.specs.counter_changes.Counted.{headings_counted}
use Rattle.spv_expression_typing.proofs.counter_changes.counted.callee_counted.Given as goal

abbrev pub invariant-loop-behind : goal.invariant-loop-behind
invariant-loop-behind l =
    (l.from ≤ length (scope_of l.scope).known.headings)
    × (headings_counted (own_in (scope_of l.scope)) l.counted (numbered l.number (drop l.from (scope_of l.scope).known.headings))
    ≡ headings_counted (own_in (scope_of l.scope)) l.counted (numbered l.number (scope_of l.scope).known.headings))

abbrev pub decreases-loop-behind : goal.decreases-loop-behind
decreases-loop-behind l = length (scope_of l.scope).known.headings - l.from
