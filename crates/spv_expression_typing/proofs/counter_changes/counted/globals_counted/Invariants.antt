use Rattle.std.proofs.Common.{◌≡◌, drop, map}
use Rattle.spv_program.specs.typed.ProgramViews.{global_of}
use Rattle.spv_typing.specs.StatementWalk.{own_in}
use Rattle.spv_environments.specs.Scopes.{scope_of}
use Rattle.spv_expression_typing.specs.counter_changes.Counted.{globals_counted}
use Rattle.spv_expression_typing.proofs.counter_changes.counted.globals_counted.Given as goal

abbrev pub invariant-loop-global : goal.invariant-loop-global
invariant-loop-global l =
    globals_counted (own_in (scope_of l.scope)) l.counted (map global_of (drop l.global-index l.globals)) ≡ globals_counted (own_in (scope_of l.scope)) l.counted (map global_of l.globals)
