use Rattle.std.proofs.Common.{ℕ, [], Ok, Some, refl, sym, ap, subst, ◌∙◌}
use Rattle.spv_logic.specs.declared.conditions.RoutineId.{RoutineId}
use Rattle.spv_program.specs.Programs.{Program, Routine}
use Rattle.spv_program.specs.ExpressionTerms.{sort_of_result}
use Rattle.spv_assign.specs.supply.Numbers.{supply_of}
use Rattle.spv_flow_parts.specs.calls.Arguments.{AddsCalls, IsAtCall, call_line, called_routine, one_call}
use Rattle.spv_flow_parts.specs.calls.Events.{made_at_call}
use Rattle.spv_flow_parts.proofs.calls.Called.{routine_same, routine_there}
use Rattle.spv_flow_parts.proofs.calls.FunctionCall.{after_fits, after_is, call_added, call_stops, head_made, result_range_in, result_range_of, value_stops, value_term}
use Rattle.spv_flow_parts.proofs.calls.Passing.{AreArguments-Extends}
use Rattle.spv_flow_parts.proofs.calls.Zipping.{IsAtCall-Extends}
use Rattle.spv_flow_parts.proofs.calls.at_call.function_call.Goals as goal

pub get-routine-requires : goal.get-routine-requires
get-routine-requires g c =
    routine_there c.behind-program.inside.routines c.args.program.now.routines c.call.inside.routine.0 g.at.routine (ap (λ (p : Program). p.routines) (c.behind-program.view_is ∙ c.program.ensures))
    (subst (λ (n : RoutineId). IsAtCall c.args.program.now c.args.terms.now n g.at.routine g.at.arguments) (sym (ap called_routine c.call.view_is)) c.requires.0).routine

pub fresh_value-requires-clause-types : goal.fresh_value-requires-clause-types
fresh_value-requires-clause-types g c =
    result_range_of c.args.program.now c.args.terms.now c.call.inside.routine g.at.routine g.at.arguments c.result_sort-sort.result
    (subst (λ (n : RoutineId). IsAtCall c.args.program.now c.args.terms.now n g.at.routine g.at.arguments) (sym (ap called_routine c.call.view_is)) c.requires.0)
    (c.result_sort-sort.ensures ∙ ap (sort_of_result c.args.program.now) (routine_same c.behind-program.inside.routines c.args.program.now.routines c.call.inside.routine.0 g.at.routine c.get-routine.result.now (ap (λ (p : Program). p.routines) (c.behind-program.view_is ∙ c.program.ensures)) (subst (λ (n : RoutineId). IsAtCall c.args.program.now c.args.terms.now n g.at.routine g.at.arguments) (sym (ap called_routine c.call.view_is)) c.requires.0).routine c.get-routine.ensures))

pub returns-in_err-value : goal.returns-in_err-value
returns-in_err-value g c =
    value_stops c.args.program.now g.at.routine (call_line c.args.call.now) g.at.arguments (supply_of c.args.supply.now) c.get-routine.result.now.name c.result_sort-sort.result (ap (λ (r : Routine). r.name) (routine_same c.behind-program.inside.routines c.args.program.now.routines c.call.inside.routine.0 g.at.routine c.get-routine.result.now (ap (λ (p : Program). p.routines) (c.behind-program.view_is ∙ c.program.ensures)) (subst (λ (n : RoutineId). IsAtCall c.args.program.now c.args.terms.now n g.at.routine g.at.arguments) (sym (ap called_routine c.call.view_is)) c.requires.0).routine c.get-routine.ensures)) (c.result_sort-sort.ensures ∙ ap (sort_of_result c.args.program.now) (routine_same c.behind-program.inside.routines c.args.program.now.routines c.call.inside.routine.0 g.at.routine c.get-routine.result.now (ap (λ (p : Program). p.routines) (c.behind-program.view_is ∙ c.program.ensures)) (subst (λ (n : RoutineId). IsAtCall c.args.program.now c.args.terms.now n g.at.routine g.at.arguments) (sym (ap called_routine c.call.view_is)) c.requires.0).routine c.get-routine.ensures))
    c.from_residual.result c.in_err-value.field-0.0 c.args.terms.now c.fresh_value.new.terms c.args.variables.now c.args.variables.now c.args.calls.now c.args.calls.now _ c.from_residual.ensures.1 c.in_err-value.ensures.made

pub node-requires : goal.node-requires
node-requires g c = c.in_ok-value.ensures.made.term.there

pub called-requires : goal.called-requires
called-requires g c = (
  IsAtCall-Extends c.args.program.now c.args.terms.now c.call.inside.routine g.at.routine g.at.arguments
      (subst (λ (n : RoutineId). IsAtCall c.args.program.now c.args.terms.now n g.at.routine g.at.arguments) (sym (ap called_routine c.call.view_is)) c.requires.0)
      c.fresh_value.new.terms c.in_ok-value.ensures.made.grows,
  (
    AreArguments-Extends c.in_ok-value.ensures.made.grows c.args.given.now g.at.arguments c.requires.1.0,
    (
      after_is c.args.program.now g.at.routine (call_line c.args.call.now) g.at.arguments (supply_of c.args.supply.now) c.get-routine.result.now.name c.result_sort-sort.result (ap (λ (r : Routine). r.name) (routine_same c.behind-program.inside.routines c.args.program.now.routines c.call.inside.routine.0 g.at.routine c.get-routine.result.now (ap (λ (p : Program). p.routines) (c.behind-program.view_is ∙ c.program.ensures)) (subst (λ (n : RoutineId). IsAtCall c.args.program.now c.args.terms.now n g.at.routine g.at.arguments) (sym (ap called_routine c.call.view_is)) c.requires.0).routine c.get-routine.ensures)) (c.result_sort-sort.ensures ∙ ap (sort_of_result c.args.program.now) (routine_same c.behind-program.inside.routines c.args.program.now.routines c.call.inside.routine.0 g.at.routine c.get-routine.result.now (ap (λ (p : Program). p.routines) (c.behind-program.view_is ∙ c.program.ensures)) (subst (λ (n : RoutineId). IsAtCall c.args.program.now c.args.terms.now n g.at.routine g.at.arguments) (sym (ap called_routine c.call.view_is)) c.requires.0).routine c.get-routine.ensures))
          c.args.terms.now c.fresh_value.new.terms c.in_ok-value.value c.in_ok-value.ensures.made,
      after_fits c.args.program.now g.at.routine (call_line c.args.call.now) g.at.arguments (supply_of c.args.supply.now) c.get-routine.result.now.name c.result_sort-sort.result (ap (λ (r : Routine). r.name) (routine_same c.behind-program.inside.routines c.args.program.now.routines c.call.inside.routine.0 g.at.routine c.get-routine.result.now (ap (λ (p : Program). p.routines) (c.behind-program.view_is ∙ c.program.ensures)) (subst (λ (n : RoutineId). IsAtCall c.args.program.now c.args.terms.now n g.at.routine g.at.arguments) (sym (ap called_routine c.call.view_is)) c.requires.0).routine c.get-routine.ensures)) (c.result_sort-sort.ensures ∙ ap (sort_of_result c.args.program.now) (routine_same c.behind-program.inside.routines c.args.program.now.routines c.call.inside.routine.0 g.at.routine c.get-routine.result.now (ap (λ (p : Program). p.routines) (c.behind-program.view_is ∙ c.program.ensures)) (subst (λ (n : RoutineId). IsAtCall c.args.program.now c.args.terms.now n g.at.routine g.at.arguments) (sym (ap called_routine c.call.view_is)) c.requires.0).routine c.get-routine.ensures))
          c.args.terms.now c.fresh_value.new.terms c.in_ok-value.value c.in_ok-value.ensures.made
          (result_range_in c.args.program.now c.args.terms.now c.call.inside.routine g.at.routine g.at.arguments c.result_sort-sort.result
          (subst (λ (n : RoutineId). IsAtCall c.args.program.now c.args.terms.now n g.at.routine g.at.arguments) (sym (ap called_routine c.call.view_is)) c.requires.0)
          (c.result_sort-sort.ensures ∙ ap (sort_of_result c.args.program.now) (routine_same c.behind-program.inside.routines c.args.program.now.routines c.call.inside.routine.0 g.at.routine c.get-routine.result.now (ap (λ (p : Program). p.routines) (c.behind-program.view_is ∙ c.program.ensures)) (subst (λ (n : RoutineId). IsAtCall c.args.program.now c.args.terms.now n g.at.routine g.at.arguments) (sym (ap called_routine c.call.view_is)) c.requires.0).routine c.get-routine.ensures))),
    ),
  ),
)

pub returns-in_err-one : goal.returns-in_err-one
returns-in_err-one g c =
    subst (λ (l : ℕ). AddsCalls c.from_residual-in_err-one.result (one_call c.args.program.now g.at.routine l g.at.arguments (supply_of c.args.supply.now)) (made_at_call c.args.program.now (Some g.at.routine) (record { arguments = g.at.arguments; calls = []; supply = supply_of c.args.supply.now })) c.args.terms.now c.called.new.terms c.args.variables.now c.args.variables.now c.args.calls.now c.args.calls.now (supply_of c.fresh_value.new.supply)) (ap call_line c.call.view_is)
    (call_stops c.args.program.now g.at.routine c.call.inside.line g.at.arguments (supply_of c.args.supply.now) c.get-routine.result.now.name c.result_sort-sort.result (ap (λ (r : Routine). r.name) (routine_same c.behind-program.inside.routines c.args.program.now.routines c.call.inside.routine.0 g.at.routine c.get-routine.result.now (ap (λ (p : Program). p.routines) (c.behind-program.view_is ∙ c.program.ensures)) (subst (λ (n : RoutineId). IsAtCall c.args.program.now c.args.terms.now n g.at.routine g.at.arguments) (sym (ap called_routine c.call.view_is)) c.requires.0).routine c.get-routine.ensures)) (c.result_sort-sort.ensures ∙ ap (sort_of_result c.args.program.now) (routine_same c.behind-program.inside.routines c.args.program.now.routines c.call.inside.routine.0 g.at.routine c.get-routine.result.now (ap (λ (p : Program). p.routines) (c.behind-program.view_is ∙ c.program.ensures)) (subst (λ (n : RoutineId). IsAtCall c.args.program.now c.args.terms.now n g.at.routine g.at.arguments) (sym (ap called_routine c.call.view_is)) c.requires.0).routine c.get-routine.ensures)) c.args.terms.now c.fresh_value.new.terms c.in_ok-value.value c.in_ok-value.ensures.made c.called.new.terms _ refl c.from_residual-in_err-one.result c.in_err-one.field-0.0 c.args.variables.now c.args.variables.now c.args.calls.now c.args.calls.now _ c.from_residual-in_err-one.ensures.1 c.in_err-one.ensures)

pub returns : goal.returns
returns g c =
    subst (λ (l : ℕ). AddsCalls (Ok tt) (one_call c.args.program.now g.at.routine l g.at.arguments (supply_of c.args.supply.now)) (made_at_call c.args.program.now (Some g.at.routine) (record { arguments = g.at.arguments; calls = []; supply = supply_of c.args.supply.now })) c.args.terms.now c.called.new.terms c.args.variables.now c.push-2.new.self c.args.calls.now c.push.new.self (supply_of c.fresh_value.new.supply)) (ap call_line c.call.view_is)
    (call_added c.args.program.now g.at.routine c.call.inside.line g.at.arguments (supply_of c.args.supply.now) c.get-routine.result.now.name c.result_sort-sort.result (ap (λ (r : Routine). r.name) (routine_same c.behind-program.inside.routines c.args.program.now.routines c.call.inside.routine.0 g.at.routine c.get-routine.result.now (ap (λ (p : Program). p.routines) (c.behind-program.view_is ∙ c.program.ensures)) (subst (λ (n : RoutineId). IsAtCall c.args.program.now c.args.terms.now n g.at.routine g.at.arguments) (sym (ap called_routine c.call.view_is)) c.requires.0).routine c.get-routine.ensures)) (c.result_sort-sort.ensures ∙ ap (sort_of_result c.args.program.now) (routine_same c.behind-program.inside.routines c.args.program.now.routines c.call.inside.routine.0 g.at.routine c.get-routine.result.now (ap (λ (p : Program). p.routines) (c.behind-program.view_is ∙ c.program.ensures)) (subst (λ (n : RoutineId). IsAtCall c.args.program.now c.args.terms.now n g.at.routine g.at.arguments) (sym (ap called_routine c.call.view_is)) c.requires.0).routine c.get-routine.ensures)) c.args.terms.now c.fresh_value.new.terms c.in_ok-value.value c.in_ok-value.ensures.made c.called.new.terms _ refl tt c.in_ok-one.one c.node.result.now.head c.args.variables.now c.push-2.new.self c.args.calls.now c.push.new.self _ c.in_ok-one.ensures
    (head_made c.fresh_value.new.terms c.in_ok-value.value c.node.result.now _ c.law_arena.ensures c.node.ensures (value_term c.args.program.now g.at.routine c.call.inside.line g.at.arguments (supply_of c.args.supply.now) c.get-routine.result.now.name c.result_sort-sort.result (ap (λ (r : Routine). r.name) (routine_same c.behind-program.inside.routines c.args.program.now.routines c.call.inside.routine.0 g.at.routine c.get-routine.result.now (ap (λ (p : Program). p.routines) (c.behind-program.view_is ∙ c.program.ensures)) (subst (λ (n : RoutineId). IsAtCall c.args.program.now c.args.terms.now n g.at.routine g.at.arguments) (sym (ap called_routine c.call.view_is)) c.requires.0).routine c.get-routine.ensures)) (c.result_sort-sort.ensures ∙ ap (sort_of_result c.args.program.now) (routine_same c.behind-program.inside.routines c.args.program.now.routines c.call.inside.routine.0 g.at.routine c.get-routine.result.now (ap (λ (p : Program). p.routines) (c.behind-program.view_is ∙ c.program.ensures)) (subst (λ (n : RoutineId). IsAtCall c.args.program.now c.args.terms.now n g.at.routine g.at.arguments) (sym (ap called_routine c.call.view_is)) c.requires.0).routine c.get-routine.ensures)) c.args.terms.now c.fresh_value.new.terms c.in_ok-value.value c.in_ok-value.ensures.made)) c.in_ok-push-2.ensures.ok c.in_ok-push.ensures.ok c.in_ok-value.ensures.supply c.in_ok-value.ensures.there)
