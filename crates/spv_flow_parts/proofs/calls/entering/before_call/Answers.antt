use Rattle.std.proofs.Common.{map, sym, subst, ◌∙◌}
use Rattle.spv_program.specs.Programs.{routine_in}
use Rattle.spv_program.specs.ExpressionTerms.{argued}
use Rattle.spv_assign.specs.supply.Numbers.{supply_of}
use Rattle.spv_assign.proofs.Growing.{AreIn-Extends}
use Rattle.spv_flow_parts.specs.calls.Arguments.{FitFormals, argument_in, arguments_in}
use Rattle.spv_flow_parts.specs.leaves.Values.{AreCalls}
use Rattle.spv_flow_parts.proofs.leaves.InFront.{AreCalls-Extends}
use Rattle.spv_flow_parts.proofs.calls.Each.{arguments_are}
use Rattle.spv_flow_parts.proofs.calls.Entered.{own_arguments}
use Rattle.spv_flow_parts.proofs.calls.Performed.{is_called, arguments_sorted, arguments_stop, entering_stops, performed, routine_of_call}
use Rattle.spv_flow_parts.proofs.calls.entering.before_call.Goals as goal

pub arguments-requires : goal.arguments-requires
arguments-requires c = (c.requires.may, record { called = (is_called c.args.program.now c.args.body.now.here c.args.call.now c.requires.typed).callee_is })

pub returns-in_err-argued : goal.returns-in_err-argued
returns-in_err-argued c =
    arguments_stop c.args.program.now c.args.body.now.here (supply_of c.args.supply.now) c.args.terms.now c.args.rest.items c.requires.rest c.args.call.now c.from_residual.result c.in_err-argued.field-0.0 c.arguments.new.terms (supply_of c.arguments.new.supply) c.from_residual.ensures.1 c.in_err-argued.ensures.grows c.in_err-argued.ensures.walk

pub before_entered-requires : goal.before_entered-requires
before_entered-requires c =
    let are = c.in_ok-argued.ensures.arguments in (
      record {
        typed = c.requires.may.typed;
        shapes_are = c.in_ok-argued.ensures.grows.shapes ∙ c.requires.may.stands.shapes;
        decls_are = c.in_ok-argued.ensures.grows.decls ∙ c.requires.may.stands.decls;
        routine = (is_called c.args.program.now c.args.body.now.here c.args.call.now c.requires.typed).routine_is;
        fit =
            subst (λ xs. FitFormals c.args.program.now (routine_of_call c.args.program.now c.args.call.now).formals xs) (sym (arguments_are c.arguments.new.terms c.in_ok-argued.argued.arguments _ c.in_ok-argued.ensures.arguments.arguments))
            (arguments_sorted c.args.program.now (routine_in c.args.program.now c.args.body.now.here) _ (arguments_in c.args.call.now) (supply_of c.args.supply.now) (is_called c.args.program.now c.args.body.now.here c.args.call.now c.requires.typed).fit);
      },
      (own_arguments c.arguments.new.terms c.in_ok-argued.argued.arguments _ are.arguments, (are.there, AreIn-Extends c.in_ok-argued.ensures.grows c.args.rest.items c.requires.rest)),
    )

pub returns-in_err-entered : goal.returns-in_err-entered
returns-in_err-entered c =
    entering_stops c.args.program.now c.args.body.now.here (supply_of c.args.supply.now) c.args.terms.now c.args.rest.items c.requires.rest
    c.arguments.new.terms (supply_of c.arguments.new.supply) c.in_ok-argued.ensures.grows (map (argument_in c.arguments.new.terms) c.in_ok-argued.argued.arguments)
    c.args.call.now _ c.in_ok-argued.ensures.walk (is_called c.args.program.now c.args.body.now.here c.args.call.now c.requires.typed).routine_is (arguments_are c.arguments.new.terms c.in_ok-argued.argued.arguments _ c.in_ok-argued.ensures.arguments.arguments) c.in_ok-argued.ensures.arguments.supply
    c.from_residual-in_err-entered.result c.in_err-entered.field-0.0 c.before_entered.new.terms (supply_of c.before_entered.new.supply) c.from_residual-in_err-entered.ensures.1 c.in_err-entered.ensures

pub returns : goal.returns
returns c =
    performed c.args.program.now c.args.body.now.here (supply_of c.args.supply.now) c.args.terms.now c.args.rest.items c.requires.rest
    c.arguments.new.terms (supply_of c.arguments.new.supply) c.in_ok-argued.ensures.grows (map (argument_in c.arguments.new.terms) c.in_ok-argued.argued.arguments)
    c.args.call.now _ c.in_ok-argued.ensures.walk (is_called c.args.program.now c.args.body.now.here c.args.call.now c.requires.typed).routine_is (arguments_are c.arguments.new.terms c.in_ok-argued.argued.arguments _ c.in_ok-argued.ensures.arguments.arguments) c.in_ok-argued.ensures.arguments.supply
    c.in_front.result c.in_ok-entered.entered c.before_entered.new.terms (supply_of c.before_entered.new.supply) c.in_ok-entered.ensures
    (λ ds more these. c.in_front.ensures c.before_entered.new.terms _ ds (AreCalls-Extends c.as_slice.result.now _ more (subst (λ l. AreCalls c.arguments.new.terms l (argued c.args.program.now (routine_in c.args.program.now c.args.body.now.here) (supply_of c.args.supply.now) (arguments_in c.args.call.now)).calls) (sym c.as_slice.ensures) c.in_ok-argued.ensures.arguments.calls)) these)
