use Rattle.std.proofs.Common.{Option, refl, sym, ap, subst, ◌∙◌}
use Rattle.spv_logic.specs.declared.conditions.RoutineId.{RoutineId}
use Rattle.spv_term.specs.substitution.Images.{ArePairs}
use Rattle.spv_program.specs.Programs.{Routine}
use Rattle.spv_program.specs.Terms.{exit_term}
use Rattle.spv_program.specs.typed.FormulaViews.{annotation_of}
use Rattle.spv_program.specs.typed.ProgramViews.{routine_of}
use Rattle.spv_expression_terms.specs.term_walk.Laws.{HasNamesOf, variable_scope}
use Rattle.spv_assign.specs.Conditions.{pairs_of}
use Rattle.spv_flow_parts.specs.calls.Arguments.{IsAtCall, pairs_at_exit}
use Rattle.spv_flow_parts.proofs.Steps.{IsTerm-Extends}
use Rattle.spv_flow_parts.proofs.calls.AtCall.{first_stops, pairs_stop_in, put_in}
use Rattle.spv_flow_parts.proofs.calls.Passing.{AreAfter-Extends, AreArguments-Extends, ArePresent-Extends}
use Rattle.spv_flow_parts.proofs.calls.Zipping.{IsAtCall-Extends, over_at, right_routine}
use Rattle.spv_flow_parts.proofs.calls.at_call.exit_at_call.Goals as goal

pub exit_formula-requires : goal.exit_formula-requires
exit_formula-requires g c =
    let at = c.requires.1.0 in
    let p = c.args.program.now in
    let r = routine_of c.args.routine.now in
    record {
      over = over_at p c.args.terms.now c.args.number r g.at.arguments at;
      right = right_routine p c.args.terms.now c.args.number r g.at.arguments at;
      variables = subst (λ (r : Option Routine). HasNamesOf c.in_ok-variables.variables (variable_scope p r)) at.routine c.in_ok-variables.ensures;
      exit = c.requires.1.1.0;
    }

pub exit_pairs-requires : goal.exit_pairs-requires
exit_pairs-requires g c =
    let more = c.in_ok-f.ensures.grows in (
      refl,
      (
        refl,
        (
          IsAtCall-Extends c.args.program.now c.args.terms.now g.at.number (routine_of c.args.routine.now) g.at.arguments
              (subst (λ (n : RoutineId). IsAtCall c.args.program.now c.args.terms.now n (routine_of c.args.routine.now) g.at.arguments) (sym c.requires.0) c.requires.1.0) c.exit_formula.new.terms more,
          (
            subst (λ (r : Option Routine). HasNamesOf c.in_ok-variables.variables (variable_scope c.args.program.now r)) c.requires.1.0.routine c.in_ok-variables.ensures,
            (
              AreArguments-Extends more c.args.given.now g.at.arguments c.requires.1.1.1.0,
              (
                ArePresent-Extends more c.args.now.now g.at.arguments c.requires.1.1.1.1.0,
                (AreAfter-Extends more c.args.after.now g.at.after c.requires.1.1.1.1.1.0, c.requires.1.1.1.1.1.1),
              ),
            ),
          ),
        ),
      ),
    )

pub returns-in_err-f : goal.returns-in_err-f
returns-in_err-f g c =
    first_stops (exit_term c.args.program.now (routine_of c.args.routine.now) (annotation_of c.args.exit.now)) (pairs_at_exit c.args.program.now (routine_of c.args.routine.now) g.at.arguments g.at.after) c.from_residual-in_err-f.result c.in_err-f.field-0.0 c.args.terms.now c.exit_formula.new.terms c.from_residual-in_err-f.ensures.1 c.in_err-f.ensures

pub returns-in_err-pairs : goal.returns-in_err-pairs
returns-in_err-pairs g c =
    pairs_stop_in (exit_term c.args.program.now (routine_of c.args.routine.now) (annotation_of c.args.exit.now)) (pairs_at_exit c.args.program.now (routine_of c.args.routine.now) g.at.arguments g.at.after) c.args.terms.now c.exit_formula.new.terms c.in_ok-f.f c.in_ok-f.ensures c.from_residual-in_err-pairs.result c.in_err-pairs.field-0.0 c.exit_pairs.new.terms c.from_residual-in_err-pairs.ensures.1
    c.in_err-pairs.ensures.grows c.in_err-pairs.ensures.walk

pub with_pairs-requires : goal.with_pairs-requires
with_pairs-requires g c =
    let later = IsTerm-Extends c.in_ok-f.f (exit_term c.args.program.now (routine_of c.args.routine.now) (annotation_of c.args.exit.now)) c.in_ok-pairs.ensures.grows c.in_ok-f.ensures.term in
    record {
      t = later.there;
      pairs = subst (ArePairs c.exit_pairs.new.terms) (sym c.as_slice.ensures.value) c.in_ok-pairs.ensures.fit;
    }

pub returns : goal.returns
returns g c =
    put_in (exit_term c.args.program.now (routine_of c.args.routine.now) (annotation_of c.args.exit.now)) (pairs_at_exit c.args.program.now (routine_of c.args.routine.now) g.at.arguments g.at.after) c.args.terms.now c.exit_formula.new.terms c.in_ok-f.f c.in_ok-f.ensures c.with_pairs.result c.exit_pairs.new.terms c.with_pairs.new.terms c.as_slice.result.now c.in_ok-pairs.ensures.walk
    (ap (pairs_of c.exit_pairs.new.terms) c.as_slice.ensures.value ∙ c.in_ok-pairs.ensures.pairs) c.with_pairs.ensures
