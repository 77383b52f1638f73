use Rattle.std.proofs.Common.{◌≡◌, List, map, sym, ap, subst, ◌∙◌}
use Rattle.spv_logic.specs.declared.operators.Head.{Head}
use Rattle.spv_logic.specs.Terms.{Term}
use Rattle.spv_program.specs.Programs.{Program, Routine}
use Rattle.spv_program.specs.Calls.{at_call}
use Rattle.spv_program.specs.Terms.{entry_term}
use Rattle.spv_program.specs.typed.FormulaViews.{annotation_of}
use Rattle.spv_program.specs.typed.ProgramViews.{formal_of, routine_of}
use Rattle.spv_term.specs.substitution.Images.{ArePairs}
use Rattle.spv_assign.specs.creation_trace.Events.{Stops, Walked}
use Rattle.spv_assign.specs.creation_trace.StatementEvents.{pair_terms, several}
use Rattle.spv_assign.specs.Conditions.{pairs_of}
use Rattle.spv_flow_parts.proofs.Steps.{IsTerm-Extends}
use Rattle.spv_flow_parts.proofs.calls.AtCall.{first_stops, pairs_stop_in, put_in}
use Rattle.spv_flow_parts.proofs.calls.Passing.{ArePresent-Extends}
use Rattle.spv_flow_parts.proofs.calls.Zipping.{IsAtCall-Extends, at_as, over_at, right_routine}
use Rattle.spv_flow_parts.proofs.calls.at_call.entry_at_call.Goals as goal

pub at_call-requires : goal.at_call-requires
at_call-requires g c = (
  record {
    number = c.requires.1.1.0.number;
    at = at_as c.args.program.now g.at.program c.entry_formula.new.terms c.requires.1.1.0.number (routine_of c.args.routine.now) g.at.routine g.at.arguments c.requires.0 c.requires.1.0
        (IsAtCall-Extends c.args.program.now c.args.terms.now c.requires.1.1.0.number (routine_of c.args.routine.now) g.at.arguments c.requires.1.1.0.at c.entry_formula.new.terms c.in_ok-f.ensures.grows);
  },
  (
    ap (map formal_of) c.as_slice.ensures ∙ ap (λ (r : Routine). r.formals) (sym c.requires.1.0),
    (
      c.as_slice-forms.ensures ∙ ap (λ (p : Program). p.forms) ((c.behind-program.view_is ∙ c.program.ensures) ∙ sym c.requires.0),
      ArePresent-Extends c.in_ok-f.ensures.grows c.args.now.now g.at.arguments c.requires.1.1.1.1,
    ),
  ),
)

pub entry_formula-requires : goal.entry_formula-requires
entry_formula-requires g c =
    let at = c.requires.1.1.0.at in
    record {
      over = over_at c.args.program.now c.args.terms.now c.requires.1.1.0.number (routine_of c.args.routine.now) g.at.arguments at;
      right = right_routine c.args.program.now c.args.terms.now c.requires.1.1.0.number (routine_of c.args.routine.now) g.at.arguments at;
      entry = c.requires.1.1.1.0;
    }

pub returns-in_err-f : goal.returns-in_err-f
returns-in_err-f g c =
    first_stops (entry_term c.args.program.now (routine_of c.args.routine.now) (annotation_of c.args.entry.now)) (at_call c.args.program.now (routine_of c.args.routine.now).formals g.at.arguments) c.from_residual.result c.in_err-f.field-0.0
    c.args.terms.now c.entry_formula.new.terms c.from_residual.ensures.1 c.in_err-f.ensures

pub returns-in_err-pairs : goal.returns-in_err-pairs
returns-in_err-pairs g c =
    let same : at_call g.at.program g.at.routine.formals g.at.arguments ≡ at_call c.args.program.now (routine_of c.args.routine.now).formals g.at.arguments =
    let e = c.requires.0 in let f = c.requires.1.0 in λ i. at_call (e i) (f i).formals g.at.arguments in
    pairs_stop_in (entry_term c.args.program.now (routine_of c.args.routine.now) (annotation_of c.args.entry.now)) (at_call c.args.program.now (routine_of c.args.routine.now).formals g.at.arguments) c.args.terms.now c.entry_formula.new.terms
    c.in_ok-f.f c.in_ok-f.ensures c.from_residual-in_err-pairs.result c.in_err-pairs.field-0.0 c.at_call.new.terms c.from_residual-in_err-pairs.ensures.1 c.in_err-pairs.ensures.grows
    (subst (λ (qs : List (Head × Term)). Stops c.in_err-pairs.field-0.0 (several (pair_terms qs)) c.entry_formula.new.terms c.at_call.new.terms) same c.in_err-pairs.ensures.walk)

pub with_pairs-requires : goal.with_pairs-requires
with_pairs-requires g c =
    let later = IsTerm-Extends c.in_ok-f.f (entry_term c.args.program.now (routine_of c.args.routine.now) (annotation_of c.args.entry.now)) c.in_ok-pairs.ensures.grows c.in_ok-f.ensures.term in
    record {
      t = later.there;
      pairs = subst (ArePairs c.at_call.new.terms) (sym c.as_slice-2.ensures.value) c.in_ok-pairs.ensures.fit;
    }

pub returns : goal.returns
returns g c =
    let same : at_call g.at.program g.at.routine.formals g.at.arguments ≡ at_call c.args.program.now (routine_of c.args.routine.now).formals g.at.arguments =
    let e = c.requires.0 in let f = c.requires.1.0 in λ i. at_call (e i) (f i).formals g.at.arguments in
    put_in (entry_term c.args.program.now (routine_of c.args.routine.now) (annotation_of c.args.entry.now)) (at_call c.args.program.now (routine_of c.args.routine.now).formals g.at.arguments) c.args.terms.now c.entry_formula.new.terms
    c.in_ok-f.f c.in_ok-f.ensures c.with_pairs.result c.at_call.new.terms c.with_pairs.new.terms c.as_slice-2.result.now
    (subst (λ (qs : List (Head × Term)). Walked (several (pair_terms qs)) c.entry_formula.new.terms c.at_call.new.terms) same c.in_ok-pairs.ensures.walk)
    (ap (pairs_of c.at_call.new.terms) c.as_slice-2.ensures.value ∙ c.in_ok-pairs.ensures.pairs ∙ same) c.with_pairs.ensures
