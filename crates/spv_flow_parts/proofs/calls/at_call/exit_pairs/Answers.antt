use Rattle.std.proofs.Common.{◌≡◌, List, map, refl, sym, ap, subst, ◌∙◌, []}
use Rattle.spv_logic.specs.declared.operators.Head.{Head}
use Rattle.spv_logic.specs.Terms.{Term}
use Rattle.spv_term.proofs.ArenaLemmas.{Extends-trans}
use Rattle.spv_program.specs.Programs.{Program, Routine}
use Rattle.spv_program.specs.Calls.{initial_at_call, starts_at_call}
use Rattle.spv_program.specs.typed.ProgramViews.{formal_of, routine_of}
use Rattle.spv_assign.specs.creation_trace.Events.{Stops, Walked}
use Rattle.spv_assign.specs.creation_trace.StatementEvents.{pair_terms, several}
use Rattle.spv_assign.proofs.limited_steps.Limits.{same_stop}
use Rattle.spv_flow_parts.specs.calls.Arguments.{FitHeads, pairs_at_exit}
use Rattle.spv_flow_parts.proofs.calls.After.{after_put, after_stops, initial_put, initial_stops, names_as, starts_put, starts_stop}
use Rattle.spv_flow_parts.proofs.calls.Passing.{AreAfter-Extends, ArePresent-Extends}
use Rattle.spv_flow_parts.proofs.calls.Zipping.{IsAtCall-Extends, at_as}
use Rattle.spv_flow_parts.proofs.calls.at_call.exit_pairs.Goals as goal

pub add_starts-requires : goal.add_starts-requires
add_starts-requires g c = (
  at_as c.args.program.now g.at.program c.args.terms.now g.at.number (routine_of c.args.routine.now) g.at.routine g.at.arguments c.requires.0 c.requires.1.0 c.requires.1.1.0,
  (
    (ap (map formal_of) c.as_slice-formals.ensures ∙ ap (λ (r : Routine). r.formals) (sym c.requires.1.0)),
    ((c.as_slice-forms.ensures ∙ ap (λ (p : Program). p.forms) ((c.behind-program.view_is ∙ c.program.ensures) ∙ sym c.requires.0)), c.requires.1.1.1.1.0),
  ),
)

pub add_initial_items-requires : goal.add_initial_items-requires
add_initial_items-requires g c = (
  IsAtCall-Extends g.at.program c.args.terms.now g.at.number g.at.routine g.at.arguments (at_as c.args.program.now g.at.program c.args.terms.now g.at.number (routine_of c.args.routine.now) g.at.routine g.at.arguments c.requires.0 c.requires.1.0 c.requires.1.1.0) c.add_starts.new.terms c.in_ok-add_starts.ensures.grows,
  (
    (ap (map formal_of) c.as_slice-formals.ensures ∙ ap (λ (r : Routine). r.formals) (sym c.requires.1.0)),
    (
      names_as c.args.program.now g.at.program (routine_of c.args.routine.now) g.at.routine c.args.variables.now c.requires.0 c.requires.1.0 c.requires.1.1.1.0,
      (
        ArePresent-Extends c.in_ok-add_starts.ensures.grows c.args.now.now g.at.arguments c.requires.1.1.1.1.1.0,
        c.as_slice-initial.ensures ∙ ap (λ (r : Routine). r.initial) (sym c.requires.1.0),
      ),
    ),
  ),
)

pub add_after-requires : goal.add_after-requires
add_after-requires g c =
    let more = Extends-trans c.in_ok-add_starts.ensures.grows c.in_ok-add_initial_items.ensures.grows in
    let at = IsAtCall-Extends g.at.program c.args.terms.now g.at.number g.at.routine g.at.arguments (at_as c.args.program.now g.at.program c.args.terms.now g.at.number (routine_of c.args.routine.now) g.at.routine g.at.arguments c.requires.0 c.requires.1.0 c.requires.1.1.0) c.add_initial_items.new.terms more in
    (at.shapes_are, (at.decls_are, (AreAfter-Extends more c.args.after.now g.at.after c.requires.1.1.1.1.1.1.0, subst (λ (p : Program). FitHeads p g.at.after) (sym c.requires.0) c.requires.1.1.1.1.1.1.1)))

pub returns-in_err-add_starts-clause-grows : goal.returns-in_err-add_starts-clause-grows
returns-in_err-add_starts-clause-grows g c = c.in_err-add_starts.ensures.grows

pub returns-in_err-add_starts-clause-walk : goal.returns-in_err-add_starts-clause-walk
returns-in_err-add_starts-clause-walk g c =
    let same : pairs_at_exit g.at.program g.at.routine g.at.arguments g.at.after ≡ pairs_at_exit c.args.program.now (routine_of c.args.routine.now) g.at.arguments g.at.after =
    let e = c.requires.0 in let f = c.requires.1.0 in λ i. pairs_at_exit (e i) (f i) g.at.arguments g.at.after in
    same_stop c.from_residual.result c.in_err-add_starts.field-0.0 _ _ _ c.from_residual.ensures.1
    (subst (λ (qs : List (Head × Term)). Stops c.in_err-add_starts.field-0.0 (several (pair_terms qs)) c.args.terms.now c.add_starts.new.terms) same
    (starts_stop c.args.terms.now (starts_at_call g.at.program g.at.routine.formals g.at.arguments) (initial_at_call g.at.program g.at.routine g.at.arguments) g.at.after c.add_starts.new.terms c.new-pairs.result.items c.new-pairs.ensures.items c.in_err-add_starts.field-0.0 c.in_err-add_starts.ensures.walk))

pub returns-in_err-add_initial_items-clause-grows : goal.returns-in_err-add_initial_items-clause-grows
returns-in_err-add_initial_items-clause-grows g c = Extends-trans c.in_ok-add_starts.ensures.grows c.in_err-add_initial_items.ensures.grows

pub returns-in_err-add_initial_items-clause-walk : goal.returns-in_err-add_initial_items-clause-walk
returns-in_err-add_initial_items-clause-walk g c =
    let same : pairs_at_exit g.at.program g.at.routine g.at.arguments g.at.after ≡ pairs_at_exit c.args.program.now (routine_of c.args.routine.now) g.at.arguments g.at.after =
    let e = c.requires.0 in let f = c.requires.1.0 in λ i. pairs_at_exit (e i) (f i) g.at.arguments g.at.after in
    same_stop c.from_residual-in_err-add_initial_items.result c.in_err-add_initial_items.field-0.0 _ _ _ c.from_residual-in_err-add_initial_items.ensures.1
    (subst (λ (qs : List (Head × Term)). Stops c.in_err-add_initial_items.field-0.0 (several (pair_terms qs)) c.args.terms.now c.add_initial_items.new.terms) same
    (initial_stops c.args.terms.now (starts_at_call g.at.program g.at.routine.formals g.at.arguments) (initial_at_call g.at.program g.at.routine g.at.arguments) g.at.after c.add_starts.new.terms c.add_initial_items.new.terms c.add_starts.new.pairs.items (starts_put c.args.terms.now (starts_at_call g.at.program g.at.routine.formals g.at.arguments) (initial_at_call g.at.program g.at.routine g.at.arguments) g.at.after c.add_starts.new.terms c.new-pairs.result.items c.new-pairs.ensures.items tt c.add_starts.new.pairs.items c.in_ok-add_starts.ensures) c.in_err-add_initial_items.field-0.0 c.in_err-add_initial_items.ensures.walk))

pub returns-in_err-add_after-clause-grows : goal.returns-in_err-add_after-clause-grows
returns-in_err-add_after-clause-grows g c = Extends-trans c.in_ok-add_starts.ensures.grows (Extends-trans c.in_ok-add_initial_items.ensures.grows c.in_err-add_after.ensures.grows)

pub returns-in_err-add_after-clause-walk : goal.returns-in_err-add_after-clause-walk
returns-in_err-add_after-clause-walk g c =
    let same : pairs_at_exit g.at.program g.at.routine g.at.arguments g.at.after ≡ pairs_at_exit c.args.program.now (routine_of c.args.routine.now) g.at.arguments g.at.after =
    let e = c.requires.0 in let f = c.requires.1.0 in λ i. pairs_at_exit (e i) (f i) g.at.arguments g.at.after in
    same_stop c.from_residual-in_err-add_after.result c.in_err-add_after.field-0.0 _ _ _ c.from_residual-in_err-add_after.ensures.1
    (subst (λ (qs : List (Head × Term)). Stops c.in_err-add_after.field-0.0 (several (pair_terms qs)) c.args.terms.now c.add_after.new.terms) same
    (after_stops c.args.terms.now (starts_at_call g.at.program g.at.routine.formals g.at.arguments) (initial_at_call g.at.program g.at.routine g.at.arguments) g.at.after c.add_initial_items.new.terms c.add_after.new.terms c.add_initial_items.new.pairs.items (initial_put c.args.terms.now (starts_at_call g.at.program g.at.routine.formals g.at.arguments) (initial_at_call g.at.program g.at.routine g.at.arguments) g.at.after c.add_starts.new.terms c.add_initial_items.new.terms c.add_starts.new.pairs.items (starts_put c.args.terms.now (starts_at_call g.at.program g.at.routine.formals g.at.arguments) (initial_at_call g.at.program g.at.routine g.at.arguments) g.at.after c.add_starts.new.terms c.new-pairs.result.items c.new-pairs.ensures.items tt c.add_starts.new.pairs.items c.in_ok-add_starts.ensures) tt c.add_initial_items.new.pairs.items c.in_ok-add_initial_items.ensures) c.in_err-add_after.field-0.0 c.in_err-add_after.ensures.walk))

pub returns-clause-grows : goal.returns-clause-grows
returns-clause-grows g c = Extends-trans c.in_ok-add_starts.ensures.grows (Extends-trans c.in_ok-add_initial_items.ensures.grows c.in_ok-add_after.ensures.grows)

pub returns-clause-walk : goal.returns-clause-walk
returns-clause-walk g c =
    let same : pairs_at_exit g.at.program g.at.routine g.at.arguments g.at.after ≡ pairs_at_exit c.args.program.now (routine_of c.args.routine.now) g.at.arguments g.at.after =
    let e = c.requires.0 in let f = c.requires.1.0 in λ i. pairs_at_exit (e i) (f i) g.at.arguments g.at.after in
    subst (λ (qs : List (Head × Term)). Walked (several (pair_terms qs)) c.args.terms.now c.add_after.new.terms) same
    (after_put c.args.terms.now (starts_at_call g.at.program g.at.routine.formals g.at.arguments) (initial_at_call g.at.program g.at.routine g.at.arguments) g.at.after c.add_initial_items.new.terms c.add_after.new.terms c.add_initial_items.new.pairs.items (initial_put c.args.terms.now (starts_at_call g.at.program g.at.routine.formals g.at.arguments) (initial_at_call g.at.program g.at.routine g.at.arguments) g.at.after c.add_starts.new.terms c.add_initial_items.new.terms c.add_starts.new.pairs.items (starts_put c.args.terms.now (starts_at_call g.at.program g.at.routine.formals g.at.arguments) (initial_at_call g.at.program g.at.routine g.at.arguments) g.at.after c.add_starts.new.terms c.new-pairs.result.items c.new-pairs.ensures.items tt c.add_starts.new.pairs.items c.in_ok-add_starts.ensures) tt c.add_initial_items.new.pairs.items c.in_ok-add_initial_items.ensures) tt c.add_after.new.pairs.items c.in_ok-add_after.ensures).walk

pub returns-clause-pairs : goal.returns-clause-pairs
returns-clause-pairs g c =
    let same : pairs_at_exit g.at.program g.at.routine g.at.arguments g.at.after ≡ pairs_at_exit c.args.program.now (routine_of c.args.routine.now) g.at.arguments g.at.after =
    let e = c.requires.0 in let f = c.requires.1.0 in λ i. pairs_at_exit (e i) (f i) g.at.arguments g.at.after in
    ((after_put c.args.terms.now (starts_at_call g.at.program g.at.routine.formals g.at.arguments) (initial_at_call g.at.program g.at.routine g.at.arguments) g.at.after c.add_initial_items.new.terms c.add_after.new.terms c.add_initial_items.new.pairs.items (initial_put c.args.terms.now (starts_at_call g.at.program g.at.routine.formals g.at.arguments) (initial_at_call g.at.program g.at.routine g.at.arguments) g.at.after c.add_starts.new.terms c.add_initial_items.new.terms c.add_starts.new.pairs.items (starts_put c.args.terms.now (starts_at_call g.at.program g.at.routine.formals g.at.arguments) (initial_at_call g.at.program g.at.routine g.at.arguments) g.at.after c.add_starts.new.terms c.new-pairs.result.items c.new-pairs.ensures.items tt c.add_starts.new.pairs.items c.in_ok-add_starts.ensures) tt c.add_initial_items.new.pairs.items c.in_ok-add_initial_items.ensures) tt c.add_after.new.pairs.items c.in_ok-add_after.ensures).pairs [] refl tt).0 ∙ same

pub returns-clause-fit : goal.returns-clause-fit
returns-clause-fit g c =
    ((after_put c.args.terms.now (starts_at_call g.at.program g.at.routine.formals g.at.arguments) (initial_at_call g.at.program g.at.routine g.at.arguments) g.at.after c.add_initial_items.new.terms c.add_after.new.terms c.add_initial_items.new.pairs.items (initial_put c.args.terms.now (starts_at_call g.at.program g.at.routine.formals g.at.arguments) (initial_at_call g.at.program g.at.routine g.at.arguments) g.at.after c.add_starts.new.terms c.add_initial_items.new.terms c.add_starts.new.pairs.items (starts_put c.args.terms.now (starts_at_call g.at.program g.at.routine.formals g.at.arguments) (initial_at_call g.at.program g.at.routine g.at.arguments) g.at.after c.add_starts.new.terms c.new-pairs.result.items c.new-pairs.ensures.items tt c.add_starts.new.pairs.items c.in_ok-add_starts.ensures) tt c.add_initial_items.new.pairs.items c.in_ok-add_initial_items.ensures) tt c.add_after.new.pairs.items c.in_ok-add_after.ensures).pairs [] refl tt).1
