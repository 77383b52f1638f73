use Rattle.std.proofs.Common.{List, [], ◌∷◌, refl, ap, sym, subst}
use Rattle.spv_logic.specs.declared.conditions.RoutineId.{RoutineId}
use Rattle.spv_logic.specs.declared.conditions.TermId.{TermId}
use Rattle.spv_logic.specs.declared.operators.Head.{Head}
use Rattle.spv_term.specs.substitution.Images.{ArePairs}
use Rattle.spv_assign.specs.supply.Numbers.{supply_of}
use Rattle.spv_meaning.specs.Before.{changed_places}
use Rattle.spv_flow_parts.specs.declared.calls.passed.Argument.{Argument as ArgumentText}
use Rattle.spv_flow_parts.specs.calls.Arguments.{AreAfter, AreArguments, AreChanged, IsAtCall, call_line, called_routine, called_with}
use Rattle.spv_flow_parts.proofs.Pairs.{ArePairs-Extends}
use Rattle.spv_flow_parts.proofs.leaves.InFront.{AreCalls-Extends}
use Rattle.spv_flow_parts.proofs.calls.Each.{AreArguments-Extends, IsAtCall-Extends, heads_fit, own_after, own_fit}
use Rattle.spv_flow_parts.proofs.calls.Entered.{changes_stop, called_stops, rest_within, replaced_stops, entered, made_call}
use Rattle.spv_flow_parts.proofs.calls.entering.before_entered.Goals as goal

pub changes-requires : goal.changes-requires
changes-requires g c = (refl, (refl, ((subst (λ (k : RoutineId). IsAtCall c.args.program.now c.args.terms.now k g.at.routine g.at.arguments) (sym (ap called_routine c.call.view_is)) c.requires.0), ((subst (λ (l : List ArgumentText). AreArguments c.args.terms.now l g.at.arguments) (sym c.as_slice-given.ensures) c.requires.1.0), c.requires.1.1.0))))

pub returns-in_err-fresh : goal.returns-in_err-fresh
returns-in_err-fresh g c =
    changes_stop c.args.program.now c.args.body.now.here (call_line c.args.call.now) g.at.routine g.at.arguments (supply_of c.args.supply.now) c.args.terms.now c.args.rest.items c.requires.1.1.1
    c.from_residual.result c.in_err-fresh.field-0.0 c.changes.new.terms (supply_of c.changes.new.supply) c.from_residual.ensures.1 c.in_err-fresh.ensures.grows c.in_err-fresh.ensures.walk

pub called-requires : goal.called-requires
called-requires g c = (
  IsAtCall-Extends c.args.program.now _ g.at.routine g.at.arguments c.in_ok-fresh.ensures.grows (subst (λ (k : RoutineId). IsAtCall c.args.program.now c.args.terms.now k g.at.routine g.at.arguments) (sym (ap called_routine c.call.view_is)) c.requires.0),
  (
    AreArguments-Extends c.in_ok-fresh.ensures.grows c.as_slice-given.result.now g.at.arguments (subst (λ (l : List ArgumentText). AreArguments c.args.terms.now l g.at.arguments) (sym c.as_slice-given.ensures) c.requires.1.0),
    (
      own_after c.changes.new.terms c.as_slice.result.now _ (subst (λ (l : List (Head × TermId)). AreAfter c.changes.new.terms l (changed_places c.args.program.now g.at.routine g.at.routine.formals g.at.arguments (supply_of c.args.supply.now)).in_exit) (sym c.as_slice.ensures.value) c.in_ok-fresh.ensures.changed.in_exit_are),
      own_fit c.args.program.now c.changes.new.terms c.as_slice.result.now _ (subst (λ (l : List (Head × TermId)). AreAfter c.changes.new.terms l (changed_places c.args.program.now g.at.routine g.at.routine.formals g.at.arguments (supply_of c.args.supply.now)).in_exit) (sym c.as_slice.ensures.value) c.in_ok-fresh.ensures.changed.in_exit_are) (heads_fit c.args.program.now c.args.terms.now _ g.at.routine g.at.arguments (supply_of c.args.supply.now) (subst (λ (k : RoutineId). IsAtCall c.args.program.now c.args.terms.now k g.at.routine g.at.arguments) (sym (ap called_routine c.call.view_is)) c.requires.0)),
    ),
  ),
)

pub returns-in_err-one : goal.returns-in_err-one
returns-in_err-one g c =
    let made = (made_call c.args.program.now g.at.routine g.at.arguments c.call.inside.line (call_line c.args.call.now) c.changes.new.terms c.called.new.terms _ c.as_slice.result.now _ (ap call_line c.call.view_is) (subst (λ (l : List (Head × TermId)). AreAfter c.changes.new.terms l (changed_places c.args.program.now g.at.routine g.at.routine.formals g.at.arguments (supply_of c.args.supply.now)).in_exit) (sym c.as_slice.ensures.value) c.in_ok-fresh.ensures.changed.in_exit_are) c.in_err-one.ensures) in
    called_stops c.args.program.now c.args.body.now.here (call_line c.args.call.now) g.at.routine g.at.arguments (supply_of c.args.supply.now) c.args.terms.now c.args.rest.items c.requires.1.1.1
    c.changes.new.terms (supply_of c.changes.new.supply) c.in_ok-fresh.fresh.in_exit.items c.in_ok-fresh.fresh.after.items c.in_ok-fresh.ensures.grows c.in_ok-fresh.ensures.walk c.in_ok-fresh.ensures.changed
    c.from_residual-in_err-one.result c.in_err-one.field-0.0 c.called.new.terms c.from_residual-in_err-one.ensures.1 made.grows made.walk

pub with_changes-requires-clause-rest : goal.with_changes-requires-clause-rest
with_changes-requires-clause-rest g c =
    let made = (made_call c.args.program.now g.at.routine g.at.arguments c.call.inside.line (call_line c.args.call.now) c.changes.new.terms c.called.new.terms _ c.as_slice.result.now _ (ap call_line c.call.view_is) (subst (λ (l : List (Head × TermId)). AreAfter c.changes.new.terms l (changed_places c.args.program.now g.at.routine g.at.routine.formals g.at.arguments (supply_of c.args.supply.now)).in_exit) (sym c.as_slice.ensures.value) c.in_ok-fresh.ensures.changed.in_exit_are) c.in_ok-one.ensures) in
    rest_within c.args.program.now c.args.body.now.here (call_line c.args.call.now) g.at.routine g.at.arguments (supply_of c.args.supply.now) c.args.terms.now c.args.rest.items c.requires.1.1.1
    c.changes.new.terms (supply_of c.changes.new.supply) c.in_ok-fresh.fresh.in_exit.items c.in_ok-fresh.fresh.after.items c.in_ok-fresh.ensures.grows c.in_ok-fresh.ensures.walk c.in_ok-fresh.ensures.changed
    c.called.new.terms made.grows made.walk

pub with_changes-requires-clause-after : goal.with_changes-requires-clause-after
with_changes-requires-clause-after g c =
    ArePairs-Extends c.in_ok-one.ensures.grows c.as_slice-2.result.now
    (subst (λ (l : List (TermId × TermId)). ArePairs c.changes.new.terms l) (sym c.as_slice-2.ensures.value) c.in_ok-fresh.ensures.changed.fit)

pub returns-in_err-behind : goal.returns-in_err-behind
returns-in_err-behind g c =
    let made = (made_call c.args.program.now g.at.routine g.at.arguments c.call.inside.line (call_line c.args.call.now) c.changes.new.terms c.called.new.terms _ c.as_slice.result.now _ (ap call_line c.call.view_is) (subst (λ (l : List (Head × TermId)). AreAfter c.changes.new.terms l (changed_places c.args.program.now g.at.routine g.at.routine.formals g.at.arguments (supply_of c.args.supply.now)).in_exit) (sym c.as_slice.ensures.value) c.in_ok-fresh.ensures.changed.in_exit_are) c.in_ok-one.ensures) in
    replaced_stops c.args.program.now c.args.body.now.here (call_line c.args.call.now) g.at.routine g.at.arguments (supply_of c.args.supply.now) c.args.terms.now c.args.rest.items c.requires.1.1.1
    c.changes.new.terms (supply_of c.changes.new.supply) c.in_ok-fresh.fresh.in_exit.items c.as_slice-2.result.now c.in_ok-fresh.ensures.grows c.in_ok-fresh.ensures.walk
    (subst (λ (l : List (TermId × TermId)). AreChanged c.changes.new.terms (supply_of c.changes.new.supply) c.in_ok-fresh.fresh.in_exit.items l (changed_places c.args.program.now g.at.routine g.at.routine.formals g.at.arguments (supply_of c.args.supply.now))) (sym c.as_slice-2.ensures.value) c.in_ok-fresh.ensures.changed)
    c.called.new.terms made.grows made.walk _ c.with_changes.new.terms c.in_err-behind.ensures c.from_residual-in_err-behind.result c.in_err-behind.field-0.0 c.from_residual-in_err-behind.ensures.1 refl

pub returns : goal.returns
returns g c =
    let made = (made_call c.args.program.now g.at.routine g.at.arguments c.call.inside.line (call_line c.args.call.now) c.changes.new.terms c.called.new.terms _ c.as_slice.result.now _ (ap call_line c.call.view_is) (subst (λ (l : List (Head × TermId)). AreAfter c.changes.new.terms l (changed_places c.args.program.now g.at.routine g.at.routine.formals g.at.arguments (supply_of c.args.supply.now)).in_exit) (sym c.as_slice.ensures.value) c.in_ok-fresh.ensures.changed.in_exit_are) c.in_ok-one.ensures) in
    entered c.args.program.now c.args.body.now.here (call_line c.args.call.now) g.at.routine g.at.arguments (supply_of c.args.supply.now) c.args.terms.now c.args.rest.items c.requires.1.1.1
    c.changes.new.terms (supply_of c.changes.new.supply) c.in_ok-fresh.fresh.in_exit.items c.as_slice-2.result.now c.in_ok-fresh.ensures.grows c.in_ok-fresh.ensures.walk
    (subst (λ (l : List (TermId × TermId)). AreChanged c.changes.new.terms (supply_of c.changes.new.supply) c.in_ok-fresh.fresh.in_exit.items l (changed_places c.args.program.now g.at.routine g.at.routine.formals g.at.arguments (supply_of c.args.supply.now))) (sym c.as_slice-2.ensures.value) c.in_ok-fresh.ensures.changed)
    c.called.new.terms made.grows made.walk _ c.with_changes.new.terms c.in_ok-behind.ensures c.in_ok-behind.behind refl c.in_front.result
    (λ more these.
    c.in_front.ensures c.with_changes.new.terms (called_with c.args.program.now g.at.routine (call_line c.args.call.now) g.at.arguments (changed_places c.args.program.now g.at.routine g.at.routine.formals g.at.arguments (supply_of c.args.supply.now)).in_exit ∷ []) _
    (AreCalls-Extends (c.in_ok-one.one ∷ []) (_ ∷ []) more (made.call, tt)) these)
