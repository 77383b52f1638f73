use Rattle.std.proofs.Common.{◌≡◌, refl, sym, subst, ◌∙◌}
use Rattle.spv_term.specs.Arena.{tree}
use Rattle.spv_term.proofs.ArenaLemmas.{Extends-trans}
use Rattle.spv_program.specs.Programs.{routine_in}
use Rattle.spv_program.specs.ExpressionTerms.{placed, valued}
use Rattle.spv_program.specs.Supplies.{Supply}
use Rattle.spv_assign.specs.creation_trace.Events.{Stops, Walked}
use Rattle.spv_assign.specs.supply.Numbers.{supply_of}
use Rattle.spv_assign.proofs.Growing.{AreIn-Extends}
use Rattle.spv_flow_parts.specs.leaves.Values.{AreCalls}
use Rattle.spv_flow_parts.specs.calls.Events.{value_events}
use Rattle.spv_flow_parts.proofs.Steps.{Stands-Extends}
use Rattle.spv_flow_parts.proofs.leaves.InFront.{AreCalls-Extends}
use Rattle.spv_flow_parts.proofs.calls.Wholes.{target_stays, target_there}
use Rattle.spv_flow_parts.proofs.assigning.Assigned.{is_assignment, place_stops, value_stops, put_stops, front_stops, assigned, place_has}
use Rattle.spv_flow_parts.proofs.assigning.before_assign.Goals as goal

pub place-requires-clause-typed : goal.place-requires-clause-typed
place-requires-clause-typed c = let is = (is_assignment c.args.program.now c.args.body.now.here c.args.d.now c.args.e.now c.requires.typed) in record { of = is.of; typed = is.typed }

pub returns-in_err-to : goal.returns-in_err-to
returns-in_err-to c = place_stops c.args.program.now c.args.body.now.here c.args.d.now c.args.e.now (supply_of c.args.supply.now) c.args.terms.now c.args.rest.items c.requires.rest c.from_residual.result c.in_err-to.field-0.0 c.place.new.terms (supply_of c.place.new.supply) c.from_residual.ensures.1 c.in_err-to.ensures.grows c.in_err-to.ensures.walk

pub value-requires-clause-may : goal.value-requires-clause-may
value-requires-clause-may c = record {
  stands = Stands-Extends c.args.program.now c.args.body.now c.in_ok-to.ensures.grows c.requires.may.stands;
  typed = c.requires.may.typed;
  there = c.in_ok-to.ensures.place.there;
}

pub value-requires-clause-typed : goal.value-requires-clause-typed
value-requires-clause-typed c = let is = (is_assignment c.args.program.now c.args.body.now.here c.args.d.now c.args.e.now c.requires.typed) in record { sort = _; sorted = is.sorted }

pub returns-in_err-v : goal.returns-in_err-v
returns-in_err-v c =
    value_stops c.args.program.now c.args.body.now.here c.args.d.now c.args.e.now (supply_of c.args.supply.now) c.args.terms.now c.args.rest.items c.requires.rest c.place.new.terms c.in_ok-to.ensures.walk c.from_residual-in_err-v.result c.in_err-v.field-0.0 c.value.new.terms (supply_of c.value.new.supply) c.from_residual-in_err-v.ensures.1 c.in_err-v.ensures.made.grows
    (subst (λ (s : Supply). Stops c.in_err-v.field-0.0 (value_events c.args.program.now (routine_in c.args.program.now c.args.body.now.here) s c.args.e.now) c.place.new.terms c.value.new.terms) c.in_ok-to.ensures.place.supply c.in_err-v.ensures.made.walk)

pub with_place-requires-clause-target : goal.with_place-requires-clause-target
with_place-requires-clause-target c = target_there c.in_ok-v.ensures.made.grows c.in_ok-to.to.target c.in_ok-to.ensures.place.target

pub with_place-requires-clause-v : goal.with_place-requires-clause-v
with_place-requires-clause-v c = c.in_ok-v.ensures.made.value.term.there

pub with_place-requires-clause-sorts : goal.with_place-requires-clause-sorts
with_place-requires-clause-sorts c =
    let is = (is_assignment c.args.program.now c.args.body.now.here c.args.d.now c.args.e.now c.requires.typed) in
    let more = Extends-trans c.in_ok-to.ensures.grows c.in_ok-v.ensures.made.grows in
    place_has c.args.program.now c.args.body.now.here c.args.d.now (supply_of c.args.supply.now) is.of c.value.new.terms (more.shapes ∙ c.requires.may.stands.shapes) (more.decls ∙ c.requires.may.stands.decls) c.in_ok-to.to.target (target_stays c.in_ok-v.ensures.made.grows c.in_ok-to.to.target c.in_ok-to.ensures.place.target ∙ c.in_ok-to.ensures.place.same) is.typed
    ∙ sym is.sorted ∙ c.in_ok-v.ensures.sort

pub with_place-requires-clause-rest : goal.with_place-requires-clause-rest
with_place-requires-clause-rest c = AreIn-Extends (Extends-trans c.in_ok-to.ensures.grows c.in_ok-v.ensures.made.grows) c.args.rest.items c.requires.rest

pub returns-in_err-changed : goal.returns-in_err-changed
returns-in_err-changed c =
    put_stops c.args.program.now c.args.body.now.here c.args.d.now c.args.e.now (supply_of c.args.supply.now) c.args.terms.now c.args.rest.items c.requires.rest c.place.new.terms c.in_ok-to.ensures.walk
    c.value.new.terms (supply_of c.value.new.supply) (subst (λ (s : Supply). Walked (value_events c.args.program.now (routine_in c.args.program.now c.args.body.now.here) s c.args.e.now) c.place.new.terms c.value.new.terms) c.in_ok-to.ensures.place.supply c.in_ok-v.ensures.made.walk) (subst (λ (s : Supply). supply_of c.value.new.supply ≡ (valued c.args.program.now (routine_in c.args.program.now c.args.body.now.here) s c.args.e.now).supply) c.in_ok-to.ensures.place.supply c.in_ok-v.ensures.made.value.supply) c.in_ok-v.ensures.made.value.there
    c.in_ok-to.to.target c.in_ok-v.v.term (target_stays c.in_ok-v.ensures.made.grows c.in_ok-to.to.target c.in_ok-to.ensures.place.target ∙ c.in_ok-to.ensures.place.same) (subst (λ (s : Supply). tree c.value.new.terms c.in_ok-v.v.term ≡ (valued c.args.program.now (routine_in c.args.program.now c.args.body.now.here) s c.args.e.now).term) c.in_ok-to.ensures.place.supply c.in_ok-v.ensures.made.value.term.is_tree)
    _ c.with_place.new.terms c.in_err-changed.ensures c.from_residual-in_err-changed.result c.in_err-changed.field-0.0 c.from_residual-in_err-changed.ensures.1 refl

pub returns-in_err-behind : goal.returns-in_err-behind
returns-in_err-behind c =
    front_stops c.args.program.now c.args.body.now.here c.args.d.now c.args.e.now (supply_of c.args.supply.now) c.args.terms.now c.args.rest.items c.requires.rest c.place.new.terms c.in_ok-to.ensures.walk
    c.value.new.terms (supply_of c.value.new.supply) (subst (λ (s : Supply). Walked (value_events c.args.program.now (routine_in c.args.program.now c.args.body.now.here) s c.args.e.now) c.place.new.terms c.value.new.terms) c.in_ok-to.ensures.place.supply c.in_ok-v.ensures.made.walk) (subst (λ (s : Supply). supply_of c.value.new.supply ≡ (valued c.args.program.now (routine_in c.args.program.now c.args.body.now.here) s c.args.e.now).supply) c.in_ok-to.ensures.place.supply c.in_ok-v.ensures.made.value.supply) c.in_ok-v.ensures.made.value.there
    c.in_ok-to.to.target c.in_ok-v.v.term (target_stays c.in_ok-v.ensures.made.grows c.in_ok-to.to.target c.in_ok-to.ensures.place.target ∙ c.in_ok-to.ensures.place.same) (subst (λ (s : Supply). tree c.value.new.terms c.in_ok-v.v.term ≡ (valued c.args.program.now (routine_in c.args.program.now c.args.body.now.here) s c.args.e.now).term) c.in_ok-to.ensures.place.supply c.in_ok-v.ensures.made.value.term.is_tree)
    _ c.with_place.new.terms c.in_ok-changed.ensures c.in_ok-changed.changed refl c.in_front.result
    (λ more these. c.in_front.ensures c.with_place.new.terms _ _ (AreCalls-Extends c.as_slice.result.now _ more (subst (λ l. AreCalls c.value.new.terms l (valued c.args.program.now (routine_in c.args.program.now c.args.body.now.here) (placed c.args.program.now (routine_in c.args.program.now c.args.body.now.here) (supply_of c.args.supply.now) c.args.d.now).supply c.args.e.now).calls) (sym c.as_slice.ensures) (subst (λ (s : Supply). AreCalls c.value.new.terms c.in_ok-v.v.calls (valued c.args.program.now (routine_in c.args.program.now c.args.body.now.here) s c.args.e.now).calls) c.in_ok-to.ensures.place.supply c.in_ok-v.ensures.made.value.calls))) these)
    c.from_residual-in_err-behind.result c.in_err-behind.field-0.0 c.from_residual-in_err-behind.ensures.1 c.in_err-behind.was

pub returns : goal.returns
returns c =
    assigned c.args.program.now c.args.body.now.here c.args.d.now c.args.e.now (supply_of c.args.supply.now) c.args.terms.now c.args.rest.items c.requires.rest c.place.new.terms c.in_ok-to.ensures.walk
    c.value.new.terms (supply_of c.value.new.supply) (subst (λ (s : Supply). Walked (value_events c.args.program.now (routine_in c.args.program.now c.args.body.now.here) s c.args.e.now) c.place.new.terms c.value.new.terms) c.in_ok-to.ensures.place.supply c.in_ok-v.ensures.made.walk) (subst (λ (s : Supply). supply_of c.value.new.supply ≡ (valued c.args.program.now (routine_in c.args.program.now c.args.body.now.here) s c.args.e.now).supply) c.in_ok-to.ensures.place.supply c.in_ok-v.ensures.made.value.supply) c.in_ok-v.ensures.made.value.there
    c.in_ok-to.to.target c.in_ok-v.v.term (target_stays c.in_ok-v.ensures.made.grows c.in_ok-to.to.target c.in_ok-to.ensures.place.target ∙ c.in_ok-to.ensures.place.same) (subst (λ (s : Supply). tree c.value.new.terms c.in_ok-v.v.term ≡ (valued c.args.program.now (routine_in c.args.program.now c.args.body.now.here) s c.args.e.now).term) c.in_ok-to.ensures.place.supply c.in_ok-v.ensures.made.value.term.is_tree)
    _ c.with_place.new.terms c.in_ok-changed.ensures c.in_ok-changed.changed refl c.in_front.result
    (λ more these. c.in_front.ensures c.with_place.new.terms _ _ (AreCalls-Extends c.as_slice.result.now _ more (subst (λ l. AreCalls c.value.new.terms l (valued c.args.program.now (routine_in c.args.program.now c.args.body.now.here) (placed c.args.program.now (routine_in c.args.program.now c.args.body.now.here) (supply_of c.args.supply.now) c.args.d.now).supply c.args.e.now).calls) (sym c.as_slice.ensures) (subst (λ (s : Supply). AreCalls c.value.new.terms c.in_ok-v.v.calls (valued c.args.program.now (routine_in c.args.program.now c.args.body.now.here) s c.args.e.now).calls) c.in_ok-to.ensures.place.supply c.in_ok-v.ensures.made.value.calls))) these)
    c.in_ok-behind.behind c.in_ok-behind.was c.in_front-2.result
    (λ more these. c.in_front-2.ensures c.with_place.new.terms _ _ (AreCalls-Extends c.as_slice-2.result.now _ more (subst (λ l. AreCalls c.place.new.terms l (placed c.args.program.now (routine_in c.args.program.now c.args.body.now.here) (supply_of c.args.supply.now) c.args.d.now).calls) (sym c.as_slice-2.ensures) c.in_ok-to.ensures.place.calls)) these)
