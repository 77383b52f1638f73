use Rattle.std.proofs.Common.{false, ◌+◌, List, ◌∷◌, map, drop, ap, sym, subst, arith}
use Rattle.std.proofs.lemmas.List.{drop_more, drop_all}
use Rattle.spv_program.specs.declared.typed.programs.Formal.{Formal as FormalText}
use Rattle.spv_program.specs.typed.ProgramViews.{formal_of}
use Rattle.spv_assign.specs.supply.Numbers.{supply_of}
use Rattle.spv_flow_parts.specs.declared.calls.passed.Argument.{Argument as ArgumentText}
use Rattle.spv_flow_parts.specs.calls.Arguments.{changed_by_places}
use Rattle.spv_flow_parts.proofs.calls.Each.{PlacesSoFar, places_begin, next_types, next_given, next_sorts, place_stops, place_done, places_end}
use Rattle.spv_flow_parts.proofs.calls.entering.add_places.Goals as goal

pub loop-place-init : goal.loop-place-init
loop-place-init g c = places_begin c.args.program.now c.args.terms.now g.at.number g.at.routine g.at.arguments (supply_of c.args.supply.now) c.args.changed.now (map formal_of c.args.formals.now) c.args.given.now c.requires.0 c.requires.1.0 c.requires.1.1.1.0 c.requires.1.1.1.1

pub add_argument-requires-clause-types : goal.add_argument-requires-clause-types
add_argument-requires-clause-types g c = next_types c.args.program.now c.args.terms.now c.loop-place.terms (supply_of c.loop-place.supply) c.args.changed.now c.loop-place.changed (changed_by_places c.args.program.now g.at.routine.formals g.at.arguments (supply_of c.args.supply.now)) _ _ _ _ (subst (λ (fs : List FormalText). PlacesSoFar c.args.program.now c.args.terms.now c.loop-place.terms (supply_of c.loop-place.supply) c.args.changed.now c.loop-place.changed (changed_by_places c.args.program.now g.at.routine.formals g.at.arguments (supply_of c.args.supply.now)) (map formal_of fs) (c.index-given-place.result ∷ drop (c.loop-place.place + 1) c.args.given.now)) (drop_more c.args.formals.now c.loop-place.place (record { name = record { 0 = 0 }; of = record { 0 = 0 }; by_place = false; line = 0 }) c.loop-place-test.true)
    (subst (λ (t : ArgumentText). PlacesSoFar c.args.program.now c.args.terms.now c.loop-place.terms (supply_of c.loop-place.supply) c.args.changed.now c.loop-place.changed (changed_by_places c.args.program.now g.at.routine.formals g.at.arguments (supply_of c.args.supply.now)) (map formal_of (drop c.loop-place.place c.args.formals.now)) (t ∷ drop (c.loop-place.place + 1) c.args.given.now)) (sym c.index-given-place.is)
    (subst (λ (ts : List ArgumentText). PlacesSoFar c.args.program.now c.args.terms.now c.loop-place.terms (supply_of c.loop-place.supply) c.args.changed.now c.loop-place.changed (changed_by_places c.args.program.now g.at.routine.formals g.at.arguments (supply_of c.args.supply.now)) (map formal_of (drop c.loop-place.place c.args.formals.now)) ts) (drop_more c.args.given.now c.loop-place.place c.index-given-place.result (let below = c.loop-place-test.true in let long = c.requires.1.1.0 in omega (arith, below, long))) c.loop-place.invariant)))

pub add_argument-requires-clause-given : goal.add_argument-requires-clause-given
add_argument-requires-clause-given g c = next_given c.args.program.now c.args.terms.now c.loop-place.terms (supply_of c.loop-place.supply) c.args.changed.now c.loop-place.changed (changed_by_places c.args.program.now g.at.routine.formals g.at.arguments (supply_of c.args.supply.now)) _ _ _ _ (subst (λ (fs : List FormalText). PlacesSoFar c.args.program.now c.args.terms.now c.loop-place.terms (supply_of c.loop-place.supply) c.args.changed.now c.loop-place.changed (changed_by_places c.args.program.now g.at.routine.formals g.at.arguments (supply_of c.args.supply.now)) (map formal_of fs) (c.index-given-place.result ∷ drop (c.loop-place.place + 1) c.args.given.now)) (drop_more c.args.formals.now c.loop-place.place (record { name = record { 0 = 0 }; of = record { 0 = 0 }; by_place = false; line = 0 }) c.loop-place-test.true)
    (subst (λ (t : ArgumentText). PlacesSoFar c.args.program.now c.args.terms.now c.loop-place.terms (supply_of c.loop-place.supply) c.args.changed.now c.loop-place.changed (changed_by_places c.args.program.now g.at.routine.formals g.at.arguments (supply_of c.args.supply.now)) (map formal_of (drop c.loop-place.place c.args.formals.now)) (t ∷ drop (c.loop-place.place + 1) c.args.given.now)) (sym c.index-given-place.is)
    (subst (λ (ts : List ArgumentText). PlacesSoFar c.args.program.now c.args.terms.now c.loop-place.terms (supply_of c.loop-place.supply) c.args.changed.now c.loop-place.changed (changed_by_places c.args.program.now g.at.routine.formals g.at.arguments (supply_of c.args.supply.now)) (map formal_of (drop c.loop-place.place c.args.formals.now)) ts) (drop_more c.args.given.now c.loop-place.place c.index-given-place.result (let below = c.loop-place-test.true in let long = c.requires.1.1.0 in omega (arith, below, long))) c.loop-place.invariant)))

pub add_argument-requires-clause-sorts : goal.add_argument-requires-clause-sorts
add_argument-requires-clause-sorts g c = next_sorts c.args.program.now c.args.terms.now c.loop-place.terms (supply_of c.loop-place.supply) c.args.changed.now c.loop-place.changed (changed_by_places c.args.program.now g.at.routine.formals g.at.arguments (supply_of c.args.supply.now)) _ _ _ _ (subst (λ (fs : List FormalText). PlacesSoFar c.args.program.now c.args.terms.now c.loop-place.terms (supply_of c.loop-place.supply) c.args.changed.now c.loop-place.changed (changed_by_places c.args.program.now g.at.routine.formals g.at.arguments (supply_of c.args.supply.now)) (map formal_of fs) (c.index-given-place.result ∷ drop (c.loop-place.place + 1) c.args.given.now)) (drop_more c.args.formals.now c.loop-place.place (record { name = record { 0 = 0 }; of = record { 0 = 0 }; by_place = false; line = 0 }) c.loop-place-test.true)
    (subst (λ (t : ArgumentText). PlacesSoFar c.args.program.now c.args.terms.now c.loop-place.terms (supply_of c.loop-place.supply) c.args.changed.now c.loop-place.changed (changed_by_places c.args.program.now g.at.routine.formals g.at.arguments (supply_of c.args.supply.now)) (map formal_of (drop c.loop-place.place c.args.formals.now)) (t ∷ drop (c.loop-place.place + 1) c.args.given.now)) (sym c.index-given-place.is)
    (subst (λ (ts : List ArgumentText). PlacesSoFar c.args.program.now c.args.terms.now c.loop-place.terms (supply_of c.loop-place.supply) c.args.changed.now c.loop-place.changed (changed_by_places c.args.program.now g.at.routine.formals g.at.arguments (supply_of c.args.supply.now)) (map formal_of (drop c.loop-place.place c.args.formals.now)) ts) (drop_more c.args.given.now c.loop-place.place c.index-given-place.result (let below = c.loop-place-test.true in let long = c.requires.1.1.0 in omega (arith, below, long))) c.loop-place.invariant)))

pub returns-in_err-add_argument : goal.returns-in_err-add_argument
returns-in_err-add_argument g c =
    place_stops c.args.program.now c.args.terms.now c.loop-place.terms (supply_of c.loop-place.supply) c.args.changed.now c.loop-place.changed (changed_by_places c.args.program.now g.at.routine.formals g.at.arguments (supply_of c.args.supply.now)) _ _ _ _ (subst (λ (fs : List FormalText). PlacesSoFar c.args.program.now c.args.terms.now c.loop-place.terms (supply_of c.loop-place.supply) c.args.changed.now c.loop-place.changed (changed_by_places c.args.program.now g.at.routine.formals g.at.arguments (supply_of c.args.supply.now)) (map formal_of fs) (c.index-given-place.result ∷ drop (c.loop-place.place + 1) c.args.given.now)) (drop_more c.args.formals.now c.loop-place.place (record { name = record { 0 = 0 }; of = record { 0 = 0 }; by_place = false; line = 0 }) c.loop-place-test.true)
    (subst (λ (t : ArgumentText). PlacesSoFar c.args.program.now c.args.terms.now c.loop-place.terms (supply_of c.loop-place.supply) c.args.changed.now c.loop-place.changed (changed_by_places c.args.program.now g.at.routine.formals g.at.arguments (supply_of c.args.supply.now)) (map formal_of (drop c.loop-place.place c.args.formals.now)) (t ∷ drop (c.loop-place.place + 1) c.args.given.now)) (sym c.index-given-place.is)
    (subst (λ (ts : List ArgumentText). PlacesSoFar c.args.program.now c.args.terms.now c.loop-place.terms (supply_of c.loop-place.supply) c.args.changed.now c.loop-place.changed (changed_by_places c.args.program.now g.at.routine.formals g.at.arguments (supply_of c.args.supply.now)) (map formal_of (drop c.loop-place.place c.args.formals.now)) ts) (drop_more c.args.given.now c.loop-place.place c.index-given-place.result (let below = c.loop-place-test.true in let long = c.requires.1.1.0 in omega (arith, below, long))) c.loop-place.invariant)))
    c.add_argument.new.terms (supply_of c.add_argument.new.supply) c.add_argument.new.changed c.from_residual.result c.in_err-add_argument.field-0.0 c.from_residual.ensures.1 c.in_err-add_argument.ensures

pub loop-place-preserved : goal.loop-place-preserved
loop-place-preserved g c =
    place_done c.args.program.now c.args.terms.now c.loop-place.terms (supply_of c.loop-place.supply) c.args.changed.now c.loop-place.changed (changed_by_places c.args.program.now g.at.routine.formals g.at.arguments (supply_of c.args.supply.now)) _ _ _ _ (subst (λ (fs : List FormalText). PlacesSoFar c.args.program.now c.args.terms.now c.loop-place.terms (supply_of c.loop-place.supply) c.args.changed.now c.loop-place.changed (changed_by_places c.args.program.now g.at.routine.formals g.at.arguments (supply_of c.args.supply.now)) (map formal_of fs) (c.index-given-place.result ∷ drop (c.loop-place.place + 1) c.args.given.now)) (drop_more c.args.formals.now c.loop-place.place (record { name = record { 0 = 0 }; of = record { 0 = 0 }; by_place = false; line = 0 }) c.loop-place-test.true)
    (subst (λ (t : ArgumentText). PlacesSoFar c.args.program.now c.args.terms.now c.loop-place.terms (supply_of c.loop-place.supply) c.args.changed.now c.loop-place.changed (changed_by_places c.args.program.now g.at.routine.formals g.at.arguments (supply_of c.args.supply.now)) (map formal_of (drop c.loop-place.place c.args.formals.now)) (t ∷ drop (c.loop-place.place + 1) c.args.given.now)) (sym c.index-given-place.is)
    (subst (λ (ts : List ArgumentText). PlacesSoFar c.args.program.now c.args.terms.now c.loop-place.terms (supply_of c.loop-place.supply) c.args.changed.now c.loop-place.changed (changed_by_places c.args.program.now g.at.routine.formals g.at.arguments (supply_of c.args.supply.now)) (map formal_of (drop c.loop-place.place c.args.formals.now)) ts) (drop_more c.args.given.now c.loop-place.place c.index-given-place.result (let below = c.loop-place-test.true in let long = c.requires.1.1.0 in omega (arith, below, long))) c.loop-place.invariant)))
    c.add_argument.new.terms (supply_of c.add_argument.new.supply) c.add_argument.new.changed c.in_ok-add_argument.ensures

pub returns : goal.returns
returns g c =
    places_end c.args.program.now c.args.terms.now c.loop-place.terms (supply_of c.loop-place.supply) c.args.changed.now c.loop-place.changed (changed_by_places c.args.program.now g.at.routine.formals g.at.arguments (supply_of c.args.supply.now)) _ _ (ap (map formal_of) (drop_all c.loop-place.place c.args.formals.now c.loop-place-test.false)) c.loop-place.invariant
