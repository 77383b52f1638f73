use Rattle.spv_program.specs.Calls.{starts_at_call}
use Rattle.spv_flow_parts.proofs.calls.Zipping.{formal_low, formal_past, start_here, starts_by_place, zip_begin, zip_end, zip_next, zip_stop}
use Rattle.spv_flow_parts.proofs.calls.at_call.add_starts.Goals as goal

pub loop-place-init : goal.loop-place-init
loop-place-init g c = zip_begin (starts_at_call g.at.program) (starts_by_place g.at.program) c.args.formals.now g.at.routine.formals g.at.arguments c.args.terms.now c.args.pairs.now.items c.requires.1.0

pub bounds-formals-place : goal.bounds-formals-place
bounds-formals-place g c =
    formal_low g.at.program c.args.terms.now g.at.number g.at.routine g.at.arguments c.requires.0 c.args.formals.now c.args.given.now c.loop-place.place c.requires.1.0 c.requires.1.1.1 c.loop-place-test.true

pub add_start-requires : goal.add_start-requires
add_start-requires g c =
    let low =
    formal_low g.at.program c.args.terms.now g.at.number g.at.routine g.at.arguments c.requires.0 c.args.formals.now c.args.given.now c.loop-place.place c.requires.1.0 c.requires.1.1.1 c.loop-place-test.true in
    let h = start_here g.at.program c.args.terms.now c.loop-place.terms g.at.number g.at.routine g.at.arguments c.requires.0 c.loop-place.invariant.walked.grows c.args.formals.now c.args.given.now c.index-given-place.result c.loop-place.place
    c.requires.1.0 c.requires.1.1.1 low c.loop-place-test.true c.index-given-place.is in
    (c.requires.1.1.0, (h.range, (h.given, h.sort)))

pub loop-place-preserved : goal.loop-place-preserved
loop-place-preserved g c =
    let low =
    formal_low g.at.program c.args.terms.now g.at.number g.at.routine g.at.arguments c.requires.0 c.args.formals.now c.args.given.now c.loop-place.place c.requires.1.0 c.requires.1.1.1 c.loop-place-test.true in
    let h = start_here g.at.program c.args.terms.now c.loop-place.terms g.at.number g.at.routine g.at.arguments c.requires.0 c.loop-place.invariant.walked.grows c.args.formals.now c.args.given.now c.index-given-place.result c.loop-place.place
    c.requires.1.0 c.requires.1.1.1 low c.loop-place-test.true c.index-given-place.is in
    zip_next (starts_at_call g.at.program) (starts_by_place g.at.program) c.args.formals.now g.at.routine.formals g.at.arguments c.args.terms.now c.loop-place.terms c.add_start.new.terms c.loop-place.place c.args.pairs.now.items
    c.loop-place.pairs.items low h.low c.loop-place.invariant _ h.same tt c.add_start.new.pairs.items c.in_ok-add_start.ensures

pub returns-in_err-add_start : goal.returns-in_err-add_start
returns-in_err-add_start g c =
    let low =
    formal_low g.at.program c.args.terms.now g.at.number g.at.routine g.at.arguments c.requires.0 c.args.formals.now c.args.given.now c.loop-place.place c.requires.1.0 c.requires.1.1.1 c.loop-place-test.true in
    let h = start_here g.at.program c.args.terms.now c.loop-place.terms g.at.number g.at.routine g.at.arguments c.requires.0 c.loop-place.invariant.walked.grows c.args.formals.now c.args.given.now c.index-given-place.result c.loop-place.place
    c.requires.1.0 c.requires.1.1.1 low c.loop-place-test.true c.index-given-place.is in
    zip_stop (starts_at_call g.at.program) (starts_by_place g.at.program) c.args.formals.now g.at.routine.formals g.at.arguments c.args.terms.now c.loop-place.terms c.add_start.new.terms c.loop-place.place c.args.pairs.now.items
    c.loop-place.pairs.items low h.low c.loop-place.invariant _ h.same c.from_residual.result c.in_err-add_start.field-0.0 c.add_start.new.pairs.items c.add_start.new.pairs.items c.from_residual.ensures.1 c.in_err-add_start.ensures

pub returns : goal.returns
returns g c =
    zip_end (starts_at_call g.at.program) (starts_by_place g.at.program) c.args.formals.now g.at.routine.formals g.at.arguments c.args.terms.now c.loop-place.terms c.loop-place.place c.args.pairs.now.items c.loop-place.pairs.items
    (formal_past g.at.program c.args.terms.now g.at.number g.at.routine g.at.arguments c.requires.0 c.args.formals.now c.args.given.now c.loop-place.place c.requires.1.0 c.requires.1.1.1 c.loop-place-test.false) c.loop-place.invariant tt
