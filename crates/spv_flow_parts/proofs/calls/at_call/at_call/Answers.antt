use Rattle.std.proofs.Common.{[], get_or, refl}
use Rattle.spv_term.specs.Arena.{tree}
use Rattle.spv_program.specs.Calls.{at_call}
use Rattle.spv_term.proofs.ArenaLemmas.{Extends-trans}
use Rattle.spv_assign.proofs.limited_steps.Limits.{same_stop}
use Rattle.spv_flow_parts.proofs.calls.Passing.{ArePresent-Extends}
use Rattle.spv_flow_parts.proofs.calls.Zipping.{IsAtCall-Extends, at_call_by_place, at_call_pair, formal_range, formal_sort, is_present, no_argument, no_formal, place_given, place_present, zip_begin_none, zip_end, zip_next, zip_stop_walk}
use Rattle.spv_flow_parts.proofs.calls.at_call.at_call.Goals as goal

pub loop-place-init : goal.loop-place-init
loop-place-init g c = zip_begin_none (at_call g.at.program) (at_call_by_place g.at.program) c.args.formals.now g.at.routine.formals g.at.arguments c.args.terms.now c.new-pairs.result.items c.requires.1.0 c.new-pairs.ensures.items

pub bounds-now-place : goal.bounds-now-place
bounds-now-place g c =
    place_present g.at.program c.args.terms.now c.requires.0.number g.at.routine g.at.arguments c.requires.0.at c.args.forms.now c.args.formals.now no_formal c.loop-place.place no_argument c.requires.1.0 c.requires.1.1.0 c.loop-place-test.true
    c.args.now.now c.requires.1.1.1

pub add_pair-requires-clause-types : goal.add_pair-requires-clause-types
add_pair-requires-clause-types g c =
    formal_range g.at.program c.loop-place.terms c.requires.0.number g.at.routine g.at.arguments
    (IsAtCall-Extends g.at.program c.args.terms.now c.requires.0.number g.at.routine g.at.arguments c.requires.0.at c.loop-place.terms c.loop-place.invariant.walked.grows)
    c.args.forms.now c.args.formals.now no_formal c.loop-place.place no_argument c.requires.1.0 c.requires.1.1.0 c.loop-place-test.true c.sort_of.result c.sort_of.ensures

pub add_pair-requires-clause-t : goal.add_pair-requires-clause-t
add_pair-requires-clause-t g c =
    (is_present g.at.program c.loop-place.terms c.requires.0.number g.at.routine g.at.arguments
    (IsAtCall-Extends g.at.program c.args.terms.now c.requires.0.number g.at.routine g.at.arguments c.requires.0.at c.loop-place.terms c.loop-place.invariant.walked.grows)
    c.args.forms.now c.args.formals.now no_formal c.loop-place.place no_argument c.requires.1.0 c.requires.1.1.0 c.loop-place-test.true c.args.now.now
    (ArePresent-Extends c.loop-place.invariant.walked.grows c.args.now.now g.at.arguments c.requires.1.1.1) (record { 0 = 0 })).there

pub add_pair-requires-clause-sort : goal.add_pair-requires-clause-sort
add_pair-requires-clause-sort g c =
    let at = IsAtCall-Extends g.at.program c.args.terms.now c.requires.0.number g.at.routine g.at.arguments c.requires.0.at c.loop-place.terms c.loop-place.invariant.walked.grows in
    let is = is_present g.at.program c.loop-place.terms c.requires.0.number g.at.routine g.at.arguments at c.args.forms.now c.args.formals.now no_formal c.loop-place.place no_argument c.requires.1.0 c.requires.1.1.0 c.loop-place-test.true c.args.now.now
    (ArePresent-Extends c.loop-place.invariant.walked.grows c.args.now.now g.at.arguments c.requires.1.1.1) (record { 0 = 0 }) in
    formal_sort g.at.program c.loop-place.terms c.requires.0.number g.at.routine g.at.arguments at c.args.forms.now c.args.formals.now no_formal c.loop-place.place no_argument c.requires.1.0 c.requires.1.1.0 c.loop-place-test.true
    c.sort_of.result c.sort_of.ensures (tree c.loop-place.terms (get_or c.args.now.now c.loop-place.place (record { 0 = 0 }))) is.is_tree

pub loop-place-preserved : goal.loop-place-preserved
loop-place-preserved g c =
    let at = IsAtCall-Extends g.at.program c.args.terms.now c.requires.0.number g.at.routine g.at.arguments c.requires.0.at c.loop-place.terms c.loop-place.invariant.walked.grows in
    let is = is_present g.at.program c.loop-place.terms c.requires.0.number g.at.routine g.at.arguments at c.args.forms.now c.args.formals.now no_formal c.loop-place.place no_argument c.requires.1.0 c.requires.1.1.0 c.loop-place-test.true c.args.now.now
    (ArePresent-Extends c.loop-place.invariant.walked.grows c.args.now.now g.at.arguments c.requires.1.1.1) (record { 0 = 0 }) in
    let given = place_given g.at.program c.loop-place.terms c.requires.0.number g.at.routine g.at.arguments at c.args.forms.now c.args.formals.now no_formal c.loop-place.place no_argument c.requires.1.0 c.requires.1.1.0 c.loop-place-test.true in
    zip_next (at_call g.at.program) (at_call_by_place g.at.program) c.args.formals.now g.at.routine.formals g.at.arguments c.args.terms.now c.loop-place.terms c.add_pair.new.terms c.loop-place.place [] c.loop-place.pairs.items
    c.loop-place-test.true given c.loop-place.invariant _
    (at_call_pair g.at.program (get_or c.args.formals.now c.loop-place.place no_formal) (get_or g.at.arguments c.loop-place.place no_argument) c.args.forms.now c.sort_of.result
    (tree c.loop-place.terms (get_or c.args.now.now c.loop-place.place (record { 0 = 0 }))) c.requires.1.1.0 c.sort_of.ensures is.is_tree)
    tt c.add_pair.new.pairs.items c.in_ok-add_pair.ensures

pub returns-in_err-add_pair-clause-grows : goal.returns-in_err-add_pair-clause-grows
returns-in_err-add_pair-clause-grows g c = Extends-trans c.loop-place.invariant.walked.grows c.in_err-add_pair.ensures.grows

pub returns-in_err-add_pair-clause-walk : goal.returns-in_err-add_pair-clause-walk
returns-in_err-add_pair-clause-walk g c =
    let at = IsAtCall-Extends g.at.program c.args.terms.now c.requires.0.number g.at.routine g.at.arguments c.requires.0.at c.loop-place.terms c.loop-place.invariant.walked.grows in
    let is = is_present g.at.program c.loop-place.terms c.requires.0.number g.at.routine g.at.arguments at c.args.forms.now c.args.formals.now no_formal c.loop-place.place no_argument c.requires.1.0 c.requires.1.1.0 c.loop-place-test.true c.args.now.now
    (ArePresent-Extends c.loop-place.invariant.walked.grows c.args.now.now g.at.arguments c.requires.1.1.1) (record { 0 = 0 }) in
    let given = place_given g.at.program c.loop-place.terms c.requires.0.number g.at.routine g.at.arguments at c.args.forms.now c.args.formals.now no_formal c.loop-place.place no_argument c.requires.1.0 c.requires.1.1.0 c.loop-place-test.true in
    same_stop c.from_residual.result c.in_err-add_pair.field-0.0 _ _ _ c.from_residual.ensures.1
    (zip_stop_walk (at_call g.at.program) (at_call_by_place g.at.program) c.args.formals.now g.at.routine.formals g.at.arguments c.args.terms.now c.loop-place.terms c.add_pair.new.terms c.loop-place.place [] c.loop-place.pairs.items
    c.loop-place-test.true given c.loop-place.invariant _
    (at_call_pair g.at.program (get_or c.args.formals.now c.loop-place.place no_formal) (get_or g.at.arguments c.loop-place.place no_argument) c.args.forms.now c.sort_of.result
    (tree c.loop-place.terms (get_or c.args.now.now c.loop-place.place (record { 0 = 0 }))) c.requires.1.1.0 c.sort_of.ensures is.is_tree)
    c.in_err-add_pair.field-0.0 c.in_err-add_pair.ensures.walk)

pub returns-clause-grows : goal.returns-clause-grows
returns-clause-grows g c = c.loop-place.invariant.walked.grows

pub returns-clause-walk : goal.returns-clause-walk
returns-clause-walk g c =
    (zip_end (at_call g.at.program) (at_call_by_place g.at.program) c.args.formals.now g.at.routine.formals g.at.arguments c.args.terms.now c.loop-place.terms c.loop-place.place [] c.loop-place.pairs.items c.loop-place-test.false
    c.loop-place.invariant tt).walk

pub returns-clause-pairs : goal.returns-clause-pairs
returns-clause-pairs g c =
    ((zip_end (at_call g.at.program) (at_call_by_place g.at.program) c.args.formals.now g.at.routine.formals g.at.arguments c.args.terms.now c.loop-place.terms c.loop-place.place [] c.loop-place.pairs.items c.loop-place-test.false
    c.loop-place.invariant tt).pairs [] refl tt).0

pub returns-clause-fit : goal.returns-clause-fit
returns-clause-fit g c =
    ((zip_end (at_call g.at.program) (at_call_by_place g.at.program) c.args.formals.now g.at.routine.formals g.at.arguments c.args.terms.now c.loop-place.terms c.loop-place.place [] c.loop-place.pairs.items c.loop-place-test.false
    c.loop-place.invariant tt).pairs [] refl tt).1
