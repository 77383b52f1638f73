use Rattle.std.proofs.Common.{ap}
use Rattle.std.specs.Prelude.{Err}
use Rattle.std.proofs.lemmas.Option.{slice_get-get_or}
use Rattle.spv_term.specs.declared.nodes.TermFault.TheVariants.{Size}
use Rattle.spv_search_terms.proofs.split_candidates.EquationLemmas.{same_fault}
use Rattle.spv_search_terms.proofs.split_candidates.PairLemmas.{pairing_starts, pairing_stops, pairing_next, pairing_smaller, first_in, second_in, flag_here, next_in}
use Rattle.spv_search_terms.proofs.split_candidates.pairs.equate_with_later.Goals as goal

pub loop-later-init : goal.loop-later-init
loop-later-init c =
    pairing_starts c.args.terms.now c.args.found.now c.requires.found c.args.place c.requires.place c.args.next.now c.requires.next c.args.out.now _ c.requires.out
    (slice_get-get_or c.args.next.now c.args.place 0 (next_in c.args.terms.now c.args.found.now c.requires.found c.args.place c.requires.place c.args.next.now c.args.place c.requires.next c.requires.place))

pub equate_if_comparable-requires-clause-s : goal.equate_if_comparable-requires-clause-s
equate_if_comparable-requires-clause-s c = first_in c.args.terms.now c.args.found.now c.requires.found c.args.place c.requires.place c.args.next.now c.requires.next c.args.out.now c.loop-later.terms c.loop-later.out c.loop-later.later c.loop-later.invariant c.loop-later-test.true

pub equate_if_comparable-requires-clause-t : goal.equate_if_comparable-requires-clause-t
equate_if_comparable-requires-clause-t c = second_in c.args.terms.now c.args.found.now c.requires.found c.args.place c.requires.place c.args.next.now c.requires.next c.args.out.now c.loop-later.terms c.loop-later.out c.loop-later.later c.loop-later.invariant c.loop-later-test.true

pub equate_if_comparable-requires-clause-s_listed : goal.equate_if_comparable-requires-clause-s_listed
equate_if_comparable-requires-clause-s_listed c =
    flag_here c.args.terms.now c.args.found.now c.requires.found c.args.place c.requires.place c.loop-later.terms c.loop-later.invariant.remains.remains.grows c.args.listed.now c.requires.listed c.args.place c.requires.place

pub equate_if_comparable-requires-clause-t_listed : goal.equate_if_comparable-requires-clause-t_listed
equate_if_comparable-requires-clause-t_listed c =
    flag_here c.args.terms.now c.args.found.now c.requires.found c.args.place c.requires.place c.loop-later.terms c.loop-later.invariant.remains.remains.grows c.args.listed.now c.requires.listed c.loop-later.later c.loop-later-test.true

pub returns-in_err-equate_if_comparable-clause-size : goal.returns-in_err-equate_if_comparable-clause-size
returns-in_err-equate_if_comparable-clause-size c =
    λ is.
    pairing_stops c.args.terms.now c.args.found.now c.requires.found c.args.place c.requires.place c.args.next.now c.requires.next c.args.out.now c.loop-later.terms c.loop-later.out c.loop-later.later c.loop-later.invariant c.loop-later-test.true
    (c.in_err-equate_if_comparable.ensures.size (ap Err (same_fault c.in_err-equate_if_comparable.field-0.0 c.from_residual.result c.from_residual.ensures.1 Size is)))

pub loop-later-smaller : goal.loop-later-smaller
loop-later-smaller c =
    pairing_smaller c.args.terms.now c.args.found.now c.requires.found c.args.place c.requires.place c.args.next.now c.requires.next c.args.out.now c.loop-later.terms c.loop-later.out c.loop-later.later c.loop-later.invariant c.loop-later-test.true _
    (slice_get-get_or c.args.next.now c.loop-later.later 0 (next_in c.args.terms.now c.args.found.now c.requires.found c.args.place c.requires.place c.args.next.now c.loop-later.later c.requires.next c.loop-later-test.true))

pub loop-later-preserved : goal.loop-later-preserved
loop-later-preserved c =
    pairing_next c.args.terms.now c.args.found.now c.requires.found c.args.place c.requires.place c.args.next.now c.requires.next c.args.out.now c.loop-later.terms c.loop-later.out c.loop-later.later c.loop-later.invariant c.loop-later-test.true c.equate_if_comparable.new.terms c.equate_if_comparable.new.out _
    (slice_get-get_or c.args.next.now c.loop-later.later 0 (next_in c.args.terms.now c.args.found.now c.requires.found c.args.place c.requires.place c.args.next.now c.loop-later.later c.requires.next c.loop-later-test.true)) c.in_ok-equate_if_comparable.ensures.gains
