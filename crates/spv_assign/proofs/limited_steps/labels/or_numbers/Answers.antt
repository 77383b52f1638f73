use Rattle.std.proofs.Common.{subst}
use Rattle.std.proofs.lemmas.List.{drop_more, drop_all}
use Rattle.spv_term.proofs.ArenaLemmas.{Extends-trans}
use Rattle.spv_assign.proofs.limited_steps.Joining.{JoinedSoFar, joined_first, joined_next, joined_stops, joined_term, joined_walk, joined_t, joined_t_sort}
use Rattle.spv_assign.proofs.limited_steps.Limits.{same_stop}
use Rattle.spv_assign.proofs.limited_steps.labels.or_numbers.Goals as goal

pub loop-z-init : goal.loop-z-init
loop-z-init c = joined_first c.args.terms.now c.args.t c.args.test c.args.numbers.now c.requires.t c.requires.test c.requires.test_sort

pub or_number-requires-clause-t : goal.or_number-requires-clause-t
or_number-requires-clause-t c = joined_t c.args.terms.now c.loop-z.terms c.args.t c.loop-z.all _ _ c.requires.t c.loop-z.invariant

pub or_number-requires-clause-sort : goal.or_number-requires-clause-sort
or_number-requires-clause-sort c = joined_t_sort c.args.terms.now c.loop-z.terms c.args.t c.loop-z.all _ _ c.requires.t c.requires.sort c.loop-z.invariant

pub or_number-requires-clause-test : goal.or_number-requires-clause-test
or_number-requires-clause-test c = c.loop-z.invariant.there

pub or_number-requires-clause-test_sort : goal.or_number-requires-clause-test_sort
or_number-requires-clause-test_sort c = c.loop-z.invariant.is_sort

pub returns-in_err-all-clause-grows : goal.returns-in_err-all-clause-grows
returns-in_err-all-clause-grows c = Extends-trans c.loop-z.invariant.grows c.in_err-all.ensures.grows

pub returns-in_err-all-clause-walk : goal.returns-in_err-all-clause-walk
returns-in_err-all-clause-walk c =
    same_stop c.from_residual.result c.in_err-all.field-0.0 _ _ _ c.from_residual.ensures.1
    (joined_stops c.args.terms.now c.loop-z.terms c.or_number.new.terms c.args.t c.loop-z.all _ _ _ c.requires.t
    (subst (JoinedSoFar c.args.terms.now c.loop-z.terms c.args.t c.loop-z.all _) (drop_more c.args.numbers.now c.loop-z.z-index _ c.loop-z-test.true) c.loop-z.invariant)
    c.in_err-all.field-0.0 c.in_err-all.ensures.walk)

pub loop-z-preserved : goal.loop-z-preserved
loop-z-preserved c =
    joined_next c.args.terms.now c.loop-z.terms c.or_number.new.terms c.args.t c.loop-z.all _ _ _ c.requires.t
    (subst (JoinedSoFar c.args.terms.now c.loop-z.terms c.args.t c.loop-z.all _) (drop_more c.args.numbers.now c.loop-z.z-index _ c.loop-z-test.true) c.loop-z.invariant)
    c.in_ok-all.all c.in_ok-all.ensures.term c.in_ok-all.ensures.sort c.in_ok-all.ensures.grows c.in_ok-all.ensures.walk

pub returns-clause-term : goal.returns-clause-term
returns-clause-term c =
    joined_term c.args.terms.now c.loop-z.terms c.args.t c.loop-z.all _
    (subst (JoinedSoFar c.args.terms.now c.loop-z.terms c.args.t c.loop-z.all _) (drop_all c.loop-z.z-index c.args.numbers.now c.loop-z-test.false) c.loop-z.invariant)

pub returns-clause-sort : goal.returns-clause-sort
returns-clause-sort c = c.loop-z.invariant.is_sort

pub returns-clause-grows : goal.returns-clause-grows
returns-clause-grows c = c.loop-z.invariant.grows

pub returns-clause-walk : goal.returns-clause-walk
returns-clause-walk c =
    joined_walk c.args.terms.now c.loop-z.terms c.args.t c.loop-z.all _
    (subst (JoinedSoFar c.args.terms.now c.loop-z.terms c.args.t c.loop-z.all _) (drop_all c.loop-z.z-index c.args.numbers.now c.loop-z-test.false) c.loop-z.invariant)
