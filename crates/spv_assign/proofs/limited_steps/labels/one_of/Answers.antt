use Rattle.spv_logic.specs.declared.operators.Head.TheVariants as head
use Rattle.spv_logic.specs.declared.types.Sort.TheVariants as sort
use Rattle.spv_term.specs.Arena.{tree}
use Rattle.spv_program.specs.Terms.{binary, numeral}
use Rattle.spv_assign.proofs.limited_steps.Limits.{same_stop, sort_from}
use Rattle.spv_assign.proofs.limited_steps.Joining.{one_term, one_walk, one_t, one_t_sort, stops_at_first}
use Rattle.spv_assign.proofs.limited_steps.labels.one_of.Goals as goal

pub returns-in_err-test-clause-walk : goal.returns-in_err-test-clause-walk
returns-in_err-test-clause-walk c =
    same_stop c.from_residual.result c.in_err-test.field-0.0 _ _ _ c.from_residual.ensures.1
    (stops_at_first (tree c.args.terms.now c.args.t) (binary head.Eq (tree c.args.terms.now c.args.t) (numeral c.args.first.now)) c.args.others.now c.in_err-test.field-0.0 c.args.terms.now
    c.over_numeral.new.terms c.in_err-test.ensures.walk)

pub or_numbers-requires-clause-t : goal.or_numbers-requires-clause-t
or_numbers-requires-clause-t c =
    one_t c.args.terms.now c.over_numeral.new.terms c.args.t c.in_ok-test.test _ c.args.others.now c.in_ok-test.ensures.grows c.requires.t c.in_ok-test.ensures.term

pub or_numbers-requires-clause-sort : goal.or_numbers-requires-clause-sort
or_numbers-requires-clause-sort c =
    one_t_sort c.args.terms.now c.over_numeral.new.terms c.args.t c.in_ok-test.test _ c.args.others.now c.in_ok-test.ensures.grows c.requires.t c.in_ok-test.ensures.term c.requires.sort

pub or_numbers-requires-clause-test_sort : goal.or_numbers-requires-clause-test_sort
or_numbers-requires-clause-test_sort c = sort_from sort.Bool _ c.in_ok-test.ensures.sort

pub returns-clause-term : goal.returns-clause-term
returns-clause-term c =
    one_term c.args.terms.now c.over_numeral.new.terms c.args.t c.in_ok-test.test _ c.args.others.now c.in_ok-test.ensures.grows c.requires.t c.in_ok-test.ensures.term c.or_numbers.result
    c.or_numbers.new.terms c.or_numbers.ensures.term

pub returns-clause-walk : goal.returns-clause-walk
returns-clause-walk c =
    one_walk c.args.terms.now c.over_numeral.new.terms c.args.t c.in_ok-test.test _ c.args.others.now c.in_ok-test.ensures.grows c.requires.t c.in_ok-test.ensures.term c.or_numbers.result
    c.or_numbers.new.terms c.in_ok-test.ensures.walk c.or_numbers.ensures.walk
