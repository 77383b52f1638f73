use Rattle.std.proofs.Common.{refl}
use Rattle.spv_logic.specs.declared.operators.Head.TheVariants as head
use Rattle.spv_logic.specs.declared.types.Sort.TheVariants as sort
use Rattle.spv_term.specs.Arena.{tree}
use Rattle.spv_program.specs.Terms.{binary, numeral}
use Rattle.spv_assign.proofs.limited_steps.Limits.{same_stop, stops_at_number, sorts_fit, sort_from, over_sorts, over_term, over_walk}
use Rattle.spv_assign.proofs.limited_steps.labels.or_number.Goals as goal

pub returns-in_err-next-clause-walk : goal.returns-in_err-next-clause-walk
returns-in_err-next-clause-walk c =
    same_stop c.from_residual.result c.in_err-next.field-0.0 _ _ _ c.from_residual.ensures.1
    (stops_at_number head.Or (tree c.args.terms.now c.args.test) (binary head.Eq (tree c.args.terms.now c.args.t) (numeral c.args.z.now)) c.in_err-next.field-0.0 c.args.terms.now c.over_numeral.new.terms
    c.in_err-next.ensures.walk)

pub binary-requires-clause-sorts : goal.binary-requires-clause-sorts
binary-requires-clause-sorts c =
    sorts_fit c.args.terms.now c.over_numeral.new.terms head.Or _ _ c.in_ok-next.ensures.grows
    (over_sorts c.args.terms.now c.over_numeral.new.terms head.Or c.args.test c.in_ok-next.next _ c.in_ok-next.ensures.grows c.requires.test c.in_ok-next.ensures.term sort.Bool sort.Bool
    c.requires.test_sort (sort_from sort.Bool _ c.in_ok-next.ensures.sort))
    refl

pub returns-clause-term : goal.returns-clause-term
returns-clause-term c =
    over_term c.args.terms.now c.over_numeral.new.terms head.Or c.args.test c.in_ok-next.next (binary head.Eq (tree c.args.terms.now c.args.t) (numeral c.args.z.now))
    c.in_ok-next.ensures.grows c.requires.test c.in_ok-next.ensures.term c.binary.result c.binary.new.terms c.binary.ensures.term

pub returns-clause-walk : goal.returns-clause-walk
returns-clause-walk c =
    over_walk c.args.terms.now c.over_numeral.new.terms head.Or c.args.test c.in_ok-next.next (binary head.Eq (tree c.args.terms.now c.args.t) (numeral c.args.z.now))
    c.in_ok-next.ensures.grows c.requires.test c.in_ok-next.ensures.term c.binary.result c.binary.new.terms c.in_ok-next.ensures.walk c.binary.ensures.walk
