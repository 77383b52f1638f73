use Rattle.spv_term.specs.Arena.{tree}
use Rattle.spv_program.specs.Terms.{numeral}
use Rattle.spv_assign.proofs.limited_steps.Limits.{same_stop, stops_at_number, sorts_fit, over_sorts, over_term, over_walk}
use Rattle.spv_assign.proofs.limited_steps.operators.over_numeral.Goals as goal

pub returns-in_err-number-clause-walk : goal.returns-in_err-number-clause-walk
returns-in_err-number-clause-walk c =
    same_stop c.from_residual.result c.in_err-number.field-0.0 _ _ _ c.from_residual.ensures.1
    (stops_at_number c.args.head (tree c.args.terms.now c.args.v) (numeral c.args.z.now) c.in_err-number.field-0.0 c.args.terms.now c.numeral.new.terms c.in_err-number.ensures.walk)

pub binary-requires-clause-sorts : goal.binary-requires-clause-sorts
binary-requires-clause-sorts c =
    sorts_fit c.args.terms.now c.numeral.new.terms c.args.head _ _ c.in_ok-number.ensures.grows
    (over_sorts c.args.terms.now c.numeral.new.terms c.args.head c.args.v c.in_ok-number.number _ c.in_ok-number.ensures.grows c.requires.v c.in_ok-number.ensures.term
    _ _ c.requires.sort c.in_ok-number.ensures.sort)
    c.requires.sorts

pub returns-clause-term : goal.returns-clause-term
returns-clause-term c =
    over_term c.args.terms.now c.numeral.new.terms c.args.head c.args.v c.in_ok-number.number (numeral c.args.z.now) c.in_ok-number.ensures.grows c.requires.v c.in_ok-number.ensures.term
    c.binary.result c.binary.new.terms c.binary.ensures.term

pub returns-clause-walk : goal.returns-clause-walk
returns-clause-walk c =
    over_walk c.args.terms.now c.numeral.new.terms c.args.head c.args.v c.in_ok-number.number (numeral c.args.z.now) c.in_ok-number.ensures.grows c.requires.v c.in_ok-number.ensures.term
    c.binary.result c.binary.new.terms c.in_ok-number.ensures.walk c.binary.ensures.walk
