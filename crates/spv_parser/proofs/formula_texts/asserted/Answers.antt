use Rattle.spv_parser.proofs.FormulaTexts.{left_behind, stopped}
use Rattle.spv_parser.proofs.formula_texts.asserted.Goals as goal

pub returns-in-Ok-clause-absent : goal.returns-in-Ok-clause-absent
returns-in-Ok-clause-absent c s h =
    left_behind c.args.levels c.args.tokens.now c.surplus.result s c.in-Some.ensures.there c.in-Ok.ensures.read c.in-Ok.len_at_least c.surplus.ensures (c.before_last.ensures s h)

pub returns-in-Err-clause-absent : goal.returns-in-Err-clause-absent
returns-in-Err-clause-absent c s h = stopped c.args.levels c.args.tokens.now c.in-Err.fault s c.in-Some.ensures.there c.in-Err.ensures.absent (c.before_last-in-Err.ensures s h)
