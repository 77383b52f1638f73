use Rattle.std.proofs.Common.{arith}
use Rattle.spv_parser.proofs.FormulaTexts.{more_wrong, more_deep}
use Rattle.spv_parser.proofs.formula_texts.before_last.Goals as goal

pub returns-in-Some : goal.returns-in-Some
returns-in-Some c s e = more_wrong c.args.fault c.in-Syntax.left c.in-Some.left s c.in-Syntax.is (omega arith) e

pub returns-in-Some-checked_add : goal.returns-in-Some-checked_add
returns-in-Some-checked_add c s e = more_deep c.args.fault c.in-Deep.left c.in-Some-checked_add.left s c.in-Deep.is (omega arith) e
