use Rattle.std.proofs.Common.{◌∙◌, sym}
use Rattle.spv_lexer.proofs.Gaps.{kinds-gap}
use Rattle.spv_lexer.proofs.laws.law_gap.Goals as goal

pub returns-clause-apart : goal.returns-clause-apart
returns-clause-apart c = kinds-gap

pub returns-clause-one_more : goal.returns-clause-one_more
returns-clause-one_more c = λ before between after is_read is_gap parted. kinds-gap before between after is_read is_gap ∙ sym parted
