use Rattle.spv_worked.proofs.rule_texts.Factorials.{factorials_hold}
use Rattle.spv_worked.proofs.rule_texts.law_factorial.Goals as goal

pub returns : goal.returns
returns c = factorials_hold
