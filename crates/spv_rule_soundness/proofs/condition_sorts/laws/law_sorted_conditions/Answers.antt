use Rattle.spv_rule_soundness.proofs.condition_sorts.Statements.{all_sorted}
use Rattle.spv_rule_soundness.proofs.condition_sorts.laws.law_sorted_conditions.Goals as goal

pub returns : goal.returns
returns c = all_sorted
