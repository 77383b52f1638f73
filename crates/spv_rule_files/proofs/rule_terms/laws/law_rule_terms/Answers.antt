use Rattle.spv_rule_files.proofs.rule_terms.Soundness.{rules_are_sound}
use Rattle.spv_rule_files.proofs.rule_terms.laws.law_rule_terms.Goals as goal

pub returns : goal.returns
returns c = rules_are_sound
