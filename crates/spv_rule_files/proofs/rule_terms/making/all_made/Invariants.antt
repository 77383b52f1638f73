use Rattle.spv_rule_files.proofs.rule_terms.Made.{RulesSoFar}
use Rattle.spv_rule_files.proofs.rule_terms.making.all_made.Given as goal

abbrev pub invariant-loop-rule : goal.invariant-loop-rule
invariant-loop-rule l = RulesSoFar l.initial.terms l.terms l.list l.rule-index l.made.items
