use Rattle.spv_rule_files.proofs.rule_terms.Made.{VariablesSoFar}
use Rattle.spv_rule_files.proofs.rule_terms.making.variables.Given as goal

abbrev pub invariant-loop-place : goal.invariant-loop-place
invariant-loop-place l = VariablesSoFar l.initial.terms l.terms l.names l.place l.made.items
