use Rattle.std.proofs.Common.{[]}
use Rattle.spv_environments.specs.Scopes.{scope_of}
use Rattle.spv_rule_files.specs.Outcomes.{each_rule}
use Rattle.spv_rule_files.specs.Rules as spec
use Rattle.spv_rule_files.proofs.Loops.{EachRuleFrom}
use Rattle.spv_rule_files.proofs.reading.all_rules.Given as goal

abbrev pub invariant-loop-tree : goal.invariant-loop-tree
invariant-loop-tree l =
    EachRuleFrom (spec.one_more (scope_of l.forms.annotations.scope) l.vars) l.trees l.tree-index l.rules
    (each_rule (spec.one_more (scope_of l.forms.annotations.scope) l.vars) [] l.trees)
