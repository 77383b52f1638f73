use Rattle.std.proofs.Common.{◌≡◌, drop}
use Rattle.std.specs.List.{list_any}
use Rattle.spv_logic.specs.Terms.{head_eq}
use Rattle.spv_rules.proofs.matching.patterns.is_variable.Given as goal

abbrev pub invariant-loop-variable : goal.invariant-loop-variable
invariant-loop-variable l = list_any (head_eq l.head) (drop l.variable-index l.variables) ≡ list_any (head_eq l.head) l.variables
