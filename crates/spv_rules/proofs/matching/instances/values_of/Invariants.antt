use Rattle.std.proofs.Common.{◌≡◌, drop}
use Rattle.spv_rules.specs.matching.Views.{ids_of}
use Rattle.spv_rules.proofs.matching.Adding.{in_front}
use Rattle.spv_rules.proofs.matching.instances.values_of.Given as goal

abbrev pub invariant-loop-variable : goal.invariant-loop-variable
invariant-loop-variable l = in_front l.values.items (ids_of l.bound (drop l.variable-index l.variables)) ≡ ids_of l.bound l.variables
