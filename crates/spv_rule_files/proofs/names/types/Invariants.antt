use Rattle.spv_rule_files.specs.Outcomes.{fold}
use Rattle.spv_rule_files.specs.Scopes as spec
use Rattle.spv_rule_files.proofs.Loops.{FoldFrom}
use Rattle.spv_rule_files.proofs.names.types.Given as goal

abbrev pub invariant-loop-one : goal.invariant-loop-one
invariant-loop-one l = FoldFrom spec.type_if_free l.all l.one-index l.known (fold spec.type_if_free l.initial.known l.all)
