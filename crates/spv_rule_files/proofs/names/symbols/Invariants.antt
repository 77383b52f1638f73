use Rattle.spv_rule_files.specs.Outcomes.{fold}
use Rattle.spv_rule_files.specs.Scopes as spec
use Rattle.spv_rule_files.proofs.Loops.{FoldFrom}
use Rattle.spv_rule_files.proofs.names.symbols.Given as goal

abbrev pub invariant-loop-one : goal.invariant-loop-one
invariant-loop-one l = FoldFrom spec.symbol_if_free l.all l.one-index l.known (fold spec.symbol_if_free l.initial.known l.all)
