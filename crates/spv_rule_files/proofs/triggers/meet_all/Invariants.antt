use Rattle.spv_rule_files.specs.Outcomes.{fold}
use Rattle.spv_rule_files.specs.Triggers as spec
use Rattle.spv_rule_files.proofs.Loops.{FoldFrom}
use Rattle.spv_rule_files.proofs.triggers.meet_all.Given as goal

abbrev pub invariant-loop-x : goal.invariant-loop-x
invariant-loop-x l = FoldFrom (spec.met l.vars) l.names l.x-index l.done (fold (spec.met l.vars) l.initial.done l.names)
