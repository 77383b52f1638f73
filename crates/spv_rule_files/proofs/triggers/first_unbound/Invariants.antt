use Rattle.std.proofs.Common.{◌≡◌, drop}
use Rattle.spv_rule_files.specs.Triggers as spec
use Rattle.spv_rule_files.proofs.triggers.first_unbound.Given as goal

abbrev pub invariant-loop-x : goal.invariant-loop-x
invariant-loop-x l = spec.first_unbound l.bound (drop l.x-index l.names) ≡ spec.first_unbound l.bound l.names
