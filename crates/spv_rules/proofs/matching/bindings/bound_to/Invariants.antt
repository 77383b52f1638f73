use Rattle.std.proofs.Common.{◌≡◌, drop}
use Rattle.spv_rules.specs.matching.Views.{bound_id}
use Rattle.spv_rules.proofs.matching.bindings.bound_to.Given as goal

abbrev pub invariant-loop-one : goal.invariant-loop-one
invariant-loop-one l = bound_id (drop l.one-index l.bound) l.variable ≡ bound_id l.bound l.variable
