use Rattle.std.proofs.Common.{◌≡◌, drop}
use Rattle.std.specs.List.{list_any}
use Rattle.spv_rules.specs.matching.Views.{instance_eq}
use Rattle.spv_rules.proofs.matching.instances.is_there.Given as goal

abbrev pub invariant-loop-other : goal.invariant-loop-other
invariant-loop-other l = list_any (instance_eq l.one) (drop l.other-index l.found) ≡ list_any (instance_eq l.one) l.found
