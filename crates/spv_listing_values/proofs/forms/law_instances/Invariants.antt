use Rattle.std.proofs.Common.{◌≡◌, true, map, take}
use Rattle.std.specs.List.{list_all}
use Rattle.spv_listing_values.specs.Forms as spec
use Rattle.spv_listing_values.specs.Mapped.{instance_at}
use Rattle.spv_listing_values.specs.Places.{tree}
use Rattle.spv_listing_values.proofs.forms.law_instances.Given as goal

abbrev pub invariant-loop-instance : goal.invariant-loop-instance
invariant-loop-instance l = list_all spec.is_instance (map (instance_at (tree l.texts)) (take l.instance-index l.instances)) ≡ true
