use Rattle.std.proofs.Common.{◌≡◌, ◌++◌, map, take}
use Rattle.spv_listing_values.specs.Lines.{instance_line}
use Rattle.spv_listing_values.specs.Blanks.{lines_bytes}
use Rattle.spv_listing_values.specs.Mapped.{instance_at}
use Rattle.spv_listing_values.specs.Places.{tree}
use Rattle.spv_listing_values.proofs.verdicts.push_instances.Given as goal

abbrev pub invariant-loop-instance : goal.invariant-loop-instance
invariant-loop-instance l = l.out.items ≡ l.initial.out.items ++ lines_bytes (map instance_line (map (instance_at (tree l.texts)) (take l.instance-index l.instances)))
