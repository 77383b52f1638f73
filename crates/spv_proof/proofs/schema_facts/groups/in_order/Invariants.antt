use Rattle.std.proofs.Common.{◌≡◌, take}
use Rattle.std.specs.List.{flat_map}
use Rattle.spv_proof.specs.schema_facts.Groups.{linked}
use Rattle.spv_proof.proofs.schema_facts.groups.in_order.Given as goal

abbrev pub invariant-loop-t : goal.invariant-loop-t
invariant-loop-t l = l.links.items ≡ flat_map (λ t. linked l.groups t.0) (take l.t-index l.ts)
