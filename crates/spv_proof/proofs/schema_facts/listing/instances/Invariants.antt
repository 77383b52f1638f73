use Rattle.std.proofs.Common.{[], take, map, ◌-◌}
use Rattle.std.specs.List.{flat_map}
use Rattle.spv_schemas.specs.Instances.{instances_of}
use Rattle.spv_schemas.specs.Kinds.{kinds}
use Rattle.spv_term.specs.Arena.{tree}
use Rattle.spv_proof.specs.schema_facts.Instances.{Adds}
use Rattle.spv_proof.proofs.schema_facts.listing.instances.Given as goal

abbrev pub invariant-loop-number : goal.invariant-loop-number
invariant-loop-number l = Adds l.terms [] l.found.items (flat_map (instances_of l.terms.shapes l.terms.decls (map (tree l.terms) l.used)) (take (l.number - 1) kinds))
