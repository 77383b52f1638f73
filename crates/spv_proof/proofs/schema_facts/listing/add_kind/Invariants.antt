use Rattle.std.proofs.Common.{take, map}
use Rattle.std.specs.List.{flat_map}
use Rattle.spv_term.specs.Arena.{tree}
use Rattle.spv_proof.specs.schema_facts.Instances.{Adds, instances_at}
use Rattle.spv_proof.proofs.schema_facts.listing.add_kind.Given as goal

abbrev pub invariant-loop-first : goal.invariant-loop-first
invariant-loop-first l =
    Adds l.terms l.fn.found.items l.found.items (flat_map (λ t. instances_at l.terms (map (tree l.terms) l.uses.ids.items) l.kind (tree l.terms t)) (take l.first-index l.first-items))
