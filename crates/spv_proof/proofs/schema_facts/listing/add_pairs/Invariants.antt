use Rattle.std.proofs.Common.{take, map, filter}
use Rattle.spv_proof.specs.schema_facts.Instances.{Adds, is_instance, pair}
use Rattle.spv_proof.proofs.schema_facts.listing.add_pairs.Given as goal

abbrev pub invariant-loop-link : goal.invariant-loop-link
invariant-loop-link l = Adds l.terms l.fn.found.items l.found.items (filter (is_instance l.terms) (map (pair l.terms l.kind l.first) (take l.link-index l.links)))
