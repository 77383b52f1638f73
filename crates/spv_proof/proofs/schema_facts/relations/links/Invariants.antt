use Rattle.std.proofs.Common.{take}
use Rattle.spv_proof.specs.schema_facts.Groups.{OnceEach}
use Rattle.spv_proof.specs.schema_facts.Relations.{TellsAll}
use Rattle.spv_proof.proofs.schema_facts.relations.links.Given as goal

abbrev pub invariant-loop-u : goal.invariant-loop-u
invariant-loop-u l = record { once : OnceEach l.links; all : TellsAll l.terms l.relation (take l.u-index l.used) l.links }
