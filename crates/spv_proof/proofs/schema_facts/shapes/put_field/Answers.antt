use Rattle.spv_proof.proofs.schema_facts.Looked.{one_field, no_field}
use Rattle.spv_proof.proofs.schema_facts.shapes.put_field.Goals as goal

pub returns-in-Put-clause-field : goal.returns-in-Put-clause-field
returns-in-Put-clause-field c = one_field c.args.terms.now c.law_arena.ensures c.args.t c.node.result.now c.node.ensures c.in-Put.field c.in-Put.is

pub returns-in_default : goal.returns-in_default
returns-in_default c = record { field = tt; missing = no_field c.args.terms.now c.law_arena.ensures c.args.t c.node.result.now c.node.ensures c.in_default.not-Put }
