use Rattle.spv_proof.proofs.schema_facts.Partnering.{nothing_else}
use Rattle.spv_proof.proofs.schema_facts.uses.Uses.partners.Goals as goal

pub returns-in_default : goal.returns-in_default
returns-in_default c = nothing_else c.args.terms.now c.args.self.now.ids.items c.args.subject c.args.first c.in_default.not-Array c.in_default.not-Class c.in_default.not-Division
