use Rattle.spv_proof.proofs.schema_facts.Divided.{numeral_there}
use Rattle.spv_proof.proofs.schema_facts.divisions.numeral.Goals as goal

pub returns-clause-there : goal.returns-clause-there
returns-clause-there c = numeral_there c.args.terms.now c.law_arena.ensures c.args.t c.requires c.numeral.result c.numeral.ensures
