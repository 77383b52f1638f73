use Rattle.spv_fact_search.proofs.Formulas.{enlarged-formulas-if}
use Rattle.spv_fact_search.proofs.enlarging.enlarge.Goals as goal

pub returns-in-Ok-clause-formulas : goal.returns-in-Ok-clause-formulas
returns-in-Ok-clause-formulas c = enlarged-formulas-if c.law_schema.ensures.formulas c.args.terms.now c.args.condition.now c.requires.formulas c.in-Ok.enlarged c.in-Ok.ensures.enlarged
