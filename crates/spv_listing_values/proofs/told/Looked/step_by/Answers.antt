use Rattle.spv_listing_values.specs.Mapped.{step_at, step_terms}
use Rattle.spv_listing_values.specs.Interned.{flats_at}
use Rattle.spv_listing_values.proofs.Telling.{says_plain}
use Rattle.spv_listing_values.proofs.told.Looked.step_by.Goals as goal

pub returns-in-Contra-clause-says : goal.returns-in-Contra-clause-says
returns-in-Contra-clause-says c = rw c.in-Contra.is (says_plain step_at step_terms (flats_at c.args.table.now) _ c.contra.result c.contra.ensures.step c.contra.ensures.no_terms)
