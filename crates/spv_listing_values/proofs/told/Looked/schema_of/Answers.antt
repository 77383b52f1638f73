use Rattle.std.proofs.Common.{Some, IfOk, subst}
use Rattle.spv_listing_values.specs.declared.data.Step.{Step}
use Rattle.spv_listing_values.specs.Written.{Written}
use Rattle.spv_listing_values.specs.Mapped.{step_at, step_terms}
use Rattle.spv_listing_values.specs.Interned.{flats_at}
use Rattle.spv_listing_values.specs.Told.{term_in, Says}
use Rattle.spv_listing_values.proofs.Telling.{schema_four}
use Rattle.spv_listing_values.proofs.told.Looked.schema_of.Goals as goal

pub returns-in-len1-up-clause-says : goal.returns-in-len1-up-clause-says
returns-in-len1-up-clause-says c =
    subst (λ (s : Step Written). IfOk c.field.result (λ o. Says step_at step_terms (flats_at c.args.table.now) (flats_at c.field.new.table) (Some s) o))
    (schema_four (term_in c.args.self.now) c.args.kind c.args.items.now _ c.if-kind-ne4.false c.in-len1-up.len_at_least) c.field.ensures.says
