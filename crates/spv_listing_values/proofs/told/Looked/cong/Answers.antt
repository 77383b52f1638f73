use Rattle.std.proofs.Common.{List, IfOk, subst}
use Rattle.spv_listing_values.specs.declared.scanning.Item.{Item}
use Rattle.spv_listing_values.specs.declared.keywords.StepWord.TheVariants as step_word
use Rattle.spv_listing_values.specs.Reading.{step_by}
use Rattle.spv_listing_values.specs.Mapped.{step_at, step_terms}
use Rattle.spv_listing_values.specs.Interned.{flats_at}
use Rattle.spv_listing_values.specs.Told.{terms_in, Says}
use Rattle.spv_listing_values.proofs.Telling.{first_two}
use Rattle.spv_listing_values.proofs.told.Looked.cong.Goals as goal

pub returns-in-len2-up-clause-says : goal.returns-in-len2-up-clause-says
returns-in-len2-up-clause-says c =
    subst (λ (is : List Item). IfOk c.cong_of.result (λ o. Says step_at step_terms (flats_at c.args.table.now) (flats_at c.cong_of.new.table) (step_by step_word.Cong (terms_in c.args.self.now is)) o))
    (first_two c.args.items.now _ _ c.in-len2-up.len_at_least) c.cong_of.ensures.says
