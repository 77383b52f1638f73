use Rattle.std.proofs.Common.{List, IfOk, sym, subst, ◌∙◌}
use Rattle.spv_listing_values.specs.declared.scanning.Item.{Item}
use Rattle.spv_listing_values.specs.declared.keywords.LimitWord.TheVariants as limit_word
use Rattle.spv_listing_values.specs.Reading.{limit_by}
use Rattle.spv_listing_values.specs.Mapped.{limit_at, limit_terms}
use Rattle.spv_listing_values.specs.Interned.{flats_at}
use Rattle.spv_listing_values.specs.Told.{term_in, terms_in, Says}
use Rattle.spv_listing_values.proofs.Telling.{says_plain, form_or_operation, two_there}
use Rattle.spv_listing_values.proofs.told.Looked.number.Goals as goal

pub returns-in-None-clause-says : goal.returns-in-None-clause-says
returns-in-None-clause-says c =
    says_plain limit_at limit_terms (flats_at c.args.table.now) (limit_by limit_word.Number (terms_in c.args.self.now c.args.items.now)) c.operation.result
    (λ f. c.operation.ensures.limit f ∙ sym (form_or_operation (term_in c.args.self.now) c.args.items.now c.in-None.ensures.pair)) c.operation.ensures.no_terms

pub returns-in-Some-clause-says : goal.returns-in-Some-clause-says
returns-in-Some-clause-says c =
    subst (λ (is : List Item). IfOk c.form.result (λ o. Says limit_at limit_terms (flats_at c.args.table.now) (flats_at c.form.new.table) (limit_by limit_word.Number (terms_in c.args.self.now is)) o))
    (two_there c.args.items.now _ _ c.in-Some.ensures.pair) c.form.ensures.says
