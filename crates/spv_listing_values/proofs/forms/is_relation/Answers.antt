use Rattle.spv_listing_values.proofs.Heads.{alone_relation, applied_relation}
use Rattle.spv_listing_values.proofs.forms.is_relation.Goals as goal

pub returns-in-Alone : goal.returns-in-Alone
returns-in-Alone c = alone_relation c.args.texts.now c.law_texts.ensures c.args.t c.requires c.in-Alone.field-0.now c.in-Alone.ensures

pub returns-in-Applied : goal.returns-in-Applied
returns-in-Applied c = applied_relation c.args.texts.now c.law_texts.ensures c.args.t c.requires c.in-Applied.word.now _ _ c.in-Applied.ensures c.is_among.ensures
