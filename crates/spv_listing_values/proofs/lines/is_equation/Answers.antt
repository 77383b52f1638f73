use Rattle.std.proofs.Common.{◌∙◌, ap}
use Rattle.std.specs.Str.{bytes_eq}
use Rattle.spv_listing_values.proofs.Heads.{alone_equation, applied_equation}
use Rattle.spv_listing_values.proofs.lines.is_equation.Goals as goal

pub returns-in-Alone : goal.returns-in-Alone
returns-in-Alone c = alone_equation c.args.texts.now c.law_texts.ensures c.args.t c.requires c.in-Alone.field-0.now c.in-Alone.ensures

pub returns-in-Applied : goal.returns-in-Applied
returns-in-Applied c =
    applied_equation c.args.texts.now c.law_texts.ensures c.args.t c.requires c.in-Applied.word.now _ _ c.in-Applied.ensures
    (c.eq.ensures ∙ ap (bytes_eq c.in-Applied.word.now) c.as_slice.ensures)
