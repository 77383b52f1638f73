use Rattle.std.proofs.Common.{◌∙◌}
use Rattle.std.specs.Str.{bytes_eq}
use Rattle.spv_listing_values.proofs.told.Looked.is_stroke.Goals as goal

pub returns : goal.returns
returns c = c.eq.ensures ∙ (λ i. bytes_eq (c.word.ensures i) (c.as_slice.ensures i))
