use Rattle.std.proofs.Common.{◌∙◌}
use Rattle.spv_listing_values.proofs.Letters.{word_some}
use Rattle.spv_listing_values.proofs.spelling.is_word.Goals as goal

pub returns-in-len1-up : goal.returns-in-len1-up
returns-in-len1-up c = c.are_word_bytes.ensures ∙ word_some c.args.text.now c.in-len1-up.len_at_least
