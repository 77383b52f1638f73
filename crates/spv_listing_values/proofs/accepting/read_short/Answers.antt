use Rattle.std.proofs.Common.{◌∙◌, sym}
use Rattle.spv_listing_values.proofs.Accepts.{unfolded_none}
use Rattle.spv_listing_values.proofs.accepting.read_short.Goals as goal

pub returns-then-not-is_folded-clause-form : goal.returns-then-not-is_folded-clause-form
returns-then-not-is_folded-clause-form c n e = unfolded_none c.args.bytes.now (sym c.is_folded.ensures ∙ c.if-not-is_folded.true)
