use Rattle.spv_listing_values.proofs.Inverse.{page_again}
use Rattle.spv_listing_values.proofs.laws.law_listing.Goals as goal

pub returns : goal.returns
returns c cs h = page_again cs h
