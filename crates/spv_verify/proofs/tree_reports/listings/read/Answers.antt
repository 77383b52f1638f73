use Rattle.std.proofs.Common.{List}
use Rattle.spv_listing_values.specs.declared.data.Claim.{Claim}
use Rattle.spv_listing_values.specs.Written.{Written}
use Rattle.spv_verify.proofs.tree_reports.ListingCauses.{read_exactly, refused_rightly}
use Rattle.spv_verify.proofs.tree_reports.listings.read.Goals as goal

pub returns-clause-listing : goal.returns-clause-listing
returns-clause-listing c = read_exactly (λ (l : List (Claim Written)). l) c.args.bytes.now c.read_listing.result c.read_listing.ensures.exact c.read_listing.ensures.too_long

pub returns-clause-fault : goal.returns-clause-fault
returns-clause-fault c = refused_rightly (λ (l : List (Claim Written)). l) c.args.bytes.now c.read_listing.result c.read_listing.ensures.too_long c.read_listing.ensures.form
