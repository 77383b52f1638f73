-- What is printed of a listing is read back.
use Rattle.std.proofs.Common.{◌≡◌, true, List, ap, ◌∙◌}
use Rattle.std.specs.List.{list_all}
use Rattle.std.specs.Prelude.{length}
use Rattle.spv_logic.proofs.list.Tests.{right_true}
use Rattle.spv_listing_values.specs.declared.data.Claim.{Claim}
use Rattle.spv_listing_values.specs.Written.{Written}
use Rattle.spv_listing_values.specs.Page.{page_lines, page}
use Rattle.spv_listing_values.specs.Reading.{with_lines, nothing, claims_in}
use Rattle.spv_listing_values.specs.Forms.{is_short, is_claim, is_listing}
use Rattle.spv_listing_values.proofs.Scans.{lines_read}
use Rattle.spv_listing_values.proofs.Claiming.{page_read}
use Rattle.spv_listing_values.proofs.Spelled.{page_are_lines}

-- the conditions that a listing's page tells are those of the listing
pub page_again : (cs : List (Claim Written)) → is_listing cs ≡ true → claims_in (page cs) ≡ cs
page_again cs h =
    ap (λ ls. (with_lines nothing ls).claims) (lines_read (page_lines cs) (page_are_lines cs h))
    ∙ page_read cs (right_true (is_short (length cs)) (list_all is_claim cs) h)
