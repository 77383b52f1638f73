use Rattle.std.proofs.Common.{ℕ, List, ◌++◌, ap, ◌∙◌, codes}
use Rattle.spv_listing_values.specs.declared.data.Claim.{Claim}
use Rattle.spv_listing_values.specs.Written.{Written}
use Rattle.spv_listing_values.specs.Page.{claims_lines, end_lines}
use Rattle.spv_listing_values.specs.Blanks.{lines_bytes}
use Rattle.spv_listing_values.proofs.Numbered.{page_is}
use Rattle.spv_listing_values.proofs.listing.page.Goals as goal

pub returns : goal.returns
returns c =
    page_is c.args.listing.now c.extend_from_slice.new.self.items c.push_entries.new.out.items c.push_end.new.out.items
    (c.in_ok-extend_from_slice.ensures.items ∙ ap (λ (l : List ℕ). l ++ codes "SPV LISTING 1\n") c.new-out.ensures.items)
    (c.in_ok-push_entries.ensures
    ∙ ap (λ (cs : List (Claim Written)). c.extend_from_slice.new.self.items ++ lines_bytes (claims_lines 1 cs)) (c.as_slice.ensures.value ∙ c.listing.view_is))
    (c.in_ok-push_end.ensures ∙ ap (λ (cs : List (Claim Written)). c.push_entries.new.out.items ++ lines_bytes (end_lines cs)) (c.as_slice-2.ensures.value ∙ c.listing.view_is))
