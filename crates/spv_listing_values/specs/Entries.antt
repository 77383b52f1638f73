-- What a listing keeps of a condition.
use Rattle.std.specs.Prelude.{◌≡◌, Bool, true, List, length, IsTrue}
use Rattle.std.specs.List.{list_all}
use Rattle.spv_listing_values.specs.declared.data.Claim.{Claim}
use Rattle.spv_listing_values.specs.declared.texts.Text.{Text}
use Rattle.spv_listing_values.specs.Written.{Written}
use Rattle.spv_listing_values.specs.Forms.{is_head, is_claim}
use Rattle.spv_listing_values.specs.Mapped.{claim_at, claim_terms}
use Rattle.spv_listing_values.specs.Places.{Flat, IsTable, tree, flats_of}
use Rattle.spv_listing_values.specs.Waiting.{ClaimIn}

-- a condition with its terms as trees
abbrev pub written_claim : List Flat → Claim Text → Claim Written
written_claim fs c = claim_at (tree fs) c

-- whether the head of a term may stand over its arguments
abbrev pub has_form : Flat → Bool
has_form f = is_head f.head (length f.args)

-- terms that all have their forms
pub record HaveForms (fs : List Flat) : Type 0 where
  pub table : IsTable fs
  pub heads : list_all has_form fs ≡ true

-- the terms are those of the lines, each once and in the order of first appearance, and the lines have the forms of a listing
pub record IsEntry (fs : List Flat) (c : Claim Text) : Type 0 where
  pub form : IsTrue (is_claim (written_claim fs c))
  pub in_range : ClaimIn fs c
  pub terms : fs ≡ flats_of (claim_terms (written_claim fs c))
