-- A fault of a listing, and what is told of it, are a cause.
use Rattle.std.proofs.Common.{◌≡◌, ◌↔◌, ℕ, ◌≤◌, ◌<◌, List, length, Result, Ok, Err, IfErr, IfOk, IsTrue, refl, arith}
use Rattle.spv_listing_values.specs.declared.data.Claim.{Claim}
use Rattle.spv_listing_values.specs.declared.fault.ListFault.{ListFault}
use Rattle.spv_listing_values.specs.declared.fault.ListFault.TheVariants as no_listing
use Rattle.spv_listing_values.specs.Written.{Written}
use Rattle.spv_listing_values.specs.Forms.{is_listing}
use Rattle.spv_listing_values.specs.Page.{page}
use Rattle.spv_verify.specs.declared.refused.fault.TextFault.{TextFault}
use Rattle.spv_verify.specs.declared.refused.fault.TextFault.TheVariants.{Refused, Memory}
use Rattle.spv_verify.specs.refused.Told.{Tells, listing_refusal}
use Rattle.spv_verify.specs.tree_reports.Listings.{IsBytesCause, IsListFault, IsListingOf}

pub bytes_cause : (bytes : List ℕ) (fault : ListFault) (v : TextFault) → IsListFault bytes fault → Tells (listing_refusal fault) v → IsBytesCause bytes v
bytes_cause bytes fault (Refused r) stops tells = record { fault = fault; stops = stops; told = tells }
bytes_cause bytes fault Memory stops tells = tt

-- ---- what reading promises

short : (n : ℕ) → (67108864 < n → ⊥) → n ≤ 67108864
short n h = grind (arith, h)

read_not_long : {A : Type 0} (r : Result A ListFault) (l : A) → r ≡ Ok l → r ≡ Err no_listing.TooLong → ⊥
read_not_long r l e k = cc

form_not_long : {A : Type 0} (r : Result A ListFault) (n : ℕ) → r ≡ Err (no_listing.Form n) → r ≡ Err no_listing.TooLong → ⊥
form_not_long r n e k = cc

module _ {A : Type 0} (of : A → List (Claim Written)) (bytes : List ℕ) where
  pub read_exactly : (r : Result A ListFault) → IfOk r (λ l. IsTrue (is_listing (of l)) × (page (of l) ≡ bytes)) → ((r ≡ Err no_listing.TooLong) ↔ (67108864 < length bytes)) → IfOk r (λ l. IsListingOf bytes (of l))
  read_exactly (Ok l) exact too_long = record { formed = exact.0; printed = exact.1; short = short (length bytes) (λ h. read_not_long (Ok l) l refl (too_long.1 h)) }
  read_exactly (Err fault) exact too_long = tt

  pub refused_rightly : (r : Result A ListFault) → ((r ≡ Err no_listing.TooLong) ↔ (67108864 < length bytes))
      → ((n : ℕ) (l : List (Claim Written)) → r ≡ Err (no_listing.Form n) → IsTrue (is_listing l) → page l ≡ bytes → ⊥) → IfErr r (IsListFault bytes)
  refused_rightly (Ok l) too_long form = tt
  refused_rightly (Err no_listing.TooLong) too_long form = too_long.0 refl
  refused_rightly (Err (no_listing.Form n)) too_long form = (short (length bytes) (λ h. form_not_long (Err (no_listing.Form n)) n refl (too_long.1 h)), λ l. form n l refl)
  refused_rightly (Err no_listing.Memory) too_long form = tt
