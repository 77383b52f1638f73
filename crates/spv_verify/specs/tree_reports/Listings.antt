-- What a listing says that is handed in, and what it is refused for where its bytes are none.
use Rattle.std.specs.Prelude.{◌≡◌, ⊤, ℕ, ◌≤◌, ◌<◌, List, length, Option, Some, None, IsTrue}
use Rattle.spv_listing_values.specs.declared.data.Claim.{Claim}
use Rattle.spv_listing_values.specs.declared.fault.ListFault.{ListFault}
use Rattle.spv_listing_values.specs.declared.fault.ListFault.TheVariants.{TooLong, Form, Memory as NoMemory}
use Rattle.spv_listing_values.specs.Written.{Written}
use Rattle.spv_listing_values.specs.Forms.{is_listing}
use Rattle.spv_listing_values.specs.Page.{page}
use Rattle.spv_verify.specs.declared.refused.refusal.Refusal.{Refusal}
use Rattle.spv_verify.specs.declared.refused.fault.TextFault.{TextFault}
use Rattle.spv_verify.specs.declared.refused.fault.TextFault.TheVariants.{Refused, Memory}
use Rattle.spv_verify.specs.refused.Told.{listing_refusal}

-- these bytes are the page of this listing
pub record IsListingOf (bytes : List ℕ) (entries : List (Claim Written)) : Type 0 where
  pub formed : IsTrue (is_listing entries)
  pub printed : page entries ≡ bytes
  pub short : length bytes ≤ 67108864

-- without a listing nothing is said
abbrev pub IsListed : Option (List ℕ) → Option (List (Claim Written)) → Type 0
IsListed None listing = listing ≡ None
IsListed (Some bytes) None = ⊥
IsListed (Some bytes) (Some entries) = IsListingOf bytes entries

-- the bytes are too many, or those of no listing
abbrev pub IsListFault : List ℕ → ListFault → Type 0
IsListFault bytes TooLong = 67108864 < length bytes
IsListFault bytes (Form line) = (length bytes ≤ 67108864) × ((entries : List (Claim Written)) → IsTrue (is_listing entries) → page entries ≡ bytes → ⊥)
IsListFault bytes NoMemory = ⊤

-- ---- refusals

-- the bytes are refused so
pub record IsBytesRefusal (bytes : List ℕ) (r : Refusal) : Type 0 where
  pub fault : ListFault
  pub stops : IsListFault bytes fault
  pub told : listing_refusal fault ≡ Some r

abbrev pub IsListingRefusal : Option (List ℕ) → Refusal → Type 0
IsListingRefusal None r = ⊥
IsListingRefusal (Some bytes) r = IsBytesRefusal bytes r

-- ---- what code answers: the refusal, or want of memory, which has no cause

abbrev pub IsBytesCause : List ℕ → TextFault → Type 0
IsBytesCause bytes (Refused r) = IsBytesRefusal bytes r
IsBytesCause bytes Memory = ⊤

abbrev pub IsListingCause : Option (List ℕ) → TextFault → Type 0
IsListingCause listing (Refused r) = IsListingRefusal listing r
IsListingCause listing Memory = ⊤
