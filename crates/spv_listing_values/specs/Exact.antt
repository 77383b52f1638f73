-- Which bytes are a listing, and which one.
use Rattle.std.specs.Prelude.{ℕ, ◌&&◌, List, Option, Some, None, if◌then◌else◌}
use Rattle.std.specs.Str.{bytes_eq}
use Rattle.spv_listing_values.specs.declared.data.Claim.{Claim}
use Rattle.spv_listing_values.specs.Written.{Written}
use Rattle.spv_listing_values.specs.Page.{page}
use Rattle.spv_listing_values.specs.Reading.{claims_in}
use Rattle.spv_listing_values.specs.Forms.{is_listing}

-- conditions that were read, where they are a listing and print as these bytes
abbrev pub printed_so : List ℕ → List (Claim Written) → Option (List (Claim Written))
printed_so bytes cs = if is_listing cs && bytes_eq (page cs) bytes then Some cs else None

-- the listing that has these bytes, where one has them
abbrev pub listing_in : List ℕ → Option (List (Claim Written))
listing_in bytes = printed_so bytes (claims_in bytes)
