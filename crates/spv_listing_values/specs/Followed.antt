-- What a reader of lines holds, and what it has read so far.
use Rattle.std.specs.Prelude.{◌≡◌, List, [], All, map}
use Rattle.spv_listing_values.specs.declared.data.Claim.{Claim}
use Rattle.spv_listing_values.specs.declared.texts.Text.{Text}
use Rattle.spv_listing_values.specs.declared.reading.Reader.{Reader}
use Rattle.spv_listing_values.specs.Written.{Written}
use Rattle.spv_listing_values.specs.Reading.{Reading}
use Rattle.spv_listing_values.specs.Mapped.{claim_terms}
use Rattle.spv_listing_values.specs.Places.{Flat, tree, flats_of}
use Rattle.spv_listing_values.specs.Waiting.{AreIn, ClaimIn}
use Rattle.spv_listing_values.specs.Entries.{written_claim}
use Rattle.spv_listing_values.specs.Interned.{flats_at}
use Rattle.spv_listing_values.specs.Told.{IsReady}
use Rattle.spv_listing_values.specs.Kept.{state, terms_of, HasBegun}

-- a condition over its terms: each once and in the order of first appearance
pub record IsRead (fs : List Flat) (c : Claim Text) : Type 0 where
  pub in_range : ClaimIn fs c
  pub terms : fs ≡ flats_of (claim_terms (written_claim fs c))

-- the conditions before the last one
abbrev pub done_of : Reader → List (Claim Written)
done_of r = map (λ e. written_claim e.texts e.claim) r.read.items

abbrev pub reading_of : Reader → Reading
reading_of r = state (tree (flats_at r.table)) (done_of r) r.current

-- the terms are those of the last condition so far, each once and in the order of first appearance
pub record IsReading (r : Reader) : Type 0 where
  pub ready : IsReady r.table
  pub in_range : AreIn (flats_at r.table) (terms_of r.current)
  pub terms : flats_at r.table ≡ flats_of (map (tree (flats_at r.table)) (terms_of r.current))
  pub begun : HasBegun r.current (done_of r)
  pub read : All (λ e. IsRead e.texts e.claim) r.read.items

-- this was read so far
pub record Reads (r : Reader) (s : Reading) : Type 0 where
  pub reading : IsReading r
  pub is : reading_of r ≡ s

-- these conditions were read, and no other has begun
pub record HasEnded (r : Reader) (cs : List (Claim Written)) : Type 0 where
  pub ready : IsReady r.table
  pub empty : flats_at r.table ≡ []
  pub done : done_of r ≡ cs
  pub read : All (λ e. IsRead e.texts e.claim) r.read.items
