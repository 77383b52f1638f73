-- Hashes in the order in which they were added, and the last place of one.
use Rattle.std.specs.Prelude.{◌≡◌, ℕ, zero, suc, ◌%◌, ◌<◌, Bool, List, length, Option, Some, None, nat_eq, slice_index_or, if◌then◌else◌}
use Rattle.spv_union_find.specs.declared.signatures.chains.Link.{Link}

-- what contracts see: the hashes, and for how many there is memory
pub record Hashes : Type 0 where
  pub hashes : List ℕ
  pub room : ℕ

-- the last place below a bound that meets a test
abbrev pub last_where : (ℕ → Bool) → ℕ → Option ℕ
last_where p zero = None
last_where p (suc n) = if p n then Some n else last_where p n

-- the last place below a bound with this hash
abbrev pub last_below : List ℕ → ℕ → ℕ → Option ℕ
last_below hashes h n = last_where (λ i. nat_eq (slice_index_or hashes i 0) h) n

-- ---- how they are kept

abbrev pub nothing : Link
nothing = record { hash = 0; previous = None }

abbrev pub link_at : List Link → ℕ → Link
link_at links i = slice_index_or links i nothing

abbrev pub has_hash : List Link → ℕ → ℕ → Bool
has_hash links h i = nat_eq (link_at links i).hash h

-- whether the link at a place falls into this one of so many buckets
abbrev pub in_bucket : List Link → ℕ → ℕ → ℕ → Bool
in_bucket links count b i = nat_eq ((link_at links i).hash % count) b

-- of so many links, the first ones, each names the one before it in its bucket, and each bucket names its last one
pub record AreLinked (links : List Link) (buckets : List (Option ℕ)) (n : ℕ) : Type 0 where
  pub each : (i : ℕ) → i < n → (link_at links i).previous ≡ last_where (in_bucket links (length buckets) ((link_at links i).hash % length buckets)) i
  pub ends : (b : ℕ) → b < length buckets → slice_index_or buckets b None ≡ last_where (in_bucket links (length buckets) b) n
