-- How many types before each place are the first of their kind.
use Rattle.std.specs.Prelude.{◌≡◌, ℕ, zero, suc, ◌+◌, ◌≤◌, ◌<◌, ◌^◌, Bool, List, [], ◌∷◌, ◌++◌, length, slice_index, if◌then◌else◌}
use Rattle.spv_typing.specs.Merging.{kinds_before}

-- so many numbers, from one on
abbrev pub counting : ℕ → ℕ → List ℕ
counting place zero = []
counting place (suc n) = place ∷ counting (suc place) n

-- so many types keep their numbers; for those behind, the first type that is the same
pub record Numbering : Type 0 where
  pub base : ℕ
  pub firsts : List ℕ

abbrev pub all_firsts : Numbering → List ℕ
all_firsts r = counting 0 r.base ++ r.firsts

pub record IsCounted (base : ℕ) (firsts before : List ℕ) : Type 0 where
  pub many : length before ≡ suc (length firsts)
  pub counted : (n : ℕ) → n ≤ length firsts → slice_index before n ≡ base + kinds_before n base firsts
  pub small : base + length firsts < 2 ^ 32

abbrev pub one_more_if : Bool → ℕ → ℕ
one_more_if b n = if b then suc n else n

abbrev pub alone_if : {X : Type 0} → Bool → X → List X
alone_if b x = if b then x ∷ [] else []
