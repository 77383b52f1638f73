-- The items of a line behind its first one.
use Rattle.std.specs.Prelude.{ℕ, zero, suc, List, [], ◌∷◌, Option, Some, None}
use Rattle.std.specs.List.{flat_map}
use Rattle.spv_listing_values.specs.declared.data.Split.{Split}
use Rattle.spv_listing_values.specs.Written.{Written, written_bytes, line_bytes}

abbrev pub blank_item : Written → List ℕ
blank_item t = 32 ∷ written_bytes t

-- items, each behind a blank
abbrev pub blanks : List Written → List ℕ
blanks ts = flat_map blank_item ts

-- lines, one behind the other
abbrev pub lines_bytes : List (List Written) → List ℕ
lines_bytes ls = flat_map line_bytes ls

-- ---- cases of splits

-- the numbers from this one down to 1
abbrev pub numbers_down : ℕ → List ℕ
numbers_down zero = []
numbers_down (suc n) = suc n ∷ numbers_down n

-- how many cases a split has
abbrev pub case_count : {T : Type 0} → Option (Split T) → ℕ
case_count None = 0
case_count (Some s) = s.cases
