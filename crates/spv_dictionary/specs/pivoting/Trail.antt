-- The bounds that stand.
use Rattle.std.specs.Prelude.{◌≡◌, ℕ, ◌<◌, ◌≤◌, true, List, [], ◌∷◌, ◌++◌, take, length, Option, None, nat_lt, slice_index_or, slice_set, if◌then◌else◌}
use Rattle.std.specs.List.{list_all}
use Rattle.spv_frac.specs.rational.Rational.{Rational}
use Rattle.spv_tableau_rules.specs.declared.tableaux.side.Side.{Side}
use Rattle.spv_tableau_rules.specs.declared.tableaux.side.Side.TheVariants.{Lower, Upper}
use Rattle.spv_tableau_rules.specs.tableaux.Bounds.{Bound, same_side, bound_on, are_apart}

pub record Trail : Type 0 where
  -- there are so many rows, and room for so many bounds
  pub rows : ℕ
  pub most : ℕ
  -- in the order in which they came
  pub bounds : List Bound

abbrev pub bound_of : ℕ → Side → Rational → Bound
bound_of row side value = record { row = row; side = side; value = value }

abbrev pub more : Trail → Bound → Trail
more t b = record { rows = t.rows; most = t.most; bounds = t.bounds ++ b ∷ [] }

abbrev pub first_of : Trail → ℕ → Trail
first_of t n = record { rows = t.rows; most = t.most; bounds = take n t.bounds }

-- what is at hand for a side, with another value where that is the bound's side
abbrev pub written : Side → Side → List (Option Rational) → ℕ → Option Rational → List (Option Rational)
written here side values row value = if same_side side here then slice_set values row value else values

-- no two bounds on one side of a row, and for each row its bounds at hand
pub record IsTrail (t : Trail) (lower upper : List (Option Rational)) : Type 0 where
  pub in_range : list_all (λ b. nat_lt b.row t.rows) t.bounds ≡ true
  pub apart : are_apart t.bounds ≡ true
  pub few : length t.bounds ≤ t.most
  pub lower_count : length lower ≡ t.rows
  pub upper_count : length upper ≡ t.rows
  pub lower_is : (i : ℕ) → i < t.rows → slice_index_or lower i None ≡ bound_on t.bounds i Lower
  pub upper_is : (i : ℕ) → i < t.rows → slice_index_or upper i None ≡ bound_on t.bounds i Upper

-- what is true of every trail
pub record KeepsApart (t : Trail) : Type 0 where
  pub in_range : list_all (λ b. nat_lt b.row t.rows) t.bounds ≡ true
  pub apart : are_apart t.bounds ≡ true
  pub few : length t.bounds ≤ t.most

-- a bound on a side of a row may be pushed
pub record IsFree (t : Trail) (row : ℕ) (side : Side) : Type 0 where
  pub inside : row < t.rows
  pub room : length t.bounds < t.most
  pub free : bound_on t.bounds row side ≡ None
