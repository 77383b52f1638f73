-- Bounds on rows, and what it is to break one or to have room up to it.
use Rattle.std.specs.Prelude.{◌≡◌, ℕ, ◌-◌, Bool, true, false, ◌&&◌, ◌||◌, List, [], ◌∷◌, Option, Some, None, nat_lt, nat_eq, if◌then◌else◌}
use Rattle.std.specs.List.{list_all}
use Rattle.spv_frac.specs.rational.Rational.{Rational}
use Rattle.spv_tableau_rules.specs.declared.tableaux.side.Side.{Side}
use Rattle.spv_tableau_rules.specs.declared.tableaux.side.Side.TheVariants.{Lower, Upper}
use Rattle.spv_tableau_rules.specs.tableaux.Numbers.{nothing, is_less}
use Rattle.spv_tableau_rules.specs.tableaux.Rows.{Rows, Point}

-- a row is at least, or at most, this value
pub record Bound : Type 0 where
  pub row : ℕ
  pub side : Side
  pub value : Rational

abbrev pub same_side : Side → Side → Bool
same_side Lower Lower = true
same_side Upper Upper = true
same_side _ _ = false

abbrev pub other_side : Side → Side
other_side Lower = Upper
other_side Upper = Lower

-- the first bound on this side of a row
abbrev pub bound_on : List Bound → ℕ → Side → Option Rational
bound_on [] row side = None
bound_on (b ∷ bounds) row side = if nat_eq b.row row && same_side b.side side then Some b.value else bound_on bounds row side

abbrev pub is_none : Option Rational → Bool
is_none None = true
is_none (Some x) = false

-- no two bounds are on one side of one row
abbrev pub are_apart : List Bound → Bool
are_apart [] = true
are_apart (b ∷ bounds) = is_none (bound_on bounds b.row b.side) && are_apart bounds

-- bounds on these rows, at most one on each side, and the lower one at most the upper one
pub record AreBounds (rows : Rows) (bounds : List Bound) : Type 0 where
  pub in_range : list_all (λ b. nat_lt b.row rows.count) bounds ≡ true
  pub apart : are_apart bounds ≡ true
  pub ordered : (i : ℕ) (low high : Rational) → bound_on bounds i Lower ≡ Some low → bound_on bounds i Upper ≡ Some high → is_less high low ≡ false

-- ---- bounds on columns

-- what bounds each side of a column
abbrev pub Limits : Type 0
Limits = ℕ → Side → Option Rational

abbrev pub limit_from : Bool → List Bound → ℕ → Side → Option Rational
limit_from true bounds i side = None
limit_from false bounds i side = bound_on bounds i side

-- the limits that bounds on rows are; parts have none
abbrev pub limits : Rows → List Bound → Limits
limits rows bounds c side = limit_from (nat_lt c rows.parts) bounds (c - rows.parts) side

abbrev pub or_nothing : Option Rational → Rational
or_nothing None = nothing
or_nothing (Some x) = x

-- a value is on the wrong side of a bound
abbrev pub breaks : Side → Rational → Rational → Bool
breaks Lower bound value = is_less value bound
breaks Upper bound value = is_less bound value

abbrev pub breaks_limit : Side → Option Rational → Rational → Bool
breaks_limit side None value = false
breaks_limit side (Some bound) value = breaks side bound value

-- a value may go on towards a side: nothing bounds it there, or it is not there yet
abbrev pub has_room : Side → Option Rational → Rational → Bool
has_room side None value = true
has_room side (Some bound) value = breaks (other_side side) bound value

-- a value is out of its bounds
abbrev pub is_out : Limits → Point → ℕ → Bool
is_out limits v c = breaks_limit Lower (limits c Lower) (v c) || breaks_limit Upper (limits c Upper) (v c)

-- the point meets all bounds
abbrev pub Meets : Limits → Point → Type 0
Meets limits v = (c : ℕ) → is_out limits v c ≡ false
