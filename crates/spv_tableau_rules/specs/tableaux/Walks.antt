-- Walks: the steps of a check, from the basis and the values that it found, and what its answers mean.
use Rattle.std.specs.Prelude.{◌≡◌, ℕ, ◌<◌, false, List, [], ◌∷◌, ◌++◌, length, ◌⊎◌, Some, nat_eq, slice_get, if◌then◌else◌}
use Rattle.spv_frac.specs.rational.Rational.{Rational}
use Rattle.spv_tableau_rules.specs.declared.tableaux.side.Side.{Side}
use Rattle.spv_tableau_rules.specs.tableaux.Numbers.{nothing}
use Rattle.spv_tableau_rules.specs.tableaux.Rows.{Rows, column_of, Point}
use Rattle.spv_tableau_rules.specs.tableaux.Bounds.{Bound, Limits, limits}
use Rattle.spv_tableau_rules.specs.tableaux.Solved.{Places, is_basic, basis_of, Entries, IsSolved, point, exchanged}
use Rattle.spv_tableau_rules.specs.tableaux.Steps.{IsStep, inside}
use Rattle.spv_tableau_rules.specs.tableaux.Operations.{Operation, fits, IsFirst, IsNext}

-- a leaving column and the one that enters for it
pub record Exchange : Type 0 where
  pub leaving : ℕ
  pub entering : ℕ

-- what a check began with: the bounds that stood, the basis, and the values that the other columns held
pub record Start : Type 0 where
  pub bounds : List Bound
  pub basis : List ℕ
  pub held : List (ℕ × Rational)

-- the value that a column held, 0 where none is listed
abbrev pub held_at : List (ℕ × Rational) → ℕ → Rational
held_at [] c = nothing
held_at (h ∷ held) c = if nat_eq h.0 c then h.1 else held_at held c

-- steps that lead from one placed basis to another
pub data Walk (rows : Rows) (limits : Limits) (held : Point) : Places → List Exchange → Places → Type 0 where
  stays : (start : Places) → Walk rows limits held start [] start
  goes : (start : Places) (steps : List Exchange) (places : Places) (t : Entries) (leaving : ℕ) (side : Side) (entering : ℕ)
      → Walk rows limits held start steps places → IsSolved rows places t → IsStep rows limits places (point rows limits held places t) t leaving side entering
      → Walk rows limits held start (steps ++ record { leaving = leaving; entering = entering } ∷ []) (exchanged places leaving side entering)

-- some of the columns outside the basis have been moved into their bounds
abbrev pub AreMoved : Limits → Point → Places → Places → Type 0
AreMoved limits held start places = (c : ℕ) → (places c ≡ start c) ⊎ (places c ≡ inside limits held start c)

-- ---- answers

-- where a check stands: a placed basis, and the solved form of the basis
pub record Moment (rows : Rows) : Type 0 where
  pub places : Places
  pub entries : Entries
  pub solved : IsSolved rows places entries

abbrev pub point_at : (rows : Rows) → Start → Moment rows → Point
point_at rows s m = point rows (limits rows s.bounds) (held_at s.held) m.places m.entries

-- the steps of a check lead to this moment
abbrev pub LeadsTo : (rows : Rows) → Start → List Exchange → Moment rows → Type 0
LeadsTo rows s steps m =
    Walk rows (limits rows s.bounds) (held_at s.held) (inside (limits rows s.bounds) (held_at s.held) (basis_of s.basis)) steps m.places

-- after these steps a check met an operation that does not fit
pub data IsWide (rows : Rows) (s : Start) : List Exchange → Operation → Type 0 where
  moving : (m : Moment rows) (o : Operation) → AreMoved (limits rows s.bounds) (held_at s.held) (basis_of s.basis) m.places
      → IsFirst rows (limits rows s.bounds) m.places m.entries (point_at rows s m) o → fits o ≡ false → IsWide rows s [] o
  stepping : (steps : List Exchange) (m : Moment rows) (o : Operation) → LeadsTo rows s steps m
      → IsNext rows (limits rows s.bounds) m.places m.entries (point_at rows s m) o → fits o ≡ false → IsWide rows s steps o

-- a check made so many steps, and one more step would follow
pub record IsUnfinished (rows : Rows) (s : Start) (steps : List Exchange) (most : ℕ) : Type 0 where
  pub count : length steps ≡ most
  pub moment : Moment rows
  pub leads : LeadsTo rows s steps moment
  pub leaving : ℕ
  pub side : Side
  pub entering : ℕ
  pub step : IsStep rows (limits rows s.bounds) moment.places (point_at rows s moment) moment.entries leaving side entering

-- ---- what is held

-- a value that a bound of this row has
pub record IsBoundOf (asserted : List Bound) (i : ℕ) (value : Rational) : Type 0 where
  pub place : ℕ
  pub bound : Bound
  pub there : slice_get asserted place ≡ Some bound
  pub row : bound.row ≡ i
  pub same : bound.value ≡ value

-- outside the basis each part holds 0, and each row's column a bound that was asserted on its row
pub record HoldsBounds (rows : Rows) (asserted : List Bound) (places : Places) (held : Point) : Type 0 where
  pub parts : (c : ℕ) → c < rows.parts → is_basic (places c) ≡ false → held c ≡ nothing
  pub row_columns : (i : ℕ) → i < rows.count → is_basic (places (column_of rows i)) ≡ false → IsBoundOf asserted i (held (column_of rows i))
