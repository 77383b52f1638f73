-- Which column leaves the basis, and which one enters.
use Rattle.std.specs.Prelude.{◌≡◌, ℕ, ◌+◌, ◌-◌, ◌<◌, Bool, true, false, ◌&&◌, not, List, length, Option, Some, None, nat_lt, slice_get, if◌then◌else◌}
use Rattle.std.specs.List.{list_all}
use Rattle.spv_frac.specs.rational.Rational.{Rational}
use Rattle.spv_frac.specs.declared.frac.Op.TheVariants.{Cmp}
use Rattle.spv_tableau_rules.specs.declared.tableaux.side.Side.{Side}
use Rattle.spv_tableau_rules.specs.declared.tableaux.side.Side.TheVariants.{Lower, Upper}
use Rattle.spv_tableau_rules.specs.tableaux.Rows.{Point}
use Rattle.spv_tableau_rules.specs.tableaux.Bounds.{Bound, Limits, limit_from, breaks, breaks_limit}
use Rattle.spv_tableau_rules.specs.tableaux.Solved.{is_basic}
use Rattle.spv_tableau_rules.specs.tableaux.Steps.{is_least, may_leave, may_enter}
use Rattle.spv_tableau_rules.specs.tableaux.Operations.{Operation, operation}
use Rattle.spv_dictionary.specs.declared.spot.Spot.TheVariants as spot
use Rattle.spv_dictionary.specs.Dictionary.{Dictionary, spot_of, basic_at, outside_at, entries, places}
use Rattle.spv_dictionary.specs.declared.pivoting.choosing.Chosen.{Chosen}
use Rattle.spv_dictionary.specs.declared.pivoting.entering.Entry.{Entry}

-- the limits that bounds on rows are, behind so many parts
abbrev pub limits_of : ℕ → List Bound → Limits
limits_of width bounds c side = limit_from (nat_lt c width) bounds (c - width) side

-- ---- bounds one by one

-- a bound that the column of its row breaks
abbrev pub is_broken : ℕ → Point → Bound → Bool
is_broken width v b = breaks b.side b.value (v (width + b.row))

-- none of them is broken
abbrev pub are_met : ℕ → Point → List Bound → Bool
are_met width v bounds = list_all (λ b. not (is_broken width v b)) bounds

-- a value is compared with one of its two bounds
pub data IsComparing (lower upper : Option Rational) (value : Rational) : Operation → Type 0 where
  with_lower : (bound : Rational) → lower ≡ Some bound → IsComparing lower upper value (operation Cmp value bound)
  with_upper : (bound : Rational) → upper ≡ Some bound → IsComparing lower upper value (operation Cmp value bound)

-- the side of its bounds that a value breaks
abbrev pub broken_side : Option Rational → Option Rational → Rational → Option Side
broken_side lower upper value = if breaks_limit Lower lower value then Some Lower else if breaks_limit Upper upper value then Some Upper else None

abbrev pub out_side : Limits → Point → ℕ → Option Side
out_side limits v c = broken_side (limits c Lower) (limits c Upper) (v c)

-- what is so of the bound at a place
abbrev pub IsBoundAt : List Bound → ℕ → (Bound → Type 0) → Type 0
IsBoundAt bounds place P = (b : Bound) → slice_get bounds place ≡ Some b → P b

-- ---- the column that leaves

-- a column in the basis, its row, and the bound that it breaks
pub record CanLeave (limits : Limits) (d : Dictionary) (v : Point) (l : Chosen) : Type 0 where
  pub inside : l.column < length d.spots
  pub row_is : spot_of d l.column ≡ spot.Row l.row
  pub bound_is : limits l.column l.side ≡ Some l.bound
  pub breaks : breaks l.side l.bound (v l.column) ≡ true

-- the least of them
pub record IsLeaving (limits : Limits) (d : Dictionary) (v : Point) (l : Chosen) : Type 0 where
  pub can : CanLeave limits d v l
  pub least : is_least (may_leave limits (places d) v) l.column ≡ true

-- a column was found that is at most this one
abbrev pub leaves_by : Option Chosen → ℕ → Bool
leaves_by None c = false
leaves_by (Some l) c = not (nat_lt c l.column)

-- a bound that is broken by its row's column, which is in the basis
abbrev pub is_broken_inside : Dictionary → Point → Bound → Bool
is_broken_inside d v b = is_basic (places d (length d.outside + b.row)) && is_broken (length d.outside) v b

-- what is found among the first n bounds
pub record LeavesFirst (limits : Limits) (d : Dictionary) (v : Point) (bounds : List Bound) (n : ℕ) (found : Option Chosen) : Type 0 where
  pub can : (l : Chosen) → found ≡ Some l → CanLeave limits d v l
  pub least : (k : ℕ) (b : Bound) → k < n → slice_get bounds k ≡ Some b → is_broken_inside d v b ≡ true → leaves_by found (length d.outside + b.row) ≡ true

-- what is found with one bound more
pub data LeavesNext (limits : Limits) (d : Dictionary) (v : Point) (b : Bound) (found next : Option Chosen) : Type 0 where
  keeps : next ≡ found → (is_broken_inside d v b ≡ true → leaves_by found (length d.outside + b.row) ≡ true) → LeavesNext limits d v b found next
  finds : (l : Chosen) → next ≡ Some l → CanLeave limits d v l → l.column ≡ length d.outside + b.row → leaves_by found (length d.outside + b.row) ≡ false → LeavesNext limits d v b found next

-- ---- the column that enters

-- a column that may enter for that of a row, and its slot
pub record CanEnter (limits : Limits) (d : Dictionary) (v : Point) (row : ℕ) (side : Side) (e : Entry) : Type 0 where
  pub inside : e.column < length d.spots
  pub spot : spot_of d e.column ≡ spot.Slot e.slot
  pub may : may_enter limits (places d) v (entries d) (basic_at d row) side e.column ≡ true

-- the least of them
pub record IsEntering (limits : Limits) (d : Dictionary) (v : Point) (row : ℕ) (side : Side) (e : Entry) : Type 0 where
  pub can : CanEnter limits d v row side e
  pub least : is_least (may_enter limits (places d) v (entries d) (basic_at d row) side) e.column ≡ true

abbrev pub enters_by : Option Entry → ℕ → Bool
enters_by None c = false
enters_by (Some e) c = not (nat_lt c e.column)

-- what is found among the first n slots
pub record EntersFirst (limits : Limits) (d : Dictionary) (v : Point) (row : ℕ) (side : Side) (n : ℕ) (found : Option Entry) : Type 0 where
  pub can : (e : Entry) → found ≡ Some e → CanEnter limits d v row side e
  pub least : (j : ℕ) → j < n → may_enter limits (places d) v (entries d) (basic_at d row) side (outside_at d j) ≡ true → enters_by found (outside_at d j) ≡ true

-- what is found with one slot more
pub data EntersNext (limits : Limits) (d : Dictionary) (v : Point) (row : ℕ) (side : Side) (slot : ℕ) (found next : Option Entry) : Type 0 where
  keeps : next ≡ found → (may_enter limits (places d) v (entries d) (basic_at d row) side (outside_at d slot) ≡ true → enters_by found (outside_at d slot) ≡ true)
      → EntersNext limits d v row side slot found next
  finds : (e : Entry) → next ≡ Some e → CanEnter limits d v row side e → e.column ≡ outside_at d slot → enters_by found (outside_at d slot) ≡ false
      → EntersNext limits d v row side slot found next

-- whether the column of a slot may enter
abbrev pub slot_may_enter : Limits → Dictionary → Point → ℕ → Side → ℕ → Bool
slot_may_enter limits d v row side slot = may_enter limits (places d) v (entries d) (basic_at d row) side (outside_at d slot)
