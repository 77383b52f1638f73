-- What was chosen is a step.
use Rattle.std.proofs.Common.{◌≡◌, ℕ, zero, suc, ◌<◌, Bool, ◌&&◌, ◌||◌, not, List, length, refl, sym, ap, ◌∙◌, subst, arith}
use mathlib.Core.Path.{ap₂}
use Rattle.spv_frac.specs.rational.Rational.{Rational, is_zero}
use Rattle.spv_tableau_rules.specs.declared.tableaux.side.Side.{Side}
use Rattle.spv_tableau_rules.specs.declared.tableaux.side.Side.TheVariants.{Lower, Upper}
use Rattle.spv_tableau_rules.specs.tableaux.Rows.{Rows, columns, Point}
use Rattle.spv_tableau_rules.specs.tableaux.Bounds.{Limits, breaks_limit, has_room}
use Rattle.spv_tableau_rules.specs.tableaux.Solved.{Places, is_basic, Entries, point}
use Rattle.spv_tableau_rules.specs.tableaux.Steps.{none_to, is_least, may_leave, may_enter, way, IsStep}
use Rattle.spv_dictionary.specs.declared.spot.Spot.TheVariants as spot
use Rattle.spv_dictionary.specs.Dictionary as form
use Rattle.spv_dictionary.specs.Dictionary.{Dictionary, IsDictionary, IsSpot, spot_of, basic_at, outside_at, entry_between, entries, place_of, with_solved}
use Rattle.spv_dictionary.specs.updates.Shifts.{value_in, entry_in}
use Rattle.spv_dictionary.specs.declared.pivoting.choosing.Chosen.{Chosen}
use Rattle.spv_dictionary.specs.declared.pivoting.entering.Entry.{Entry}
use Rattle.spv_dictionary.specs.pivoting.Finding.{IsChosen}
use Rattle.spv_simplex.specs.pivot_runs.Along.{IsAt, MakesStep}

-- ---- tests that agree

pub none_same : (n : ℕ) (f g : ℕ → Bool) → ((c : ℕ) → c < n → f c ≡ g c) → none_to n f ≡ none_to n g
none_same zero f g h = refl
none_same (suc n) f g h = ap₂ (λ (x y : Bool). x && not y) (none_same n f g (λ c k. h c (omega arith))) (h n (omega arith))

least_same : (n : ℕ) (f g : ℕ → Bool) (c : ℕ) → c < n → ((x : ℕ) → x < n → f x ≡ g x) → is_least f c ≡ is_least g c
least_same n f g c below h = ap₂ (λ (x y : Bool). x && y) (h c below) (none_same c f g (λ x k. h x (less x c n k below)))
  where
    less : (x c n : ℕ) → x < c → c < n → x < n
    less x c n h k = omega arith

pub leave_same : (limits : Limits) (p q : Places) (v w : Point) (c : ℕ) → is_basic (p c) ≡ is_basic (q c) → v c ≡ w c → may_leave limits p v c ≡ may_leave limits q w c
leave_same limits p q v w c hb hv = ap₂ (λ (b : Bool) (x : Rational). b && (breaks_limit Lower (limits c Lower) x || breaks_limit Upper (limits c Upper) x)) hb hv

pub enter_same : (limits : Limits) (p q : Places) (v w : Point) (t : Entries) (l : ℕ) (side : Side) (c : ℕ) → is_basic (p c) ≡ is_basic (q c) → v c ≡ w c
    → may_enter limits p v t l side c ≡ may_enter limits q w t l side c
enter_same limits p q v w t l side c hb hv =
    ap₂ (λ (b : Bool) (x : Rational). not b && (not (is_zero (t l c)) && has_room (way side (t l c)) (limits c (way side (t l c))) x)) hb hv

module _ (rows : Rows) (limits : Limits) (held : Point) (places : Places) (d : Dictionary) (values : List Rational) (chosen : Chosen) (entry : Entry)
    (here : IsAt rows limits held places d values) (known : IsDictionary d) (found : IsChosen limits d (value_in values) chosen entry) where
  abbrev row : ℕ
  row = chosen.row

  abbrev slot : ℕ
  slot = entry.slot

  abbrev leaving : ℕ
  leaving = chosen.column

  abbrev entering : ℕ
  entering = entry.column

  abbrev side : Side
  side = chosen.side

  abbrev bound : Rational
  bound = chosen.bound

  abbrev v : Point
  v = point rows limits held places (entries d)

  abbrev t : Entries
  t = entries d

  -- where the two columns are
  pub row_spot : IsSpot d leaving (spot.Row row)
  row_spot = subst (IsSpot d leaving) found.leaves.can.row_is (known.columns leaving found.leaves.can.inside)

  pub slot_spot : IsSpot d entering (spot.Slot slot)
  slot_spot = subst (IsSpot d entering) found.enters.can.spot (known.columns entering found.enters.can.inside)

  in_columns : (c : ℕ) → c < length d.spots → c < columns rows
  in_columns c h = subst (λ (n : ℕ). c < n) here.spots h

  in_spots : (c : ℕ) → c < columns rows → c < length d.spots
  in_spots c h = subst (λ (n : ℕ). c < n) (sym here.spots) h

  pub leaving_in : leaving < columns rows
  leaving_in = in_columns leaving found.leaves.can.inside

  pub entering_in : entering < columns rows
  entering_in = in_columns entering found.enters.can.inside

  pub is_step : IsStep rows limits places v t leaving side entering
  is_step = record {
    leaving_in = leaving_in;
    leaves = sym (least_same (columns rows) (may_leave limits (form.places d) (value_in values)) (may_leave limits places v) leaving leaving_in
        (λ c h. leave_same limits (form.places d) places (value_in values) v c (here.basis c h) (here.point_is c h))) ∙ found.leaves.least;
    breaks = ap (breaks_limit side (limits leaving side)) (sym (here.point_is leaving leaving_in)) ∙ ap (λ o. breaks_limit side o (value_in values leaving)) found.leaves.can.bound_is
        ∙ found.leaves.can.breaks;
    entering_in = entering_in;
    enters = sym (ap (λ l. is_least (may_enter limits (form.places d) (value_in values) t l side) entering) row_spot.1
        ∙ least_same (columns rows) (may_enter limits (form.places d) (value_in values) t leaving side) (may_enter limits places v t leaving side) entering entering_in
        (λ c h. enter_same limits (form.places d) places (value_in values) v t leaving side c (here.basis c h) (here.point_is c h))) ∙ found.enters.least;
  }

  pub pivot_entry : t leaving entering ≡ entry_in d row slot
  pivot_entry = ap₂ (entry_between d) found.leaves.can.row_is found.enters.can.spot

pub makes_step : MakesStep
makes_step rows limits held places d values chosen entry here known found = is_step rows limits held places d values chosen entry here known found
