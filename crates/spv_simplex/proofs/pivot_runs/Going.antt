-- A step that was made leads to the solved form and the point after it.
use Rattle.std.proofs.Common.{◌≡◌, ℕ, ◌<◌, Bool, true, false, List, length, Some, nat_eq, refl, sym, ap, ◌∙◌, subst, if◌then◌else◌}
use Rattle.std.proofs.lemmas.Bool.{false≢true}
use Rattle.std.proofs.lemmas.List.{length-set}
use mathlib.Core.Path.{ap₂}
use Rattle.spv_frac.specs.rational.Rational.{Rational, plus, times, is_zero}
use Rattle.spv_tableau_rules.specs.declared.tableaux.side.Side.{Side}
use Rattle.spv_tableau_rules.specs.tableaux.Numbers.{minus, divided}
use Rattle.spv_tableau_rules.specs.tableaux.Rows.{Rows, columns, Point}
use Rattle.spv_tableau_rules.specs.tableaux.Bounds.{Limits}
use Rattle.spv_tableau_rules.specs.tableaux.Solved.{Basic, At, Places, is_basic, Entries, point, at_rest, exchanged, pivot}
use Rattle.spv_tableau_rules.specs.tableaux.Steps.{IsStep}
use Rattle.spv_tableau_rules.specs.tableaux.Operations as operations
use Rattle.spv_tableau_rules.specs.pivots.Moved.{moved, placed}
use Rattle.spv_tableau_rules.proofs.pivots.Stepping as stepping
use Rattle.spv_tableau_rules.proofs.pivots.Algebra.{plus_minus, divided_times}
use Rattle.spv_tableau_rules.proofs.pivots.Sums.{sum_same, eq_is, eq_self}
use Rattle.spv_tableau_rules.proofs.pivots.Stepping.{IsExchange, exchange, step_solves, step_moves, entries_alone, basis_alone, inside_moves, moved_entering, moved_basic, moved_other}
use Rattle.spv_dictionary.specs.declared.spot.Spot.{Spot}
use Rattle.spv_dictionary.specs.declared.spot.Spot.TheVariants as spot
use Rattle.spv_dictionary.specs.Dictionary as form
use Rattle.spv_dictionary.specs.Dictionary.{Dictionary, IsDictionary, IsSpot, spot_of, basic_at, outside_at, entry_between, entries, place_of, with_solved}
use Rattle.spv_dictionary.proofs.Exchanging.{same_basis, is_pivot, spot_count, differ_of}
use Rattle.spv_dictionary.specs.updates.Shifts.{value_in, entry_in}
use Rattle.spv_dictionary.specs.pivoting.Stepping.{shift_of, AreStepped}
use Rattle.spv_dictionary.specs.declared.pivoting.choosing.Chosen.{Chosen}
use Rattle.spv_dictionary.specs.declared.pivoting.entering.Entry.{Entry}
use Rattle.spv_dictionary.specs.pivoting.Finding.{IsChosen}
use Rattle.spv_simplex.proofs.pivot_runs.Making.{is_step}
use Rattle.spv_simplex.specs.pivot_runs.Along.{IsAt, IsGone, StepIsAt, MoveIsAt}
use Rattle.spv_dictionary.specs.pivoting.Moving.{way_to, AreMovedTo}

-- ---- what agrees

exchanged_basic : (p q : Places) (l : ℕ) (side : Side) (e c : ℕ) → is_basic (p c) ≡ is_basic (q c) → is_basic (exchanged p l side e c) ≡ is_basic (exchanged q l side e c)
exchanged_basic p q l side e c h = by_cases (nat_eq c e) (nat_eq c l)
  where
    by_cases : (x y : Bool) → is_basic (if x then Basic else if y then At side else p c) ≡ is_basic (if x then Basic else if y then At side else q c)
    by_cases true y = refl
    by_cases false true = refl
    by_cases false false = h

-- the point by entries that agree
point_alone : (rows : Rows) (limits : Limits) (held : Point) (places : Places) (t u : Entries) → ((b c : ℕ) → b < columns rows → is_basic (places b) ≡ true → c < columns rows → u b c ≡ t b c)
    → (c : ℕ) → c < columns rows → point rows limits held places u c ≡ point rows limits held places t c
point_alone rows limits held places t u same c below = by_place (is_basic (places c)) refl
  where
    by_place : (b : Bool) → is_basic (places c) ≡ b → point rows limits held places u c ≡ point rows limits held places t c
    by_place true e = rw e (sum_same (columns rows) _ _ (λ x h. ap (λ y. times y (at_rest limits held places x)) (same c x below e h)))
    by_place false e = rw e refl

module _ (rows : Rows) (limits : Limits) (held : Point) (places : Places) (d : Dictionary) (values : List Rational) (chosen : Chosen) (entry : Entry)
    (new : Dictionary) (after : List Rational) (here : IsAt rows limits held places d values) (gone : IsGone limits d values chosen entry new after) where
  abbrev row : ℕ
  row = chosen.row

  abbrev slot : ℕ
  slot = entry.slot

  abbrev leaving : ℕ
  leaving = chosen.column

  abbrev entering : ℕ
  entering = entry.column

  abbrev side : Side
  side = chosen.side

  abbrev bound : Rational
  bound = chosen.bound

  abbrev v : Point
  v = point rows limits held places (entries d)

  abbrev t : Entries
  t = entries d

  found : IsChosen limits d (value_in values) chosen entry
  found = gone.chosen_is

  row_spot : IsSpot d leaving (spot.Row row)
  row_spot = subst (IsSpot d leaving) found.leaves.can.row_is (gone.old_form.columns leaving found.leaves.can.inside)

  slot_spot : IsSpot d entering (spot.Slot slot)
  slot_spot = subst (IsSpot d entering) found.enters.can.spot (gone.old_form.columns entering found.enters.can.inside)

  in_spots : (c : ℕ) → c < columns rows → c < length d.spots
  in_spots c h = subst (λ (n : ℕ). c < n) (sym here.spots) h

  in_columns : (c : ℕ) → c < length d.spots → c < columns rows
  in_columns c h = subst (λ (n : ℕ). c < n) here.spots h

  leaving_in : leaving < columns rows
  leaving_in = in_columns leaving found.leaves.can.inside

  entering_in : entering < columns rows
  entering_in = in_columns entering found.enters.can.inside

  stepped_is : IsStep rows limits places v t leaving side entering
  stepped_is = is_step rows limits held places d values chosen entry here gone.old_form found

  x : IsExchange places t leaving entering
  x = exchange rows limits places v t leaving side entering stepped_is

  -- ---- the entries

  pivot_at : t leaving entering ≡ entry_in d row slot
  pivot_at = ap₂ (entry_between d) found.leaves.can.row_is found.enters.can.spot

  nonzero : is_zero (entry_in d row slot) ≡ false
  nonzero = ap is_zero (sym pivot_at) ∙ x.nonzero

  tested : Dictionary
  tested = with_solved d gone.made.solved

  is_tested : IsDictionary tested
  unfolding tested
  is_tested = record {
    count = gone.old_form.count;
    row_count = gone.old_form.row_count;
    widths = gone.old_form.widths;
    rows = gone.old_form.rows;
    slots = gone.old_form.slots;
    columns = gone.old_form.columns;
    solved_width = sym gone.made.exchanged.solved_width ∙ gone.new_form.solved_width ∙ ap (λ s. length s) gone.made.exchanged.outside ∙ length-set d.outside slot (basic_at d row);
  }

  basis_after : (c : ℕ) → c < columns rows → is_basic (form.places new c) ≡ is_basic (exchanged places leaving side entering c)
  unfolding tested
  basis_after c h =
      same_basis tested new row slot is_tested gone.made.exchanged row_spot.0 slot_spot.0 nonzero side c
      ∙ ap₂ (λ (l e : ℕ). is_basic (exchanged (form.places d) l side e c)) row_spot.1 slot_spot.1
      ∙ exchanged_basic (form.places d) places leaving side entering c (here.basis c h)

  entries_after : (b c : ℕ) → b < columns rows → is_basic (exchanged places leaving side entering b) ≡ true → c < columns rows → entries new b c ≡ pivot t leaving entering b c
  unfolding tested
  entries_after b c b_in basic c_in =
      is_pivot tested new row slot is_tested gone.made.exchanged row_spot.0 slot_spot.0 nonzero b c (in_spots b b_in) (basis_after b b_in ∙ basic) (in_spots c c_in)
      ∙ ap₂ (λ (l e : ℕ). pivot t l e b c) row_spot.1 slot_spot.1

  -- ---- the values

  shift_is : shift_of d values row slot bound ≡ operations.shift v t leaving entering bound
  shift_is =
      ap₂ (λ (p q : Rational). divided (minus bound p) q) (ap (value_in values) row_spot.1 ∙ here.point_is leaving leaving_in) (sym pivot_at)

  abbrev shift : Rational
  shift = operations.shift v t leaving entering bound

  stepped : AreStepped d values row slot bound shift after
  stepped = subst (λ (s : Rational). AreStepped d values row slot bound s after) shift_is gone.made.stepped

  -- each column's value has moved
  moved_at : (c : ℕ) → c < columns rows → (s : Spot) → spot_of d c ≡ s → value_in after c ≡ moved v places t entering shift c
  moved_at c c_in (spot.Row k) s = by_row (nat_eq k row) refl
    where
      at : IsSpot d c (spot.Row k)
      at = subst (IsSpot d c) s (gone.old_form.columns c (in_spots c c_in))

      basic : is_basic (places c) ≡ true
      basic = sym (here.basis c c_in) ∙ ap (λ p. is_basic (place_of p)) s

      other : nat_eq c entering ≡ false
      other = by_case (nat_eq c entering) refl
        where
          by_case : (b : Bool) → nat_eq c entering ≡ b → b ≡ false
          by_case true e = absurd (false≢true (sym x.enters ∙ ap (λ y. is_basic (places y)) (sym (eq_is c entering e)) ∙ basic))
          by_case false e = refl

      entry_is : t c entering ≡ entry_in d k slot
      entry_is = ap₂ (entry_between d) s found.enters.can.spot

      by_row : (b : Bool) → nat_eq k row ≡ b → value_in after c ≡ moved v places t entering shift c
      by_row true e =
          let c_is : c ≡ leaving = sym at.1 ∙ ap (basic_at d) (eq_is k row e) ∙ row_spot.1 in
          ap (value_in after) (c_is ∙ sym row_spot.1) ∙ stepped.leaving
          ∙ sym (moved_basic v places t entering shift c other basic ∙ ap (λ y. plus (v y) (times shift (t y entering))) c_is
          ∙ ap (plus (v leaving)) (divided_times (minus bound (v leaving)) (t leaving entering) x.nonzero) ∙ plus_minus (v leaving) bound)
      by_row false e =
          ap (value_in after) (sym at.1) ∙ stepped.rows k at.0 e
          ∙ ap₂ (λ (p q : Rational). plus p (times shift q)) (ap (value_in values) at.1 ∙ here.point_is c c_in) (sym entry_is)
          ∙ sym (moved_basic v places t entering shift c other basic)
  moved_at c c_in (spot.Slot j) s = by_slot (nat_eq j slot) refl
    where
      at : IsSpot d c (spot.Slot j)
      at = subst (IsSpot d c) s (gone.old_form.columns c (in_spots c c_in))

      out : is_basic (places c) ≡ false
      out = sym (here.basis c c_in) ∙ ap (λ p. is_basic (place_of p)) s

      slot_number : Spot → ℕ
      slot_number (spot.Row n) = n
      slot_number (spot.Slot n) = n

      by_slot : (b : Bool) → nat_eq j slot ≡ b → value_in after c ≡ moved v places t entering shift c
      by_slot true e =
          let c_is : c ≡ entering = sym at.1 ∙ ap (outside_at d) (eq_is j slot e) ∙ slot_spot.1 in
          ap (value_in after) (c_is ∙ sym slot_spot.1) ∙ stepped.entering
          ∙ ap (λ p. plus p shift) (ap (value_in values) slot_spot.1 ∙ here.point_is entering entering_in ∙ ap v (sym c_is))
          ∙ sym (moved_entering v places t entering shift c (ap (λ y. nat_eq y entering) c_is ∙ eq_self entering))
      by_slot false e =
          ap (value_in after) (sym at.1) ∙ stepped.slots j at.0 e ∙ ap (value_in values) at.1 ∙ here.point_is c c_in
          ∙ sym (moved_other v places t entering shift c other out)
        where
          other : nat_eq c entering ≡ false
          other = by_case (nat_eq c entering) refl
            where
              by_case : (b : Bool) → nat_eq c entering ≡ b → b ≡ false
              by_case true f = absurd (differ_of j slot e (ap slot_number (sym s ∙ ap (spot_of d) (eq_is c entering f) ∙ found.enters.can.spot)))
              by_case false f = refl

  pub is_at : IsAt rows limits held (exchanged places leaving side entering) new after
  unfolding tested
  is_at = record {
    solved = entries_alone rows (exchanged places leaving side entering) (pivot t leaving entering) (entries new) entries_after
        (step_solves rows limits places v t leaving side entering here.solved stepped_is);
    spots = spot_count tested new row slot is_tested gone.made.exchanged row_spot.0 slot_spot.0 nonzero ∙ here.spots;
    basis = basis_after;
    count = stepped.count ∙ here.count;
    point_is = λ c h. moved_at c h (spot_of d c) refl ∙ step_moves rows limits held places t leaving side entering bound here.solved stepped_is found.leaves.can.bound_is c h
        ∙ sym (point_alone rows limits held (exchanged places leaving side entering) (pivot t leaving entering) (entries new) entries_after c h);
  }

pub step_is_at : StepIsAt
step_is_at rows limits held places d values chosen entry new after here gone = is_at rows limits held places d values chosen entry new after here gone

-- ---- a column that was moved

module _ (rows : Rows) (limits : Limits) (held : Point) (places : Places) (d : Dictionary) (values : List Rational) (slot column : ℕ) (side : Side) (bound : Rational) (after : List Rational)
    (known : IsDictionary d) (here : IsAt rows limits held places d values) (column_in : column < columns rows) (at_slot : spot_of d column ≡ spot.Slot slot)
    (bound_is : limits column side ≡ Some bound) (gone : AreMovedTo d values slot bound after) where
  abbrev w : Point
  w = point rows limits held places (entries d)

  abbrev distance : Rational
  distance = minus bound (w column)

  spots_in : (c : ℕ) → c < columns rows → c < length d.spots
  spots_in c h = subst (λ (n : ℕ). c < n) (sym here.spots) h

  column_spot : IsSpot d column (spot.Slot slot)
  column_spot = subst (IsSpot d column) at_slot (known.columns column (spots_in column column_in))

  column_out : is_basic (places column) ≡ false
  column_out = sym (here.basis column column_in) ∙ ap (λ p. is_basic (place_of p)) at_slot

  way_is : way_to d values slot bound ≡ distance
  way_is = ap (minus bound) (ap (value_in values) column_spot.1 ∙ here.point_is column column_in)

  value_moved : (c : ℕ) → c < columns rows → (s : Spot) → spot_of d c ≡ s → value_in after c ≡ moved w places (entries d) column distance c
  value_moved c c_in (spot.Row k) s =
      ap (value_in after) (sym at.1) ∙ gone.rows k at.0
      ∙ ap₂ plus (ap (value_in values) at.1 ∙ here.point_is c c_in) (ap₂ times way_is (sym (ap₂ (entry_between d) s at_slot)))
      ∙ sym (moved_basic w places (entries d) column distance c other basic)
    where
      at : IsSpot d c (spot.Row k)
      at = subst (IsSpot d c) s (known.columns c (spots_in c c_in))

      basic : is_basic (places c) ≡ true
      basic = sym (here.basis c c_in) ∙ ap (λ p. is_basic (place_of p)) s

      other : nat_eq c column ≡ false
      other = by_case (nat_eq c column) refl
        where
          by_case : (b : Bool) → nat_eq c column ≡ b → b ≡ false
          by_case true e = absurd (false≢true (sym column_out ∙ ap (λ y. is_basic (places y)) (sym (eq_is c column e)) ∙ basic))
          by_case false e = refl
  value_moved c c_in (spot.Slot j) s = by_slot (nat_eq j slot) refl
    where
      at : IsSpot d c (spot.Slot j)
      at = subst (IsSpot d c) s (known.columns c (spots_in c c_in))

      out : is_basic (places c) ≡ false
      out = sym (here.basis c c_in) ∙ ap (λ p. is_basic (place_of p)) s

      slot_number : Spot → ℕ
      slot_number (spot.Row n) = n
      slot_number (spot.Slot n) = n

      by_slot : (b : Bool) → nat_eq j slot ≡ b → value_in after c ≡ moved w places (entries d) column distance c
      by_slot true e =
          let c_is : c ≡ column = sym at.1 ∙ ap (outside_at d) (eq_is j slot e) ∙ column_spot.1 in
          ap (value_in after) (c_is ∙ sym column_spot.1) ∙ gone.column ∙ sym (plus_minus (w column) bound) ∙ ap (λ y. plus (w y) distance) (sym c_is)
          ∙ sym (moved_entering w places (entries d) column distance c (ap (λ y. nat_eq y column) c_is ∙ eq_self column))
      by_slot false e =
          ap (value_in after) (sym at.1) ∙ gone.slots j at.0 e ∙ ap (value_in values) at.1 ∙ here.point_is c c_in
          ∙ sym (moved_other w places (entries d) column distance c other out)
        where
          other : nat_eq c column ≡ false
          other = by_case (nat_eq c column) refl
            where
              by_case : (b : Bool) → nat_eq c column ≡ b → b ≡ false
              by_case true f = absurd (differ_of j slot e (ap slot_number (sym s ∙ ap (spot_of d) (eq_is c column f) ∙ at_slot)))
              by_case false f = refl

  pub moved_is_at : IsAt rows limits held (placed places column (At side)) d after
  moved_is_at = record {
    solved = basis_alone rows places (placed places column (At side)) (entries d) (λ c below. stepping.same_basis places column side column_out c) here.solved;
    spots = here.spots;
    basis = λ c h. here.basis c h ∙ sym (stepping.same_basis places column side column_out c);
    count = gone.count ∙ here.count;
    point_is = λ c h. value_moved c h (spot_of d c) refl ∙ inside_moves rows limits held places (entries d) column side bound here.solved column_in column_out bound_is c h;
  }

pub move_is_at : MoveIsAt
move_is_at rows limits held places d values slot column side bound after known here column_in at_slot bound_is gone =
    moved_is_at rows limits held places d values slot column side bound after known here column_in at_slot bound_is gone
