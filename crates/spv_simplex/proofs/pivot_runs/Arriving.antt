-- Steps on the numbers are a walk; what does not fit, is stuck or is left over on it.
use Rattle.std.proofs.Common.{◌≡◌, ℕ, ◌+◌, ◌<◌, true, false, List, [], ◌∷◌, ◌++◌, length, nat_eq, sym, ap, ◌∙◌, subst, arith}
use Rattle.std.proofs.lemmas.List.{length-set}
use mathlib.Core.Path.{ap₂}
use Rattle.spv_frac.specs.rational.Rational.{Rational, times}
use Rattle.spv_frac.specs.declared.frac.Op.TheVariants.{Add, Sub, Mul, Div, Cmp}
use Rattle.spv_tableau_rules.specs.tableaux.Numbers.{minus, divided}
use Rattle.spv_tableau_rules.specs.tableaux.Rows.{Rows, columns, Point}
use Rattle.spv_tableau_rules.specs.tableaux.Bounds.{AreBounds, Limits, limits, breaks_limit}
use Rattle.spv_tableau_rules.specs.tableaux.Solved.{Places, is_basic, basis_of, Entries, point, exchanged}
use Rattle.spv_tableau_rules.specs.tableaux.Steps.{none_to, may_enter, inside, IsStep, IsStuck}
use Rattle.spv_tableau_rules.specs.tableaux.Operations as operations
use Rattle.spv_tableau_rules.specs.tableaux.Operations.{Operation, operation, fits, Compares, comparing, Shifts, Pivots}
use Rattle.spv_tableau_rules.specs.tableaux.Walks as walks
use Rattle.spv_tableau_rules.specs.tableaux.Walks.{Exchange, Start, held_at, Walk, stays, goes, Moment, IsWide, IsUnfinished}
use Rattle.spv_tableau_rules.specs.tableaux.Contradictions.{IsContradiction}
use Rattle.spv_tableau_rules.specs.pivots.Moved.{turned, multiples_to}
use Rattle.spv_tableau_rules.proofs.pivots.Stuck.{stuck_contradicts}
use Rattle.spv_tableau_rules.proofs.pivots.Tests.{and_left}
use Rattle.spv_dictionary.specs.Dictionary as form
use Rattle.spv_dictionary.specs.Dictionary.{Dictionary, IsDictionary, basic_at, outside_at, entry_between, entries, place_of}
use Rattle.spv_dictionary.proofs.Refusing.{refuses_pivot}
use Rattle.spv_dictionary.specs.updates.Shifts as shifts
use Rattle.spv_dictionary.specs.updates.Shifts.{value_in, entry_in, IsGoing, IsRowGoing}
use Rattle.spv_dictionary.proofs.updates.Going.{columns_apart}
use Rattle.spv_dictionary.specs.declared.pivoting.choosing.Chosen.{Chosen}
use Rattle.spv_dictionary.specs.declared.pivoting.entering.Entry.{Entry}
use Rattle.spv_dictionary.specs.pivoting.Combining.{multiples_in}
use Rattle.spv_dictionary.specs.pivoting.Finding.{IsStuckOn, IsChosen}
use Rattle.spv_dictionary.specs.pivoting.Stepping as stepping
use Rattle.spv_dictionary.specs.pivoting.Stepping.{distance_of, shift_of, IsStepping}
use Rattle.spv_simplex.specs.pivot_runs.Along.{IsGone}
use Rattle.spv_simplex.specs.pivot_runs.Derivation as derivation
use Rattle.spv_simplex.specs.pivot_runs.Derivation.{ArePlaced, Goes, begins, steps, IsNextOn}
use Rattle.spv_simplex.specs.pivot_runs.Arrivals.{SetsOut, IsUnderway, GoesUnderway, StepIsWide, StuckIsContradiction, StepIsUnfinished}
use Rattle.spv_simplex.proofs.pivot_runs.Agreeing.{at_same}
use Rattle.spv_simplex.proofs.pivot_runs.Going.{is_at}
use Rattle.spv_simplex.proofs.pivot_runs.Making.{is_step, row_spot, slot_spot, leaving_in, entering_in, pivot_entry, none_same, leave_same, enter_same}
use Rattle.spv_simplex.proofs.pivot_runs.Placing.{moved_to, placed_at, all_inside}
use Rattle.spv_simplex.proofs.pivot_runs.Ranges.{limit_in}

-- ---- a walk

module _ (rows : Rows) (start : Start) (d : Dictionary) (before : List Rational) (out : SetsOut rows start d before) (values : List Rational)
    (all : ArePlaced (limits rows start.bounds) d before (length d.outside) values) where
  abbrev l : Limits
  l = limits rows start.bounds

  abbrev held : Point
  held = held_at start.held

  begins_underway : IsUnderway rows start [] d values
  begins_underway = record {
    places = inside l held (basis_of start.basis);
    walk = stays (inside l held (basis_of start.basis));
    at = at_same rows l held (moved_to l held d (length d.outside)) (inside l held (basis_of start.basis)) d values (all_inside rows start d before out)
        (placed_at rows start d before out (length d.outside) values all);
    width = out.width;
  }

  steps_on : (made : List Exchange) (here : Dictionary) (now : List Rational) (chosen : Chosen) (entry : Entry) (next : Dictionary) (after : List Rational)
      → IsUnderway rows start made here now → IsGone l here now chosen entry next after
      → IsUnderway rows start (made ++ record { leaving = chosen.column; entering = entry.column } ∷ []) next after
  steps_on made here now chosen entry next after u gone = record {
    places = exchanged u.places chosen.column chosen.side entry.column;
    walk = goes (inside l held (basis_of start.basis)) made u.places (entries here) chosen.column chosen.side entry.column u.walk u.at.solved
        (is_step rows l held u.places here now chosen entry u.at gone.old_form gone.chosen_is);
    at = is_at rows l held u.places here now chosen entry next after u.at gone;
    width = ap (λ s. length s) gone.made.exchanged.outside ∙ length-set here.outside entry.slot (basic_at here chosen.row) ∙ u.width;
  }

  pub underway : (made : List Exchange) (here : Dictionary) (now : List Rational) → Goes l d values made here now → IsUnderway rows start made here now
  underway _ _ _ begins = begins_underway
  underway _ _ _ (steps made here now chosen entry next after g gone) = steps_on made here now chosen entry next after (underway made here now g) gone

pub goes_underway : GoesUnderway
goes_underway rows start d before out values all made here now g = underway rows start d before out values all made here now g

-- ---- an operation of a step

-- what is told of a pivot with these places is so with others of the same basis
pivots_same : (rows : Rows) (p q : Places) (t : Entries) (leaving entering : ℕ) (o : Operation) → ((c : ℕ) → c < columns rows → is_basic (p c) ≡ is_basic (q c))
    → Pivots rows p t leaving entering o → Pivots rows q t leaving entering o
pivots_same rows p q t leaving entering _ same operations.inverting = operations.inverting
pivots_same rows p q t leaving entering _ same (operations.dividing c c_in outside other) = operations.dividing c c_in (sym (same c c_in) ∙ outside) other
pivots_same rows p q t leaving entering _ same (operations.scaling b c b_in basic other c_in apart) = operations.scaling b c b_in (sym (same b b_in) ∙ basic) other c_in apart
pivots_same rows p q t leaving entering _ same (operations.adding b c b_in basic other c_in outside apart) =
    operations.adding b c b_in (sym (same b b_in) ∙ basic) other c_in (sym (same c c_in) ∙ outside) apart

module _ (rows : Rows) (start : Start) (made : List Exchange) (d : Dictionary) (values : List Rational) (u : IsUnderway rows start made d values) (known : IsDictionary d) where
  abbrev lim : Limits
  lim = limits rows start.bounds

  abbrev hold : Point
  hold = held_at start.held

  abbrev t : Entries
  t = entries d

  abbrev w : Point
  w = point rows lim hold u.places t

  abbrev moment : Moment rows
  moment = record { places = u.places; entries = t; solved = u.at.solved }

  in_columns : (c : ℕ) → c < length d.spots → c < columns rows
  in_columns c h = subst (λ (n : ℕ). c < n) u.at.spots h

  compared : AreBounds rows start.bounds → (x : Operation) → Compares lim (value_in values) x → Compares lim w x
  compared bounds x (comparing e side bound bound_is) =
      subst (λ (y : Rational). Compares lim w (operation Cmp y bound)) (sym (u.at.point_is e (limit_in rows start.bounds bounds e side bound bound_is))) (comparing e side bound bound_is)

  module _ (chosen : Chosen) (entry : Entry) (found : IsChosen lim d (value_in values) chosen entry) where
    abbrev leaving : ℕ
    leaving = chosen.column

    abbrev entering : ℕ
    entering = entry.column

    step : IsStep rows lim u.places w t leaving chosen.side entering
    step = is_step rows lim hold u.places d values chosen entry u.at known found

    row_at : basic_at d chosen.row ≡ leaving
    row_at = (row_spot rows lim hold u.places d values chosen entry u.at known found).1

    row_in : chosen.row < length d.basic
    row_in = (row_spot rows lim hold u.places d values chosen entry u.at known found).0

    slot_at : outside_at d entry.slot ≡ entering
    slot_at = (slot_spot rows lim hold u.places d values chosen entry u.at known found).1

    slot_in : entry.slot < length d.outside
    slot_in = (slot_spot rows lim hold u.places d values chosen entry u.at known found).0

    value_is : value_in values (basic_at d chosen.row) ≡ w leaving
    value_is = ap (value_in values) row_at ∙ u.at.point_is leaving (leaving_in rows lim hold u.places d values chosen entry u.at known found)

    pivot_is : entry_in d chosen.row entry.slot ≡ t leaving entering
    pivot_is = sym (pivot_entry rows lim hold u.places d values chosen entry u.at known found)

    distance_is : distance_of d values chosen.row chosen.bound ≡ minus chosen.bound (w leaving)
    distance_is = ap (minus chosen.bound) value_is

    shift_is : shift_of d values chosen.row entry.slot chosen.bound ≡ operations.shift w t leaving entering chosen.bound
    shift_is = ap₂ divided distance_is pivot_is

    abbrev Shift : Operation → Type 0
    Shift = Shifts rows u.places t w leaving entering chosen.bound

    going_is : (o : Operation) → IsRowGoing d values entry.slot (shift_of d values chosen.row entry.slot chosen.bound) chosen.row o → Shift o
    going_is o r = by_going o r.going
      where
        b : ℕ
        b = basic_at d r.row

        b_in : b < columns rows
        b_in = in_columns b (known.rows r.row r.row_in).0

        basic : is_basic (u.places b) ≡ true
        basic = sym (u.at.basis b b_in) ∙ ap (λ s. is_basic (place_of s)) (known.rows r.row r.row_in).1

        apart : nat_eq b leaving ≡ false
        apart = ap (nat_eq b) (sym row_at) ∙ columns_apart d known r.row chosen.row r.row_in row_in r.other

        entry_is : entry_in d r.row entry.slot ≡ t b entering
        entry_is = sym (ap₂ (entry_between d) (known.rows r.row r.row_in).1 found.enters.can.spot)

        by_going : (x : Operation) → IsGoing (value_in values b) (shift_of d values chosen.row entry.slot chosen.bound) (entry_in d r.row entry.slot) x → Shift x
        by_going _ shifts.scaling = subst Shift (sym (ap₂ (operation Mul) shift_is entry_is)) (operations.scaling b b_in basic apart)
        by_going _ shifts.adding = subst Shift (sym (ap₂ (operation Add) (u.at.point_is b b_in) (ap₂ times shift_is entry_is))) (operations.adding b b_in basic apart)

    step_wide : (o : Operation) → IsStepping d values chosen.row entry.slot chosen.bound o → operations.IsNext rows lim u.places t w o
    step_wide o (stepping.distance e) =
        operations.shifts leaving entering chosen.side chosen.bound o step found.leaves.can.bound_is
        (subst Shift (sym (e ∙ ap (operation Sub chosen.bound) value_is)) operations.distance)
    step_wide o (stepping.dividing e) =
        operations.shifts leaving entering chosen.side chosen.bound o step found.leaves.can.bound_is
        (subst Shift (sym (e ∙ ap₂ (operation Div) distance_is pivot_is)) operations.dividing)
    step_wide o (stepping.entering e) =
        operations.shifts leaving entering chosen.side chosen.bound o step found.leaves.can.bound_is
        (subst Shift (sym (e ∙ ap₂ (operation Add) (ap (value_in values) slot_at ∙ u.at.point_is entering (entering_in rows lim hold u.places d values chosen entry u.at known found)) shift_is))
        operations.entering_moves)
    step_wide o (stepping.going r) = operations.shifts leaving entering chosen.side chosen.bound o step found.leaves.can.bound_is (going_is o r)
    step_wide o (stepping.exchanging r) =
        operations.pivots leaving entering chosen.side o step
        (pivots_same rows (form.places d) u.places t leaving entering o u.at.basis
        (subst (λ (e : ℕ). Pivots rows (form.places d) t leaving e o) slot_at
        (subst (λ (b : ℕ). Pivots rows (form.places d) t b (outside_at d entry.slot) o) row_at
        (refuses_pivot rows d chosen.row entry.slot o known (sym u.at.spots) row_in slot_in r))))

    pub unfinished : (most : ℕ) → length made ≡ most → IsUnfinished rows start made most
    unfinished most e = record { count = e; moment = moment; leads = u.walk; leaving = leaving; side = chosen.side; entering = entering; step = step }

  pub wide : AreBounds rows start.bounds → (o : Operation) → IsNextOn lim d values o → fits o ≡ false → IsWide rows start made o
  wide bounds o (derivation.compares k) unfit = walks.stepping made moment o u.walk (operations.compares o (compared bounds o k)) unfit
  wide bounds o (derivation.makes chosen entry found k) unfit = walks.stepping made moment o u.walk (step_wide chosen entry found o k) unfit

  -- ---- a stuck column

  module _ (chosen : Chosen) (stuck : IsStuckOn lim d (value_in values) chosen) where
    row_is : basic_at d chosen.row ≡ chosen.column
    row_is = (subst (form.IsSpot d chosen.column) stuck.leaves.can.row_is (known.columns chosen.column stuck.leaves.can.inside)).1

    column_in : chosen.column < columns rows
    column_in = in_columns chosen.column stuck.leaves.can.inside

    is_stuck : IsStuck rows lim u.places w t chosen.column chosen.side
    is_stuck = record {
      leaving_in = column_in;
      leaves = sym (leave_same lim (form.places d) u.places (value_in values) w chosen.column (u.at.basis chosen.column column_in) (u.at.point_is chosen.column column_in)) ∙ and_left _ _ stuck.leaves.least;
      breaks = ap (breaks_limit chosen.side (lim chosen.column chosen.side)) (sym (u.at.point_is chosen.column column_in))
          ∙ ap (λ o. breaks_limit chosen.side o (value_in values chosen.column)) stuck.leaves.can.bound_is ∙ stuck.leaves.can.breaks;
      enters = sym (none_same (columns rows) (may_enter lim (form.places d) (value_in values) t chosen.column chosen.side) (may_enter lim u.places w t chosen.column chosen.side)
          (λ c h. enter_same lim (form.places d) u.places (value_in values) w t chosen.column chosen.side c (u.at.basis c h) (u.at.point_is c h)))
          ∙ ap₂ (λ (n b : ℕ). none_to n (may_enter lim (form.places d) (value_in values) t b chosen.side)) (sym u.at.spots) (sym row_is) ∙ stuck.none;
    }

    pub contradiction : IsContradiction rows start.bounds (multiples_in d (length d.outside) (basic_at d chosen.row) chosen.side (length d.basic))
    contradiction =
        subst (IsContradiction rows start.bounds) (sym same) (stuck_contradicts rows start.bounds hold u.places t chosen.column chosen.side u.at.solved is_stuck)
      where
        count_is : length d.basic ≡ rows.count
        count_is = counts (length d.spots) (length d.outside) (length d.basic) rows.parts rows.count known.count u.at.spots u.width
          where
            counts : (s o b p n : ℕ) → s ≡ o + b → s ≡ p + n → o ≡ p → b ≡ n
            counts s o b p n h g e = omega (arith, h, g, e)

        same : multiples_in d (length d.outside) (basic_at d chosen.row) chosen.side (length d.basic)
            ≡ multiples_to rows.count (λ i. turned t chosen.column chosen.side (rows.parts + i))
        same =
            ap (multiples_in d (length d.outside) (basic_at d chosen.row) chosen.side) count_is
            ∙ ap₂ (λ (width b : ℕ). multiples_to rows.count (λ i. turned t b chosen.side (width + i))) u.width row_is

pub step_is_wide : StepIsWide
step_is_wide rows start made d values u known bounds o k unfit = wide rows start made d values u known bounds o k unfit

pub stuck_is_contradiction : StuckIsContradiction
stuck_is_contradiction rows start made d values u known chosen stuck = contradiction rows start made d values u known chosen stuck

pub step_is_unfinished : StepIsUnfinished
step_is_unfinished rows start made d values u known chosen entry found most e = unfinished rows start made d values u known chosen entry found most e
