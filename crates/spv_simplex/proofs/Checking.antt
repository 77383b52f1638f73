-- What a check came to.
use Rattle.std.proofs.Common.{◌≡◌, ℕ, zero, suc, ◌+◌, ◌-◌, ◌<◌, ◌≤◌, Bool, true, false, not, List, [], ◌∷◌, map, length, Option, Some, None, nat_eq, slice_get, slice_index_or, refl, sym, ap, ◌∙◌, subst, arith, if◌then◌else◌}
use Rattle.std.proofs.lemmas.Bool.{false≢true}
use Rattle.std.proofs.lemmas.List.{take_all}
use Rattle.std.proofs.lemmas.Option.{slice_get_within}
use mathlib.Core.Path.{ap₂}
use Rattle.spv_logic.specs.declared.conditions.TermId.{TermId}
use Rattle.spv_frac.specs.rational.Rational.{Rational}
use Rattle.spv_tableau_rules.specs.declared.tableaux.side.Side.{Side}
use Rattle.spv_tableau_rules.specs.tableaux.Rows.{columns, Rows, column_of, Point}
use Rattle.spv_tableau_rules.specs.tableaux.Bounds.{Bound, Limits, limits, breaks, is_out, Meets}
use Rattle.spv_tableau_rules.specs.tableaux.Solved.{Basic, Held, is_basic, basis_of}
use Rattle.spv_tableau_rules.specs.tableaux.Walks.{Start, held_at, IsWide, IsUnfinished, IsBoundOf}
use Rattle.spv_tableau_rules.specs.tableaux.Contradictions.{Multiple, IsContradiction}
use Rattle.spv_tableau_rules.proofs.pivots.Algebra.{false_of}
use Rattle.spv_tableau_rules.proofs.pivots.Sums.{eq_is}
use Rattle.spv_tableau_rules.proofs.pivots.Tests.{and_left, and_right, not_true}
use Rattle.spv_dictionary.specs.declared.spot.Spot.{Spot}
use Rattle.spv_dictionary.specs.declared.spot.Spot.TheVariants as spot
use Rattle.spv_dictionary.specs.Dictionary.{Dictionary, IsDictionary, IsSpot, spot_of, place_of, places, with_solved}
use Rattle.spv_dictionary.specs.updates.Shifts.{value_in}
use Rattle.spv_dictionary.specs.pivoting.Choosing.{limits_of, is_broken, are_met}
use Rattle.spv_dictionary.specs.pivoting.Trail.{Trail}
use Rattle.spv_dictionary.proofs.pivoting.Choices.{is_in, is_rows, limit_here, out_breaks}
use Rattle.spv_simplex.specs.pivot_runs.Derivation.{ArePlaced, Goes, begins, steps}
use Rattle.spv_simplex.specs.pivot_runs.Arrivals.{SetsOut, IsUnderway, Stands, in_basis_after}
use Rattle.spv_simplex.specs.pivot_runs.Arrivals as arrivals
use Rattle.spv_simplex.proofs.pivot_runs.Bases.{underway_basis}
use Rattle.spv_simplex.proofs.pivot_runs.Placing.{basis_is, placing_is_wide}
use Rattle.spv_simplex.proofs.pivot_runs.Walking.{placed_stands, underway_stands, none_leaves_meets}
use Rattle.spv_simplex.proofs.pivot_runs.Arriving.{goes_underway, step_is_wide, stuck_is_contradiction, step_is_unfinished}
use Rattle.spv_simplex.specs.declared.checked.Checked.{Checked}
use Rattle.spv_simplex.specs.declared.checked.Checked.TheVariants.{Feasible}
use Rattle.spv_simplex.specs.Evidence.{EvidenceValue, holding, start_of, begun}
use Rattle.spv_simplex.specs.Searching.{Stops, met, stuck, wide, full, Arrives, Ends, placing, arriving}
use Rattle.spv_atoms.specs.Linear.{IdForm}
use Rattle.spv_tableau_rules.specs.tableaux.Forms.{rows_of}
use Rattle.spv_simplex.specs.State.{State, IsTableau, IsKept, rows_in, kept_point}
use Rattle.spv_simplex.specs.Checks as checks
use Rattle.spv_simplex.specs.Checks.{BeginsWith, Means, IsChecked, IsAmong, HoldsAsserted}

-- ---- the check sets out

-- what a listed column holds
held_listed : (values : List Rational) (xs : List ℕ) (j c : ℕ) → j < length xs → slice_index_or xs j 0 ≡ c → held_at (map (holding values) xs) c ≡ value_in values c
held_listed values [] j c h e = absurd (no_less j h)
  where
    no_less : (i : ℕ) → i < 0 → ⊥
    no_less i h = omega arith
held_listed values (x ∷ xs) zero c h e = rw (ap (λ n. nat_eq n c) e ∙ same c) (ap (value_in values) e)
  where
    same : (n : ℕ) → nat_eq n n ≡ true
    same n = grind arith
held_listed values (x ∷ xs) (suc j) c h e = by_case (held_listed values xs j c (less j (length xs) h) e) (nat_eq x c) refl
  where
    less : (i n : ℕ) → suc i < suc n → i < n
    less i n h = omega arith

    by_case : held_at (map (holding values) xs) c ≡ value_in values c → (b : Bool) → nat_eq x c ≡ b
        → (if b then value_in values x else held_at (map (holding values) xs) c) ≡ value_in values c
    by_case rest true k = ap (value_in values) (eq_is x c k)
    by_case rest false k = rest

held_outside : (d : Dictionary) → IsDictionary d → (values : List Rational) (c : ℕ) → c < length d.spots → is_basic (places d c) ≡ false
    → held_at (map (holding values) d.outside) c ≡ value_in values c
held_outside d known values c below out = by_spot (spot_of d c) refl
  where
    by_spot : (s : Spot) → spot_of d c ≡ s → held_at (map (holding values) d.outside) c ≡ value_in values c
    by_spot (spot.Row i) e = absurd (false≢true (sym out ∙ ap (λ s. is_basic (place_of s)) e))
    by_spot (spot.Slot j) e = let at : IsSpot d c (spot.Slot j) = subst (IsSpot d c) e (known.columns c below) in held_listed values d.outside j c at.0 at.1

-- ---- all bounds are met

one_of : (x y : Bound) → Some x ≡ Some y → x ≡ y
one_of x y e = ap (value x) e
  where
    value : Bound → Option Bound → Bound
    value d None = d
    value d (Some z) = z

met_at : (width : ℕ) (v : Point) (bounds : List Bound) (k : ℕ) (b : Bound) → are_met width v bounds ≡ true → slice_get bounds k ≡ Some b → not (is_broken width v b) ≡ true
met_at width v [] k b h e = absurd (no_less k (slice_get_within [] k b e))
  where
    no_less : (i : ℕ) → i < 0 → ⊥
    no_less i h = omega arith
met_at width v (x ∷ bounds) zero b h e = ap (λ (y : Bound). not (is_broken width v y)) (sym (one_of x b e)) ∙ and_left _ _ h
met_at width v (x ∷ bounds) (suc k) b h e = met_at width v bounds k b (and_right _ _ h) e

pub met_meets : (width : ℕ) (v : Point) (bounds : List Bound) → are_met width v bounds ≡ true → Meets (limits_of width bounds) v
met_meets width v bounds all c = false_of _ (λ h. broken_not h)
  where
    broken_not : is_out (limits_of width bounds) v c ≡ true → ⊥
    broken_not h =
        let b = out_breaks (limits_of width bounds) v c h in
        let r = is_rows width bounds c b.side b.bound b.bound_is in
        let i = is_in bounds (c - width) b.side b.bound r.bound in
        false≢true (sym (not_true (is_broken width v i.bound) (met_at width v bounds i.place i.bound all i.there))
        ∙ ap (λ n. breaks i.bound.side i.bound.value (v n)) (ap (λ n. width + n) i.row ∙ r.at) ∙ ap₂ (λ (s : Side) (x : Rational). breaks s x (v c)) i.on i.value ∙ b.breaks)

module _ (s : State) (ids : List TermId) (trail : Trail) (known_met capacity : ℕ) (k : IsKept s ids trail known_met capacity) (form : IsDictionary s.form) where
  abbrev rows : Rows
  rows = rows_in s

  abbrev start : Start
  start = start_of s.bounds s.form s.values

  pub sets_out : SetsOut rows start s.form s.values
  sets_out = record {
    form = form;
    solved = k.tableau.solved;
    spots = k.tableau.spots;
    width = k.tableau.width;
    count = k.tableau.count;
    solution = k.tableau.solution;
    parts = k.tableau.parts;
    bounds = k.tableau.bounds;
    basis = refl;
    held = λ c below out. held_outside s.form form s.values c (subst (λ (n : ℕ). c < n) (sym k.tableau.spots) below) out;
  }

  -- ---- how it ends

  -- the state then
  abbrev ended : Dictionary → List Rational → List Multiple → EvidenceValue → Checked → State
  ended new after combination e answer = record {
    forms = s.forms;
    trail = s.trail;
    pivots = s.pivots;
    bounds = s.bounds;
    form = new;
    values = after;
    answer = Some answer;
    combination = combination;
    evidence = e;
  }

  pub record HasEnded (new : Dictionary) (after : List Rational) (combination : List Multiple) (e : EvidenceValue) (answer : Checked) : Type 0 where
    pub stands : Stands rows start s.form new s.values after
    pub means : Means answer s (ended new after combination e answer)
    pub room : e.room ≡ s.evidence.room

  -- the basis of the start is that of the kept form
  basis_at : (c : ℕ) → is_basic (basis_of s.form.basic c) ≡ is_basic (places s.form c)
  basis_at c = ap is_basic (basis_is rows start s.form s.values sets_out c) ∙ by_basic (is_basic (places s.form c))
    where
      by_basic : (b : Bool) → is_basic (if b then Basic else Held) ≡ b
      by_basic true = refl
      by_basic false = refl

  begins_with : (x : Start) → x ≡ start → BeginsWith s x
  begins_with x is = record {
    bounds = ap (λ y. y.bounds) is;
    basis = ap (λ y. y.basis) is;
    in_basis = λ c. ap (λ (y : Start). is_basic (basis_of y.basis c)) is ∙ basis_at c;
    held = λ c below out. ap (λ (y : Start). held_at y.held c) is ∙ sets_out.held c below out;
  }

  goes_form : (limits : Limits) (values : List Rational) (made : List _) (here : Dictionary) (now : List Rational) → Goes limits s.form values made here now → IsDictionary here
  goes_form limits values _ _ _ begins = form
  goes_form limits values _ _ _ (steps made here now chosen entry next after g gone) = gone.new_form

  -- a row that is being tested does not count
  same_stands : (here : Dictionary) (after : List Rational) (solved : List Rational) → Stands rows start s.form here s.values after → Stands rows start s.form (with_solved here solved) s.values after
  same_stands here after solved st = record {
    solved = st.solved;
    spots = st.spots;
    width = st.width;
    count = st.count;
    solution = st.solution;
    parts = st.parts;
    rests = λ c below out. same_rests c (st.rests c below out);
  }
    where
      same_rests : (c : ℕ) → arrivals.Rests (limits rows start.bounds) s.form here s.values after c → arrivals.Rests (limits rows start.bounds) s.form (with_solved here solved) s.values after c
      same_rests c (arrivals.as_before h e) = arrivals.as_before h e
      same_rests c (arrivals.at_bound side e) = arrivals.at_bound side e

  -- the kept basis
  keeps_steps : (here : Dictionary) (after : List Rational) (e : EvidenceValue) → IsUnderway rows start e.steps here after → e.start ≡ start
      → (c : ℕ) → c < columns rows → is_basic (places here c) ≡ in_basis_after (λ y. is_basic (basis_of e.start.basis y)) e.steps c
  keeps_steps here after e u is c below =
      underway_basis rows start e.steps here after u c below ∙ ap (λ (x : Start). in_basis_after (λ y. is_basic (basis_of x.basis y)) e.steps c) (sym is)

  stopped : (here : Dictionary) (new : Dictionary) (after : List Rational) (combination : List Multiple) (e : EvidenceValue) (answer : Checked) → IsUnderway rows start e.steps here after
      → IsDictionary here → e.start ≡ start → e.room ≡ s.evidence.room → Stops (limits rows s.bounds) here after new combination e answer → HasEnded new after combination e answer
  stopped here new after combination e _ u here_form start_is room (met none is) = record {
    stands = subst (λ (d : Dictionary). Stands rows start s.form d s.values after) (sym is) (underway_stands rows start s.form s.values sets_out e.steps here after u);
    means = none_leaves_meets rows start e.steps here after u k.tableau.bounds none;
    room = room;
  }
  stopped here new after combination e _ u here_form start_is room (stuck chosen is_stuck combined is) = record {
    stands = subst (λ (d : Dictionary). Stands rows start s.form d s.values after) (sym is) (underway_stands rows start s.form s.values sets_out e.steps here after u);
    means = subst (IsContradiction rows s.bounds) (sym combined) (stuck_is_contradiction rows start e.steps here after u here_form chosen is_stuck);
    room = room;
  }
  stopped here new after combination e _ u here_form start_is room (wide next unfit is) = record {
    stands = subst (λ (d : Dictionary). Stands rows start s.form d s.values after) (sym is)
        (same_stands here after new.solved (underway_stands rows start s.form s.values sets_out e.steps here after u));
    means = record {
      begins = begins_with e.start start_is;
      wide = subst (λ (x : Start). IsWide rows x e.steps e.operation) (sym start_is) (step_is_wide rows start e.steps here after u here_form k.tableau.bounds e.operation next unfit);
      kept = λ c below. ap (λ (d : Dictionary). is_basic (places d c)) is ∙ keeps_steps here after e u start_is c below;
    };
    room = room;
  }
  stopped here new after combination e _ u here_form start_is room (full chosen entry found all none is) = record {
    stands = subst (λ (d : Dictionary). Stands rows start s.form d s.values after) (sym is) (underway_stands rows start s.form s.values sets_out e.steps here after u);
    means = record {
      begins = begins_with e.start start_is;
      unfinished = subst (λ (x : Start). IsUnfinished rows x e.steps s.pivots) (sym start_is)
          (step_is_unfinished rows start e.steps here after u here_form chosen entry found s.pivots (all ∙ ap (λ r. r.steps) (room ∙ k.room_is)));
      kept = λ c below. ap (λ (d : Dictionary). is_basic (places d c)) is ∙ keeps_steps here after e u start_is c below;
      operation = none;
    };
    room = room;
  }

  arrived : (now : List Rational) (new : Dictionary) (after : List Rational) (combination : List Multiple) (e : EvidenceValue) (answer : Checked)
      → ArePlaced (limits rows s.bounds) s.form s.values (length s.form.outside) now
      → Arrives (limits rows s.bounds) s.form now (begun s.evidence.room s.bounds s.form s.values) new after combination e answer → HasEnded new after combination e answer
  arrived now new after combination e answer placed a =
      stopped a.here new after combination e answer (goes_underway rows start s.form s.values sets_out now placed e.steps a.here after a.goes)
      (goes_form (limits rows s.bounds) now e.steps a.here after a.goes) a.start_is a.room_is a.stops

  pub ends : (new : Dictionary) (after : List Rational) (combination : List Multiple) (e : EvidenceValue) (answer : Checked)
      → Ends (limits_of (length s.form.outside) s.bounds) s.form s.values (begun s.evidence.room s.bounds s.form s.values) new after combination e answer
      → HasEnded new after combination e answer
  ends new after combination e answer h =
      by_end answer (subst (λ (n : ℕ). Ends (limits_of n s.bounds) s.form s.values (begun s.evidence.room s.bounds s.form s.values) new after combination e answer) k.tableau.width h)
    where
      by_end : (a : Checked) → Ends (limits rows s.bounds) s.form s.values (begun s.evidence.room s.bounds s.form s.values) new after combination e a → HasEnded new after combination e a
      by_end _ (arriving now a placed arrives) = arrived now new after combination e a placed arrives
      by_end _ (placing p form_is e_is) = record {
        stands = subst (λ (d : Dictionary). Stands rows start s.form d s.values after) (sym form_is) (placed_stands rows start s.form s.values sets_out p.slot after p.placed);
        means = record {
          begins = begins_with e.start (ap (λ x. x.start) e_is);
          wide = subst (λ (x : EvidenceValue). IsWide rows x.start x.steps e.operation) (sym e_is)
              (placing_is_wide rows start s.form s.values sets_out p.slot after p.placed p.inside e.operation p.refused p.unfit);
          kept = λ c below. ap (λ (d : Dictionary). is_basic (places d c)) form_is ∙ sym (basis_at c)
              ∙ sym (ap (λ (x : EvidenceValue). in_basis_after (λ y. is_basic (basis_of x.start.basis y)) x.steps c) e_is);
        };
        room = ap (λ x. x.room) e_is;
      }

  -- the same for values that are equal
  pub ends_as : (new : Dictionary) (before items after : List Rational) (combination : List Multiple) (e : EvidenceValue) (answer : Checked) → before ≡ s.values → items ≡ after
      → Ends (limits_of (length s.form.outside) s.bounds) s.form before (begun s.evidence.room s.bounds s.form before) new after combination e answer
      → HasEnded new items combination e answer
  ends_as new before items after combination e answer b_is i_is h =
      subst (λ (v : List Rational). HasEnded new v combination e answer) (sym i_is)
      (ends new after combination e answer
      (subst (λ (v : List Rational). Ends (limits_of (length s.form.outside) s.bounds) s.form v (begun s.evidence.room s.bounds s.form v) new after combination e answer) b_is h))

  pub rows_in_basis : trail.rows ≡ length s.form.basic
  rows_in_basis = counts (length s.form.spots) (length s.form.outside) (length s.form.basic) rows.parts (length s.forms) trail.rows form.count k.tableau.spots k.tableau.width k.rows_are
    where
      counts : (n o b p f r : ℕ) → n ≡ o + b → n ≡ p + f → o ≡ p → r ≡ f → r ≡ b
      counts n o b p f r h g e i = omega (arith, h, g, e, i)

  pub basis_fits : length s.form.basic ≤ capacity
  basis_fits = fits_in (length s.forms) trail.rows (length s.form.basic) capacity k.rows_are rows_in_basis k.combination_room
    where
      fits_in : (f r b c : ℕ) → r ≡ f → r ≡ b → f ≤ c → b ≤ c
      fits_in f r b c h g e = omega (arith, h, g, e)

  pub basis_recorded : length s.form.basic ≤ s.evidence.room.basis
  basis_recorded = fits_in (length s.forms) trail.rows (length s.form.basic) s.evidence.room.basis k.rows_are rows_in_basis (ap (λ r. r.basis) k.room_is)
    where
      fits_in : (f r b c : ℕ) → r ≡ f → r ≡ b → c ≡ f → b ≤ c
      fits_in f r b c h g e = omega (arith, h, g, e)

  -- ---- what is kept, and what is promised

  pub ended_keeps : (new : Dictionary) (after : List Rational) (combination : List Multiple) (e : EvidenceValue) (answer : Checked) (more : ℕ) → HasEnded new after combination e answer
      → capacity ≤ more → IsKept (ended new after combination e answer) ids trail 0 more
  ended_keeps new after combination e answer more h longer = record {
    tableau = record {
      few_columns = k.tableau.few_columns;
      few_pivots = k.tableau.few_pivots;
      few_bounds = k.tableau.few_bounds;
      bounds = k.tableau.bounds;
      solved = h.stands.solved;
      spots = h.stands.spots;
      width = h.stands.width;
      count = h.stands.count;
      solution = h.stands.solution;
      parts = h.stands.parts;
    };
    ids_are = k.ids_are;
    rows_are = k.rows_are;
    room_is = h.room ∙ k.room_is;
    combination_room = trans (length s.forms) capacity more k.combination_room longer;
    within = omega arith;
    known = refl;
  }
    where
      trans : (a b c : ℕ) → a ≤ b → b ≤ c → a ≤ c
      trans a b c h g = omega arith

  pub ended_checks : (new : Dictionary) (after : List Rational) (combination : List Multiple) (e : EvidenceValue) (answer : Checked) → HasEnded new after combination e answer
      → IsChecked s (ended new after combination e answer) answer
  ended_checks new after combination e answer h = record {
    forms = refl;
    trail = refl;
    pivots = refl;
    bounds = refl;
    answered = refl;
    rests = λ c below out. rests_in c (h.stands.rests c below out);
    means = h.means;
  }
    where
      rests_in : (c : ℕ) → arrivals.Rests (limits rows s.bounds) s.form new s.values after c → checks.Rests s (ended new after combination e answer) c
      rests_in c (arrivals.as_before h e) = checks.as_before h e
      rests_in c (arrivals.at_bound side e) = checks.at_bound side e

  -- ---- where all bounds are met as it is

  abbrev found : State
  found = record s { answer = Some Feasible }

  pub found_keeps : (n : ℕ) → n ≡ length s.bounds → are_met (length s.form.outside) (kept_point s) s.bounds ≡ true → IsKept found ids trail n capacity
  found_keeps n n_is all = record {
    tableau = record {
      few_columns = k.tableau.few_columns;
      few_pivots = k.tableau.few_pivots;
      few_bounds = k.tableau.few_bounds;
      bounds = k.tableau.bounds;
      solved = k.tableau.solved;
      spots = k.tableau.spots;
      width = k.tableau.width;
      count = k.tableau.count;
      solution = k.tableau.solution;
      parts = k.tableau.parts;
    };
    ids_are = k.ids_are;
    rows_are = k.rows_are;
    room_is = k.room_is;
    combination_room = k.combination_room;
    within = at_most n (length s.bounds) n_is;
    known = ap (are_met rows.parts (kept_point s)) (take_all n s.bounds (at_least n (length s.bounds) n_is)) ∙ ap (λ w. are_met w (kept_point s) s.bounds) (sym k.tableau.width) ∙ all;
  }
    where
      at_most : (a b : ℕ) → a ≡ b → a ≤ b
      at_most a b e = omega (arith, e)

      at_least : (a b : ℕ) → a ≡ b → b ≤ a
      at_least a b e = omega (arith, e)

  pub found_checks : are_met (length s.form.outside) (kept_point s) s.bounds ≡ true → IsChecked s found Feasible
  found_checks all = record {
    forms = refl;
    trail = refl;
    pivots = refl;
    bounds = refl;
    answered = refl;
    rests = λ c below out. checks.as_before out refl;
    means = subst (λ (n : ℕ). Meets (limits_of n s.bounds) (kept_point s)) k.tableau.width (met_meets (length s.form.outside) (kept_point s) s.bounds all);
  }

-- ---- the bounds that were ever asserted

-- a bound that stands is among those that were asserted
bound_of_limit : (s : State) (asserted : List Bound) → ((place : ℕ) (b : Bound) → slice_get s.bounds place ≡ Some b → IsAmong asserted b) → (i : ℕ) (side : Side) (x : Rational)
    → limits (rows_in s) s.bounds (column_of (rows_in s) i) side ≡ Some x → IsBoundOf asserted i x
bound_of_limit s asserted standing i side x h =
    let b = is_in s.bounds i side x (sym (limit_here (rows_in s).parts s.bounds i side) ∙ h) in
    let a = standing b.place b.bound b.there in
    record { place = a.place; bound = b.bound; there = a.there; row = b.row; same = b.value }

pub checks_hold : (old new : State) (answer : Checked) → IsChecked old new answer → IsTableau new → (asserted : List Bound) → HoldsAsserted asserted old → HoldsAsserted asserted new
checks_hold old new answer c t asserted h = record {
  standing = λ place b there. h.standing place b (ap (λ bounds. slice_get bounds place) (sym c.bounds) ∙ there);
  held = record { parts = t.parts; row_columns = row_columns };
}
  where
    more : (p i n : ℕ) → i < n → p + i < p + n
    more p i n h = omega arith

    old_columns : (i : ℕ) → i < (rows_in old).count → is_basic (places new.form (column_of (rows_in old) i)) ≡ false → IsBoundOf asserted i (kept_point new (column_of (rows_in old) i))
    old_columns i below out = by_rests (c.rests (column_of (rows_in old) i) (more (rows_in old).parts i (rows_in old).count below) out)
      where
        by_rests : checks.Rests old new (column_of (rows_in old) i) → IsBoundOf asserted i (kept_point new (column_of (rows_in old) i))
        by_rests (checks.as_before e f) = subst (IsBoundOf asserted i) (sym f) (h.held.row_columns i below e)
        by_rests (checks.at_bound side e) = bound_of_limit old asserted h.standing i side (kept_point new (column_of (rows_in old) i)) e

    row_columns : (i : ℕ) → i < (rows_in new).count → is_basic (places new.form (column_of (rows_in new) i)) ≡ false → IsBoundOf asserted i (kept_point new (column_of (rows_in new) i))
    row_columns =
        subst (λ (f : List IdForm). (i : ℕ) → i < (rows_of f).count → is_basic (places new.form (column_of (rows_of f) i)) ≡ false → IsBoundOf asserted i (kept_point new (column_of (rows_of f) i)))
        (sym c.forms) old_columns

pub checks_as : (s now new : State) (answer : Checked) → s ≡ now → IsChecked s new answer → IsChecked now new answer
checks_as s now new answer e c = subst (λ (t : State). IsChecked t new answer) e c
