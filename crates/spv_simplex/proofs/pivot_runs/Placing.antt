-- Columns outside the basis that have moved into their bounds.
use Rattle.std.proofs.Common.{◌≡◌, ℕ, zero, suc, ◌<◌, ◌≤◌, Bool, true, false, List, [], ◌∷◌, length, Option, Some, None, ◌⊎◌, inl, inr, nat_eq, nat_lt, slice_index_or, refl, sym, ap, ◌∙◌, subst, arith, if◌then◌else◌}
use Rattle.std.specs.List.{list_any}
use Rattle.std.proofs.lemmas.Bool.{false≢true}
use Rattle.std.proofs.lemmas.Bool.Decides.{nat_tests}
use mathlib.Core.Path.{ap₂}
use Rattle.spv_frac.specs.rational.Rational.{Rational, times}
use Rattle.spv_frac.specs.declared.frac.Op.TheVariants.{Add, Sub, Mul, Cmp}
use Rattle.spv_tableau_rules.specs.declared.tableaux.side.Side.{Side}
use Rattle.spv_tableau_rules.specs.declared.tableaux.side.Side.TheVariants.{Lower, Upper}
use Rattle.spv_tableau_rules.specs.tableaux.Numbers.{minus}
use Rattle.spv_tableau_rules.specs.tableaux.Rows.{Rows, columns, Point}
use Rattle.spv_tableau_rules.specs.tableaux.Bounds.{Limits, limits, breaks, breaks_limit}
use Rattle.spv_tableau_rules.specs.tableaux.Solved.{Place, Basic, Held, At, Places, is_basic, basis_of, Entries, point, at_rest, resting}
use Rattle.spv_tableau_rules.specs.tableaux.Steps.{placed_inside, inside, inside_of}
use Rattle.spv_tableau_rules.specs.tableaux.Operations as operations
use Rattle.spv_tableau_rules.specs.tableaux.Operations.{Operation, operation, fits, Compares, comparing, Moves}
use Rattle.spv_tableau_rules.specs.tableaux.Walks as walks
use Rattle.spv_tableau_rules.specs.tableaux.Walks.{Start, held_at, AreMoved, Moment, IsWide}
use Rattle.spv_tableau_rules.specs.pivots.Moved.{placed, as_held}
use Rattle.spv_tableau_rules.proofs.pivots.Points.{point_outside}
use Rattle.spv_tableau_rules.proofs.pivots.Stepping.{basis_alone, held_point}
use Rattle.spv_tableau_rules.proofs.pivots.Sums.{eq_is, eq_self}
use Rattle.spv_dictionary.specs.declared.spot.Spot.{Spot}
use Rattle.spv_dictionary.specs.declared.spot.Spot.TheVariants as spot
use Rattle.spv_dictionary.specs.Dictionary as form
use Rattle.spv_dictionary.specs.Dictionary.{Dictionary, IsDictionary, IsSpot, spot_of, basic_at, outside_at, entry_between, entries, place_of}
use Rattle.spv_dictionary.specs.updates.Shifts as shifts
use Rattle.spv_dictionary.specs.updates.Shifts.{value_in, entry_in, IsGoing, IsRowGoing}
use Rattle.spv_dictionary.specs.pivoting.Choosing.{broken_side, out_side}
use Rattle.spv_dictionary.specs.pivoting.Moving as moving
use Rattle.spv_dictionary.specs.pivoting.Moving.{way_to, IsMoving}
use Rattle.spv_simplex.specs.pivot_runs.Along.{IsAt}
use Rattle.spv_simplex.specs.pivot_runs.Derivation.{IsPlaced, stays, moves, IsPlacing, compares, moving, ArePlaced, none, more}
use Rattle.spv_simplex.specs.pivot_runs.Arrivals.{SetsOut, PlacingIsWide}
use Rattle.spv_simplex.proofs.pivot_runs.Agreeing.{point_same, at_same}
use Rattle.spv_simplex.proofs.pivot_runs.Going.{moved_is_at}
use Rattle.spv_simplex.proofs.pivot_runs.Ranges.{limit_in}

-- ---- the basis as a list

any_at : (xs : List ℕ) (i c : ℕ) → i < length xs → slice_index_or xs i 0 ≡ c → list_any (nat_eq c) xs ≡ true
any_at [] i c h e = absurd (no_less i h)
  where
    no_less : (i : ℕ) → i < 0 → ⊥
    no_less i h = omega arith
any_at (x ∷ xs) zero c h e = rw (ap (nat_eq c) e ∙ eq_self c) refl
any_at (x ∷ xs) (suc i) c h e = or_true (any_at xs i c (less i (length xs) h) e) (nat_eq c x) refl
  where
    less : (i n : ℕ) → suc i < suc n → i < n
    less i n h = omega arith

    or_true : list_any (nat_eq c) xs ≡ true → (b : Bool) → nat_eq c x ≡ b → list_any (nat_eq c) (x ∷ xs) ≡ true
    or_true k true f = rw f refl
    or_true k false f = rw f k

pub record IsListed (xs : List ℕ) (c : ℕ) : Type 0 where
  pub place : ℕ
  pub inside : place < length xs
  pub there : slice_index_or xs place 0 ≡ c

listed_at : (xs : List ℕ) (c : ℕ) → list_any (nat_eq c) xs ≡ true → IsListed xs c
listed_at [] c h = absurd (false≢true h)
listed_at (x ∷ xs) c h = by_case (listed_at xs c) (nat_eq c x) refl
  where
    rest : nat_eq c x ≡ false → list_any (nat_eq c) xs ≡ true
    rest e = sym (rw e refl) ∙ h

    first : 0 < suc (length xs)
    first = omega arith

    less : (i n : ℕ) → i < n → suc i < suc n
    less i n h = omega arith

    by_case : (list_any (nat_eq c) xs ≡ true → IsListed xs c) → (b : Bool) → nat_eq c x ≡ b → IsListed (x ∷ xs) c
    by_case tail true e = record { place = 0; inside = first; there = sym (eq_is c x e) }
    by_case tail false e = let r = tail (rest e) in record { place = suc r.place; inside = less r.place (length xs) r.inside; there = r.there }

spot_past : (d : Dictionary) (c : ℕ) → length d.spots ≤ c → spot_of d c ≡ spot.Slot 0
spot_past d c h = past d.spots c h
  where
    past : (xs : List Spot) (i : ℕ) → length xs ≤ i → slice_index_or xs i (spot.Slot 0) ≡ spot.Slot 0
    past [] i h = refl
    past (x ∷ xs) zero h = absurd (none (length xs) h)
      where
        none : (n : ℕ) → suc n ≤ 0 → ⊥
        none n h = omega arith
    past (x ∷ xs) (suc i) h = past xs i (less (length xs) i h)
      where
        less : (n i : ℕ) → suc n ≤ suc i → n ≤ i
        less n i h = omega arith

basic_not_slot : (j : ℕ) → is_basic (place_of (spot.Slot j)) ≡ true → ⊥
basic_not_slot j h = false≢true h

-- the columns that the dictionary lists as its basis are in the basis
pub listed_basis : (d : Dictionary) → IsDictionary d → (c : ℕ) → list_any (nat_eq c) d.basic ≡ is_basic (form.places d c)
listed_basis d known c = by_any (list_any (nat_eq c) d.basic) refl (spot_of d c) refl
  where
    by_inside : (i : ℕ) → spot_of d c ≡ spot.Row i → (b : Bool) → nat_lt c (length d.spots) ≡ b → list_any (nat_eq c) d.basic ≡ true
    by_inside i s true b = let at : IsSpot d c (spot.Row i) = subst (IsSpot d c) s (known.columns c (below c (length d.spots) b)) in any_at d.basic i c at.0 at.1
      where
        below : (c n : ℕ) → nat_lt c n ≡ true → c < n
        below c n h = grind (arith, nat_tests)
    by_inside i s false b = absurd (basic_not_slot 0 (ap (λ p. is_basic (place_of p)) (sym (spot_past d c (past c (length d.spots) b)) ∙ s)))
      where
        past : (c n : ℕ) → nat_lt c n ≡ false → n ≤ c
        past c n h = grind (arith, nat_tests)

    by_any : (b : Bool) → list_any (nat_eq c) d.basic ≡ b → (s : Spot) → spot_of d c ≡ s → list_any (nat_eq c) d.basic ≡ is_basic (form.places d c)
    by_any true e s h =
        let r = listed_at d.basic c e in
        e ∙ sym (ap (λ p. is_basic (place_of p)) (ap (spot_of d) (sym r.there) ∙ (known.rows r.place r.inside).1))
    by_any false e (spot.Row i) h = absurd (false≢true (sym e ∙ by_inside i h (nat_lt c (length d.spots)) refl))
    by_any false e (spot.Slot j) h = e ∙ sym (ap (λ p. is_basic (place_of p)) h)

-- ---- places of columns that have moved, up to a slot

abbrev pub moved_spot : Limits → Point → ℕ → ℕ → Spot → Place
moved_spot limits held n c (spot.Row i) = Basic
moved_spot limits held n c (spot.Slot j) = if nat_lt j n then placed_inside limits held c else Held

abbrev pub moved_to : Limits → Point → Dictionary → ℕ → Places
moved_to limits held d n c = moved_spot limits held n c (spot_of d c)

pub inside_not_basic : (limits : Limits) (held : Point) (c : ℕ) → is_basic (placed_inside limits held c) ≡ false
inside_not_basic limits held c = by_cases (breaks_limit Lower (limits c Lower) (held c)) (breaks_limit Upper (limits c Upper) (held c))
  where
    by_cases : (a b : Bool) → is_basic (if a then At Lower else if b then At Upper else Held) ≡ false
    by_cases true b = refl
    by_cases false true = refl
    by_cases false false = refl

moved_basic : (limits : Limits) (held : Point) (n c : ℕ) (s : Spot) → is_basic (moved_spot limits held n c s) ≡ is_basic (place_of s)
moved_basic limits held n c (spot.Row i) = refl
moved_basic limits held n c (spot.Slot j) = by_case (nat_lt j n)
  where
    by_case : (b : Bool) → is_basic (if b then placed_inside limits held c else Held) ≡ false
    by_case true = inside_not_basic limits held c
    by_case false = refl

-- what breaks no side is inside, and what breaks one goes to its bound
inside_stays : (l u : Option Rational) (v : Rational) → broken_side l u v ≡ None → (if breaks_limit Lower l v then At Lower else if breaks_limit Upper u v then At Upper else Held) ≡ Held
inside_stays l u v h = by_cases (breaks_limit Lower l v) (breaks_limit Upper u v) h
  where
    some≢none : (s : Side) → Some s ≡ None → ⊥
    some≢none s e = false≢true (ap is_empty e)
      where
        is_empty : Option Side → Bool
        is_empty None = true
        is_empty (Some y) = false

    by_cases : (a b : Bool) → (if a then Some Lower else if b then Some Upper else None) ≡ None → (if a then At Lower else if b then At Upper else Held) ≡ Held
    by_cases true b h = absurd (some≢none Lower h)
    by_cases false true h = absurd (some≢none Upper h)
    by_cases false false h = refl

inside_goes : (l u : Option Rational) (v : Rational) (side : Side) → broken_side l u v ≡ Some side
    → (if breaks_limit Lower l v then At Lower else if breaks_limit Upper u v then At Upper else Held) ≡ At side
inside_goes l u v side h = by_cases (breaks_limit Lower l v) (breaks_limit Upper u v) h
  where
    side_is : (s : Side) → Some s ≡ Some side → s ≡ side
    side_is s e = ap (λ o. value o) e
      where
        value : Option Side → Side
        value None = side
        value (Some y) = y

    none≢side : None ≡ Some side → ⊥
    none≢side e = false≢true (sym (ap is_empty e))
      where
        is_empty : Option Side → Bool
        is_empty None = true
        is_empty (Some y) = false

    by_cases : (a b : Bool) → (if a then Some Lower else if b then Some Upper else None) ≡ Some side → (if a then At Lower else if b then At Upper else Held) ≡ At side
    by_cases true b h = ap At (side_is Lower h)
    by_cases false true h = ap At (side_is Upper h)
    by_cases false false h = absurd (none≢side h)

broken_breaks : (limits : Limits) (v : Point) (c : ℕ) (side : Side) → out_side limits v c ≡ Some side → breaks_limit side (limits c side) (v c) ≡ true
broken_breaks limits v c side h = by_cases (breaks_limit Lower (limits c Lower) (v c)) refl (breaks_limit Upper (limits c Upper) (v c)) refl h
  where
    side_is : (s : Side) → Some s ≡ Some side → s ≡ side
    side_is s e = ap (λ o. value o) e
      where
        value : Option Side → Side
        value None = side
        value (Some y) = y

    none≢side : None ≡ Some side → ⊥
    none≢side e = false≢true (sym (ap is_empty e))
      where
        is_empty : Option Side → Bool
        is_empty None = true
        is_empty (Some y) = false

    by_cases : (a : Bool) → breaks_limit Lower (limits c Lower) (v c) ≡ a → (b : Bool) → breaks_limit Upper (limits c Upper) (v c) ≡ b
        → (if a then Some Lower else if b then Some Upper else None) ≡ Some side → breaks_limit side (limits c side) (v c) ≡ true
    by_cases true e b f h = subst (λ (s : Side). breaks_limit s (limits c s) (v c) ≡ true) (side_is Lower h) e
    by_cases false e true f h = subst (λ (s : Side). breaks_limit s (limits c s) (v c) ≡ true) (side_is Upper h) f
    by_cases false e false f h = absurd (none≢side h)

module _ (rows : Rows) (start : Start) (d : Dictionary) (before : List Rational) (out : SetsOut rows start d before) where
  abbrev l : Limits
  l = limits rows start.bounds

  abbrev held : Point
  held = held_at start.held

  abbrev t : Entries
  t = entries d

  in_spots : (c : ℕ) → c < columns rows → c < length d.spots
  in_spots c h = subst (λ (n : ℕ). c < n) (sym out.spots) h

  in_columns : (c : ℕ) → c < length d.spots → c < columns rows
  in_columns c h = subst (λ (n : ℕ). c < n) out.spots h

  basis_same : (n c : ℕ) → is_basic (moved_to l held d n c) ≡ is_basic (form.places d c)
  basis_same n c = moved_basic l held n c (spot_of d c)

  -- at first, all hold what they hold
  begins_at : IsAt rows l held (moved_to l held d 0) d before
  begins_at = record {
    solved = basis_alone rows (form.places d) (moved_to l held d 0) t (λ c h. basis_same 0 c) out.solved;
    spots = out.spots;
    basis = λ c h. sym (basis_same 0 c);
    count = out.count;
    point_is = λ c h. held_point rows l (form.places d) t (value_in before) out.solved out.solution c h
        ∙ point_same rows l (value_in before) held (as_held (form.places d)) (moved_to l held d 0) t (λ x k. held_basis (spot_of d x) x) (λ x k. rest x k (spot_of d x) refl) c h;
  }
    where
      none_less : (j : ℕ) → nat_lt j 0 ≡ false
      none_less j = grind (arith, nat_tests)

      held_basis : (s : Spot) (x : ℕ) → is_basic (if is_basic (place_of s) then Basic else Held) ≡ is_basic (moved_spot l held 0 x s)
      held_basis (spot.Row i) x = refl
      held_basis (spot.Slot j) x = sym (ap (λ b. is_basic (if b then placed_inside l held x else Held)) (none_less j))

      rest : (x : ℕ) → x < columns rows → (s : Spot) → spot_of d x ≡ s → at_rest l (value_in before) (as_held (form.places d)) x ≡ at_rest l held (moved_to l held d 0) x
      rest x k (spot.Row i) e = rw e refl
      rest x k (spot.Slot j) e =
          ap (resting l (value_in before) x) (ap (λ s. if is_basic (place_of s) then Basic else Held) e) ∙ sym (out.held x k (ap (λ s. is_basic (place_of s)) e))
          ∙ sym (ap (resting l held x) (ap (moved_spot l held 0 x) e ∙ ap (λ b. if b then placed_inside l held x else Held) (none_less j)))

  -- the places, slot by slot
  same_at : (n m : ℕ) → m ≡ suc n → (p : Place) → placed_inside l held (outside_at d n) ≡ p → n < length d.outside
      → (c : ℕ) → c < columns rows → placed (moved_to l held d n) (outside_at d n) p c ≡ moved_to l held d m c
  same_at n m is p inside_is n_in c c_in = by_spot (spot_of d c) refl
    where
      by_row : (i : ℕ) → spot_of d c ≡ spot.Row i → (b : Bool) → nat_eq c (outside_at d n) ≡ b → (if b then p else moved_to l held d n c) ≡ moved_to l held d m c
      by_row i s true e =
          absurd (basic_not_slot n (ap (λ q. is_basic (place_of q)) (sym (known_slot) ∙ ap (spot_of d) (sym (eq_is c (outside_at d n) e)) ∙ s)))
        where
          known_slot : spot_of d (outside_at d n) ≡ spot.Slot n
          known_slot = (out.form.slots n n_in).1
      by_row i s false e = ap (moved_spot l held n c) s ∙ sym (ap (moved_spot l held m c) s)

      same_test : (j n m : ℕ) → m ≡ suc n → nat_eq j n ≡ false → nat_lt j n ≡ nat_lt j m
      same_test j n m h e = grind (arith, nat_tests)

      last_test : (j n m : ℕ) → m ≡ suc n → j ≡ n → nat_lt j m ≡ true
      last_test j n m h e = grind (arith, nat_tests)

      slot_number : Spot → ℕ
      slot_number (spot.Row k) = k
      slot_number (spot.Slot k) = k

      by_slot : (j : ℕ) → spot_of d c ≡ spot.Slot j → (b : Bool) → nat_eq c (outside_at d n) ≡ b → (if b then p else moved_to l held d n c) ≡ moved_to l held d m c
      by_slot j s true e =
          let j_is : j ≡ n = ap slot_number (sym s ∙ ap (spot_of d) (eq_is c (outside_at d n) e) ∙ (out.form.slots n n_in).1) in
          sym (ap (moved_spot l held m c) s ∙ ap (λ b. if b then placed_inside l held c else Held) (last_test j n m is j_is) ∙ ap (placed_inside l held) (eq_is c (outside_at d n) e) ∙ inside_is)
      by_slot j s false e =
          ap (moved_spot l held n c) s ∙ ap (λ b. if b then placed_inside l held c else Held) (same_test j n m is (apart (nat_eq j n) refl)) ∙ sym (ap (moved_spot l held m c) s)
        where
          at : IsSpot d c (spot.Slot j)
          at = subst (IsSpot d c) s (out.form.columns c (in_spots c c_in))

          apart : (b : Bool) → nat_eq j n ≡ b → nat_eq j n ≡ false
          apart true f = absurd (false≢true (sym e ∙ ap (nat_eq c) (sym (ap (outside_at d) (eq_is j n f)) ∙ at.1) ∙ eq_self c))
          apart false f = f

      by_spot : (s : Spot) → spot_of d c ≡ s → placed (moved_to l held d n) (outside_at d n) p c ≡ moved_to l held d m c
      by_spot (spot.Row i) s = by_row i s (nat_eq c (outside_at d n)) refl
      by_spot (spot.Slot j) s = by_slot j s (nat_eq c (outside_at d n)) refl

  -- the column of the next slot still holds what it held
  next_held : (n : ℕ) → n < length d.outside → moved_to l held d n (outside_at d n) ≡ Held
  next_held n n_in = ap (moved_spot l held n (outside_at d n)) (out.form.slots n n_in).1 ∙ ap (λ b. if b then placed_inside l held (outside_at d n) else Held) (not_less n)
    where
      not_less : (n : ℕ) → nat_lt n n ≡ false
      not_less n = grind (arith, nat_tests)

  next_value : (n : ℕ) (now : List Rational) → n < length d.outside → IsAt rows l held (moved_to l held d n) d now → value_in now (outside_at d n) ≡ held (outside_at d n)
  next_value n now n_in at =
      at.point_is (outside_at d n) (in_columns (outside_at d n) (out.form.slots n n_in).0)
      ∙ point_outside rows l held (moved_to l held d n) t (outside_at d n) (ap is_basic (next_held n n_in))
      ∙ ap (resting l held (outside_at d n)) (next_held n n_in)

  placed_more : (n m : ℕ) (now after : List Rational) → n < length d.outside → m ≡ suc n → IsAt rows l held (moved_to l held d n) d now → IsPlaced l d now n after
      → IsAt rows l held (moved_to l held d m) d after
  placed_more n m now after n_in is at (stays out_is same) =
      subst (λ (v : List Rational). IsAt rows l held (moved_to l held d m) d v) (sym same)
      (at_same rows l held (moved_to l held d n) (moved_to l held d m) d now (λ c h. sym (unchanged c) ∙ same_at n m is Held held_is n_in c h) at)
    where
      held_is : placed_inside l held (outside_at d n) ≡ Held
      held_is = inside_stays (l (outside_at d n) Lower) (l (outside_at d n) Upper) (held (outside_at d n))
          (ap (broken_side (l (outside_at d n) Lower) (l (outside_at d n) Upper)) (sym (next_value n now n_in at)) ∙ out_is)

      unchanged : (c : ℕ) → placed (moved_to l held d n) (outside_at d n) Held c ≡ moved_to l held d n c
      unchanged c = by_case (nat_eq c (outside_at d n)) refl
        where
          by_case : (b : Bool) → nat_eq c (outside_at d n) ≡ b → (if b then Held else moved_to l held d n c) ≡ moved_to l held d n c
          by_case true e = sym (ap (moved_to l held d n) (eq_is c (outside_at d n) e) ∙ next_held n n_in)
          by_case false e = refl
  placed_more n m now after n_in is at (moves side bound out_is bound_is moved) =
      at_same rows l held (placed (moved_to l held d n) (outside_at d n) (At side)) (moved_to l held d m) d after (λ c h. same_at n m is (At side) at_is n_in c h)
      (moved_is_at rows l held (moved_to l held d n) d now n (outside_at d n) side bound after out.form at (in_columns (outside_at d n) (out.form.slots n n_in).0) (out.form.slots n n_in).1 bound_is moved)
    where
      at_is : placed_inside l held (outside_at d n) ≡ At side
      at_is = inside_goes (l (outside_at d n) Lower) (l (outside_at d n) Upper) (held (outside_at d n)) side
          (ap (broken_side (l (outside_at d n) Lower) (l (outside_at d n) Upper)) (sym (next_value n now n_in at)) ∙ out_is)

  pub placed_at : (n : ℕ) (values : List Rational) → ArePlaced l d before n values → IsAt rows l held (moved_to l held d n) d values
  placed_at n values none = begins_at
  placed_at m values (more n _ now _ p n_in step is) = placed_more n m now values n_in is (placed_at n now p) step

  -- ---- the places of the definition

  pub basis_is : (c : ℕ) → basis_of start.basis c ≡ (if is_basic (form.places d c) then Basic else Held)
  basis_is c = ap (λ b. if b then Basic else Held) (ap (list_any (nat_eq c)) out.basis ∙ listed_basis d out.form c)

  pub all_inside : (c : ℕ) → c < columns rows → moved_to l held d (length d.outside) c ≡ inside l held (basis_of start.basis) c
  all_inside c c_in = by_spot (spot_of d c) refl
    where
      below : (j n : ℕ) → j < n → nat_lt j n ≡ true
      below j n h = grind (arith, nat_tests)

      by_spot : (s : Spot) → spot_of d c ≡ s → moved_to l held d (length d.outside) c ≡ inside l held (basis_of start.basis) c
      by_spot (spot.Row i) s =
          ap (moved_spot l held (length d.outside) c) s ∙ sym (ap (inside_of l held c) (basis_is c ∙ ap (λ p. if is_basic (place_of p) then Basic else Held) s))
      by_spot (spot.Slot j) s =
          ap (moved_spot l held (length d.outside) c) s ∙ ap (λ b. if b then placed_inside l held c else Held) (below j (length d.outside) (subst (IsSpot d c) s (out.form.columns c (in_spots c c_in))).0)
          ∙ sym (ap (inside_of l held c) (basis_is c ∙ ap (λ p. if is_basic (place_of p) then Basic else Held) s))

  pub are_moved : (n : ℕ) → AreMoved l held (basis_of start.basis) (moved_to l held d n)
  are_moved n c = by_spot (spot_of d c) refl
    where
      Goal : Place → Type 0
      Goal p = (p ≡ basis_of start.basis c) ⊎ (p ≡ inside l held (basis_of start.basis) c)

      by_spot : (s : Spot) → spot_of d c ≡ s → Goal (moved_to l held d n c)
      by_spot (spot.Row i) s = inl (ap (moved_spot l held n c) s ∙ sym (basis_is c ∙ ap (λ p. if is_basic (place_of p) then Basic else Held) s))
      by_spot (spot.Slot j) s = by_test (nat_lt j n) refl
        where
          by_test : (b : Bool) → nat_lt j n ≡ b → Goal (moved_to l held d n c)
          by_test true e =
              inr (ap (moved_spot l held n c) s ∙ ap (λ b. if b then placed_inside l held c else Held) e
              ∙ sym (ap (inside_of l held c) (basis_is c ∙ ap (λ p. if is_basic (place_of p) then Basic else Held) s)))
          by_test false e =
              inl (ap (moved_spot l held n c) s ∙ ap (λ b. if b then placed_inside l held c else Held) e
              ∙ sym (basis_is c ∙ ap (λ p. if is_basic (place_of p) then Basic else Held) s))

  -- ---- an operation that does not fit

  pub wide : (n : ℕ) (values : List Rational) → ArePlaced l d before n values → n < length d.outside → (o : Operation) → IsPlacing l d values n o → fits o ≡ false → IsWide rows start [] o
  wide n values p n_in o is unfit = walks.moving moment o (are_moved n) (first is) unfit
    where
      at : IsAt rows l held (moved_to l held d n) d values
      at = placed_at n values p

      moment : Moment rows
      moment = record { places = moved_to l held d n; entries = t; solved = at.solved }

      w : Point
      w = point rows l held (moved_to l held d n) t

      c : ℕ
      c = outside_at d n

      c_in : c < columns rows
      c_in = in_columns c (out.form.slots n n_in).0

      value_is : value_in values c ≡ w c
      value_is = at.point_is c c_in

      compared : (x : Operation) → Compares l (value_in values) x → Compares l w x
      compared x (comparing e side bound bound_is) =
          subst (λ (y : Rational). Compares l w (operation Cmp y bound)) (sym (at.point_is e (limit_in rows start.bounds out.bounds e side bound bound_is))) (comparing e side bound bound_is)

      moving_is : (bound : Rational) (x : Operation) → IsMoving d values n bound x → Moves rows (moved_to l held d n) t w c bound x
      moving_is bound x (moving.distance e) =
          subst (Moves rows (moved_to l held d n) t w c bound) (sym (e ∙ ap (operation Sub bound) value_is)) operations.distance
      moving_is bound x (moving.going r) = by_going x r.going
        where
          b : ℕ
          b = basic_at d r.row

          b_in : b < columns rows
          b_in = in_columns b (out.form.rows r.row r.row_in).0

          b_basic : is_basic (moved_to l held d n b) ≡ true
          b_basic = basis_same n b ∙ ap (λ s. is_basic (place_of s)) (out.form.rows r.row r.row_in).1

          entry_is : entry_in d r.row n ≡ t b c
          entry_is = sym (ap₂ (entry_between d) (out.form.rows r.row r.row_in).1 (out.form.slots n n_in).1)

          way_is : way_to d values n bound ≡ minus bound (w c)
          way_is = ap (minus bound) value_is

          by_going : (x : Operation) → IsGoing (value_in values b) (way_to d values n bound) (entry_in d r.row n) x → Moves rows (moved_to l held d n) t w c bound x
          by_going x shifts.scaling =
              subst (Moves rows (moved_to l held d n) t w c bound) (sym (ap₂ (operation Mul) way_is entry_is)) (operations.scaling b b_in b_basic)
          by_going x shifts.adding =
              subst (Moves rows (moved_to l held d n) t w c bound) (sym (ap₂ (operation Add) (at.point_is b b_in) (ap₂ times way_is entry_is))) (operations.adding b b_in b_basic)

      first : IsPlacing l d values n o → operations.IsFirst rows l (moved_to l held d n) t w o
      first (compares k) = operations.compares o (compared o k)
      first (moving side bound out_is bound_is k) =
          operations.moves c side bound o c_in (next_held n n_in) bound_is
          (ap (λ (x : Rational). breaks side bound x) (sym value_is) ∙ ap (λ q. breaks_limit side q (value_in values c)) (sym bound_is) ∙ broken_breaks l (value_in values) c side out_is) (moving_is bound o k)

pub placing_is_wide : PlacingIsWide
placing_is_wide rows start d before out n values p n_in o is unfit = wide rows start d before out n values p n_in o is unfit
