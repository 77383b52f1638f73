-- A stuck column is a contradiction of the bounds.
use Rattle.std.proofs.Common.{◌≡◌, ℕ, zero, suc, ◌+◌, ◌-◌, ◌<◌, Bool, true, false, ◌&&◌, not, List, [], ◌∷◌, ◌++◌, Option, Some, None, nat_lt, nat_eq, refl, sym, ap, ◌∙◌, subst, arith, if◌then◌else◌}
use Rattle.std.specs.List.{list_all}
use Rattle.std.proofs.lemmas.Bool.{false≢true}
use Rattle.std.proofs.lemmas.Bool.Decides.{nat_tests}
use mathlib.Core.Path.{ap₂}
use Rattle.spv_frac.specs.rational.Rational.{Rational, plus, times, opposite, is_zero, is_positive, is_negative}
use Rattle.spv_frac.proofs.rational.Field.{plus_assoc, plus_zero, zero_plus, times_one, times_zero, zero_times}
use Rattle.spv_frac.proofs.rational.Signs.{not_positive_times, zero_is}
use Rattle.spv_tableau_rules.specs.declared.tableaux.side.Side.{Side}
use Rattle.spv_tableau_rules.specs.declared.tableaux.side.Side.TheVariants.{Lower, Upper}
use Rattle.spv_tableau_rules.specs.tableaux.Numbers.{nothing, one, minus_one, minus, sum_to}
use Rattle.spv_tableau_rules.specs.tableaux.Rows.{Rows, columns, Point, IsSolution}
use Rattle.spv_tableau_rules.specs.tableaux.Bounds.{Bound, bound_on, is_none, or_nothing, limits, other_side, breaks_limit, has_room, is_out}
use Rattle.spv_tableau_rules.specs.tableaux.Solved.{Places, is_basic, Entries, equation_sum, IsSolved, point}
use Rattle.spv_tableau_rules.specs.tableaux.Steps.{way, may_enter, IsStuck}
use Rattle.spv_tableau_rules.specs.tableaux.Contradictions.{Multiple, signed, coefficient_sum, bound_sum, is_multiple, IsContradiction}
use Rattle.spv_tableau_rules.specs.pivots.Laws.{StuckContradicts}
use Rattle.spv_tableau_rules.specs.pivots.Moved.{turned, multiple_of, multiples_at, multiples_to, stuck_multiples}
use Rattle.spv_tableau_rules.proofs.pivots.Algebra.{clash, opposite_times, both_opposite, opposite_nothing, opposite_opposite, opposite_minus, one_times, minus_one_times, minus_one_is, times_minus, negative_opposite, positive_opposite, positive_not_negative, negative_not_positive, negative_of, less_is}
use Rattle.spv_tableau_rules.proofs.pivots.Sums.{sum_same, sum_plus, sum_opposite, sum_nothing, sum_split, sum_only, sum_negative, only, only_here, only_there, eq_is, eq_flip}
use Rattle.spv_tableau_rules.proofs.pivots.Tests.{and_left, and_both, not_false, none_below, all_append, limit_row, limit_part}
use Rattle.spv_tableau_rules.proofs.pivots.Starting.{above_is, row_of}
use Rattle.spv_tableau_rules.proofs.pivots.Points.{point_solves}

-- ---- the side that an entry is multiplied with

chosen : Rational → Side
chosen entry = if is_positive entry then Upper else Lower

chosen_positive : (entry : Rational) → is_positive entry ≡ true → chosen entry ≡ Upper
unfolding chosen
chosen_positive entry h = rw h refl

chosen_other : (entry : Rational) → is_positive entry ≡ false → chosen entry ≡ Lower
unfolding chosen
chosen_other entry h = rw h refl

-- the multiple of a row, by its sign
record IsChosen (entry : Rational) (m : Multiple) : Type 0 where
  pub side : m.side ≡ chosen entry
  pub factor : is_negative m.factor ≡ false
  pub signed_is : (x : Rational) → signed m.side (times m.factor x) ≡ times entry x

is_chosen : (i : ℕ) (entry : Rational) → IsChosen entry (multiple_of i entry)
is_chosen i entry = by_sign (is_positive entry) refl
  where
    by_sign : (b : Bool) → is_positive entry ≡ b → IsChosen entry (multiple_of i entry)
    by_sign true e =
        rw e (record { side = sym (chosen_positive entry e); factor = positive_not_negative entry e; signed_is = λ x. refl })
    by_sign false e =
        rw e (record { side = sym (chosen_other entry e); factor = negative_opposite entry ∙ e; signed_is = λ x. ap opposite (opposite_times entry x) ∙ opposite_opposite (times entry x) })

row_is : (i : ℕ) (entry : Rational) → (multiple_of i entry).row ≡ i
row_is i entry = by_sign (is_positive entry) refl
  where
    by_sign : (b : Bool) → is_positive entry ≡ b → (multiple_of i entry).row ≡ i
    by_sign true e = rw e refl
    by_sign false e = rw e refl

-- ---- sums of the multiples

coefficients_append : (rows : Rows) (xs ys : List Multiple) (c : ℕ) → coefficient_sum rows (xs ++ ys) c ≡ plus (coefficient_sum rows xs c) (coefficient_sum rows ys c)
coefficients_append rows [] ys c = sym (zero_plus (coefficient_sum rows ys c))
coefficients_append rows (m ∷ xs) ys c =
    ap (plus (signed m.side (times m.factor (rows.coefficient m.row c)))) (coefficients_append rows xs ys c) ∙ sym (plus_assoc (signed m.side (times m.factor (rows.coefficient m.row c))) (coefficient_sum rows xs c) (coefficient_sum rows ys c))

bounds_append : (bounds : List Bound) (xs ys : List Multiple) → bound_sum bounds (xs ++ ys) ≡ plus (bound_sum bounds xs) (bound_sum bounds ys)
bounds_append bounds [] ys = sym (zero_plus (bound_sum bounds ys))
bounds_append bounds (m ∷ xs) ys =
    ap (plus (signed m.side (times m.factor (or_nothing (bound_on bounds m.row m.side))))) (bounds_append bounds xs ys) ∙ sym (plus_assoc (signed m.side (times m.factor (or_nothing (bound_on bounds m.row m.side)))) (bound_sum bounds xs) (bound_sum bounds ys))

coefficients_at : (rows : Rows) (i : ℕ) (entry : Rational) (c : ℕ) → coefficient_sum rows (multiples_at i entry) c ≡ times entry (rows.coefficient i c)
coefficients_at rows i entry c = by_zero (is_zero entry) refl
  where
    by_zero : (b : Bool) → is_zero entry ≡ b → coefficient_sum rows (multiples_at i entry) c ≡ times entry (rows.coefficient i c)
    by_zero true e = rw e (sym (ap (λ x. times x (rows.coefficient i c)) (zero_is entry e) ∙ zero_times (rows.coefficient i c)))
    by_zero false e =
        rw e (plus_zero _ ∙ (is_chosen i entry).signed_is (rows.coefficient (multiple_of i entry).row c) ∙ ap (λ k. times entry (rows.coefficient k c)) (row_is i entry))

abbrev bound_for : List Bound → ℕ → Rational → Rational
bound_for bounds i entry = or_nothing (bound_on bounds i (chosen entry))

bounds_at : (bounds : List Bound) (i : ℕ) (entry : Rational) → bound_sum bounds (multiples_at i entry) ≡ times entry (bound_for bounds i entry)
bounds_at bounds i entry = by_zero (is_zero entry) refl
  where
    by_zero : (b : Bool) → is_zero entry ≡ b → bound_sum bounds (multiples_at i entry) ≡ times entry (bound_for bounds i entry)
    by_zero true e = rw e (sym (ap (λ x. times x (bound_for bounds i entry)) (zero_is entry e) ∙ zero_times (bound_for bounds i entry)))
    by_zero false e =
        rw e (plus_zero _ ∙ (is_chosen i entry).signed_is (or_nothing (bound_on bounds (multiple_of i entry).row (multiple_of i entry).side)) ∙ ap₂ (λ (k : ℕ) (s : Side). times entry (or_nothing (bound_on bounds k s))) (row_is i entry) (is_chosen i entry).side)

coefficients_to : (rows : Rows) (n : ℕ) (entry : ℕ → Rational) (c : ℕ) → coefficient_sum rows (multiples_to n entry) c ≡ sum_to n (λ i. times (entry i) (rows.coefficient i c))
coefficients_to rows zero entry c = refl
coefficients_to rows (suc n) entry c =
    coefficients_append rows (multiples_to n entry) (multiples_at n (entry n)) c ∙ ap₂ plus (coefficients_to rows n entry c) (coefficients_at rows n (entry n) c)

bounds_to : (bounds : List Bound) (n : ℕ) (entry : ℕ → Rational) → bound_sum bounds (multiples_to n entry) ≡ sum_to n (λ i. times (entry i) (bound_for bounds i (entry i)))
bounds_to bounds zero entry = refl
bounds_to bounds (suc n) entry =
    bounds_append bounds (multiples_to n entry) (multiples_at n (entry n)) ∙ ap₂ plus (bounds_to bounds n entry) (bounds_at bounds n (entry n))

-- ---- what has to be known of a row, its entry and its value

record IsKept (bounds : List Bound) (i : ℕ) (entry x : Rational) : Type 0 where
  pub stands : is_zero entry ≡ false → is_none (bound_on bounds i (chosen entry)) ≡ false
  pub at_most : is_positive (times entry (minus (bound_for bounds i entry) x)) ≡ false

all_multiples : (rows : Rows) (bounds : List Bound) (n : ℕ) (entry x : ℕ → Rational) → ((i : ℕ) → i < n → i < rows.count) → ((i : ℕ) → i < n → IsKept bounds i (entry i) (x i))
    → list_all (is_multiple rows bounds) (multiples_to n entry) ≡ true
all_multiples rows bounds zero entry x inside kept = refl
all_multiples rows bounds (suc n) entry x inside kept =
    all_append (is_multiple rows bounds) (multiples_to n entry) (multiples_at n (entry n))
    (all_multiples rows bounds n entry x (λ i h. inside i (omega arith)) (λ i h. kept i (omega arith)))
    (by_zero (is_zero (entry n)) refl)
  where
    below : (a b : ℕ) → a < b → nat_lt a b ≡ true
    below a b h = grind (arith, nat_tests)

    here : n < rows.count
    here = inside n (omega arith)

    k : IsKept bounds n (entry n) (x n)
    k = kept n (omega arith)

    multiple_is : is_zero (entry n) ≡ false → is_multiple rows bounds (multiple_of n (entry n)) ≡ true
    multiple_is e =
        and_both _ _ (ap (λ j. nat_lt j rows.count) (row_is n (entry n)) ∙ below n rows.count here)
        (and_both _ _
        (not_false _ (ap₂ (λ (j : ℕ) (s : Side). is_none (bound_on bounds j s)) (row_is n (entry n)) (is_chosen n (entry n)).side ∙ k.stands e))
        (not_false _ (is_chosen n (entry n)).factor))

    by_zero : (b : Bool) → is_zero (entry n) ≡ b → list_all (is_multiple rows bounds) (multiples_at n (entry n)) ≡ true
    by_zero true e = rw e refl
    by_zero false e = rw e (and_both _ _ (multiple_is e) refl)

-- ---- the row of a column that is stuck

turned_sum : (rows : Rows) (t : Entries) (leaving : ℕ) (side : Side) (v : Point) → equation_sum rows t leaving v ≡ nothing
    → sum_to (columns rows) (λ c. times (turned t leaving side c) (v c)) ≡ nothing
turned_sum rows t leaving Lower v h = h
turned_sum rows t leaving Upper v h =
    sum_same (columns rows) _ (λ c. opposite (times (t leaving c) (v c))) (λ c below. opposite_times (t leaving c) (v c))
    ∙ sum_opposite (columns rows) (λ c. times (t leaving c) (v c)) ∙ ap opposite h ∙ opposite_nothing

turned_zero : (t : Entries) (leaving : ℕ) (side : Side) (c : ℕ) → t leaving c ≡ nothing → turned t leaving side c ≡ nothing
turned_zero t leaving Lower c h = h
turned_zero t leaving Upper c h = ap opposite h ∙ opposite_nothing

zero_kept : (bounds : List Bound) (i : ℕ) (entry x : Rational) → entry ≡ nothing → IsKept bounds i entry x
zero_kept bounds i entry x e = record {
  stands = λ h. absurd (clash (is_zero entry) (ap is_zero e) h);
  at_most = ap is_positive (ap (λ y. times y (minus (bound_for bounds i entry) x)) e ∙ zero_times (minus (bound_for bounds i entry) x));
}

-- a bound without room towards it, on the side that the entry chooses
no_room : (bounds : List Bound) (i : ℕ) (entry x : Rational) → has_room (chosen entry) (bound_on bounds i (chosen entry)) x ≡ false → IsKept bounds i entry x
unfolding chosen
no_room bounds i entry x h = by_sign (is_positive entry) refl
  where
    up : (b : Option Rational) → is_positive entry ≡ true → has_room Upper b x ≡ false → (is_none b ≡ false) × (is_positive (times entry (minus (or_nothing b) x)) ≡ false)
    up None e room = absurd (false≢true (sym room))
    up (Some b) e room = (refl, not_positive_times entry (minus b x) (positive_not_negative entry e) (sym (less_is x b) ∙ room))

    down : (b : Option Rational) → is_positive entry ≡ false → has_room Lower b x ≡ false → (is_none b ≡ false) × (is_positive (times entry (minus (or_nothing b) x)) ≡ false)
    down None e room = absurd (false≢true (sym room))
    down (Some b) e room = (
      refl,
      ap is_positive (sym (both_opposite entry (minus b x)) ∙ ap (times (opposite entry)) (opposite_minus b x)) ∙ not_positive_times (opposite entry) (minus x b) (negative_opposite entry ∙ e) (sym (less_is b x) ∙ room),
    )

    by_sign : (s : Bool) → is_positive entry ≡ s → IsKept bounds i entry x
    by_sign true e =
        let room = ap (λ s. has_room s (bound_on bounds i s) x) (sym (chosen_positive entry e)) ∙ h in
        let both = up (bound_on bounds i Upper) e room in
        record {
          stands = λ nonzero. ap (λ s. is_none (bound_on bounds i s)) (chosen_positive entry e) ∙ both.0;
          at_most = ap (λ s. is_positive (times entry (minus (or_nothing (bound_on bounds i s)) x))) (chosen_positive entry e) ∙ both.1;
        }
    by_sign false e =
        let room = ap (λ s. has_room s (bound_on bounds i s) x) (sym (chosen_other entry e)) ∙ h in
        let both = down (bound_on bounds i Lower) e room in
        record {
          stands = λ nonzero. ap (λ s. is_none (bound_on bounds i s)) (chosen_other entry e) ∙ both.0;
          at_most = ap (λ s. is_positive (times entry (minus (or_nothing (bound_on bounds i s)) x))) (chosen_other entry e) ∙ both.1;
        }

way_up : (side : Side) (e : Rational) → is_positive e ≡ true → way side e ≡ other_side side
way_up side e h = rw h refl

way_down : (side : Side) (e : Rational) → is_positive e ≡ false → way side e ≡ side
way_down side e h = rw h refl

-- the way of an entering column is towards the bound with which its entry is multiplied
way_is : (side : Side) (e : Rational) → is_zero e ≡ false → way side e ≡ chosen (signed (other_side side) e)
way_is side e nonzero = by_sign side (is_positive e) refl
  where
    by_sign : (side : Side) (b : Bool) → is_positive e ≡ b → way side e ≡ chosen (signed (other_side side) e)
    by_sign Lower true h = way_up Lower e h ∙ sym (chosen_positive e h)
    by_sign Lower false h = way_down Lower e h ∙ sym (chosen_other e h)
    by_sign Upper true h = way_up Upper e h ∙ sym (chosen_other (opposite e) (positive_opposite e ∙ positive_not_negative e h))
    by_sign Upper false h = way_down Upper e h ∙ sym (chosen_positive (opposite e) (positive_opposite e ∙ negative_of e nonzero h))

-- ---- the leaving column itself

record IsBroken (bounds : List Bound) (i : ℕ) (entry x : Rational) : Type 0 where
  pub stands : is_none (bound_on bounds i (chosen entry)) ≡ false
  pub below : is_negative (times entry (minus (bound_for bounds i entry) x)) ≡ true

broken : (bounds : List Bound) (i : ℕ) (side : Side) (x : Rational) → breaks_limit side (bound_on bounds i side) x ≡ true → IsBroken bounds i (signed (other_side side) minus_one) x
unfolding chosen
broken bounds i Lower x h = record { stands = (low (bound_on bounds i Lower) h).0; below = (low (bound_on bounds i Lower) h).1 }
  where
    low : (b : Option Rational) → breaks_limit Lower b x ≡ true → (is_none b ≡ false) × (is_negative (times minus_one (minus (or_nothing b) x)) ≡ true)
    low None e = absurd (false≢true e)
    low (Some b) e = (refl, ap is_negative (minus_one_times (minus b x)) ∙ negative_opposite (minus b x) ∙ sym (less_is x b) ∙ e)
broken bounds i Upper x h = record { stands = (high (bound_on bounds i Upper) h).0; below = (high (bound_on bounds i Upper) h).1 }
  where
    high : (b : Option Rational) → breaks_limit Upper b x ≡ true → (is_none b ≡ false) × (is_negative (times (opposite minus_one) (minus (or_nothing b) x)) ≡ true)
    high None e = absurd (false≢true e)
    high (Some b) e = (
      refl,
      ap is_negative (ap (λ y. times y (minus b x)) (ap opposite minus_one_is ∙ opposite_opposite one) ∙ one_times (minus b x) ∙ sym (opposite_minus x b)) ∙ negative_opposite (minus x b) ∙ sym (less_is b x) ∙ e,
    )

broken_kept : (bounds : List Bound) (i : ℕ) (entry x : Rational) → IsBroken bounds i entry x → IsKept bounds i entry x
broken_kept bounds i entry x b = record { stands = λ nonzero. b.stands; at_most = negative_not_positive (times entry (minus (bound_for bounds i entry) x)) b.below }

third : (a b c : Bool) → a ≡ true → b ≡ true → (a && (b && c)) ≡ false → c ≡ false
third true true c h k e = e
third true false c h k e = absurd (false≢true k)
third false b c h k e = absurd (false≢true h)

second : (a b c : Bool) → a ≡ true → c ≡ true → (a && (not b && c)) ≡ false → b ≡ true
second true true c h k e = refl
second true false c h k e = absurd (false≢true (sym e ∙ k))
second false b c h k e = absurd (false≢true h)

-- ---- the theorem

module _ (rows : Rows) (bounds : List Bound) (held : Point) (places : Places) (t : Entries) (leaving : ℕ) (side : Side) (s : IsSolved rows places t)
    (stuck : IsStuck rows (limits rows bounds) places (point rows (limits rows bounds) held places t) t leaving side) where
  abbrev v : Point
  v = point rows (limits rows bounds) held places t

  abbrev entry : ℕ → Rational
  entry i = turned t leaving side (rows.parts + i)

  leaves : is_basic (places leaving) ≡ true
  leaves = and_left (is_basic (places leaving)) (is_out (limits rows bounds) v leaving) stuck.leaves

  leaving_not_part : nat_lt leaving rows.parts ≡ false
  leaving_not_part = by_case (nat_lt leaving rows.parts) refl
    where
      by_case : (b : Bool) → nat_lt leaving rows.parts ≡ b → b ≡ false
      by_case true e = absurd (false≢true (ap (λ b. breaks_limit side b (v leaving)) (sym (limit_part rows bounds leaving side e)) ∙ stuck.breaks))
      by_case false e = refl

  no_entrance : (c : ℕ) → c < columns rows → may_enter (limits rows bounds) places v t leaving side c ≡ false
  no_entrance c below = none_below (columns rows) (may_enter (limits rows bounds) places v t leaving side) stuck.enters c below

  part_zero : (c : ℕ) → c < rows.parts → t leaving c ≡ nothing
  part_zero c below = by_place (is_basic (places c)) refl
    where
      inside : (c p n : ℕ) → c < p → c < p + n
      inside c p n h = omega arith

      is_part : (c p : ℕ) → c < p → nat_lt c p ≡ true
      is_part c p h = grind (arith, nat_tests)

      apart : (l c p : ℕ) → nat_lt l p ≡ false → c < p → nat_eq l c ≡ false
      apart l c p h k = grind (arith, nat_tests)

      by_place : (b : Bool) → is_basic (places c) ≡ b → t leaving c ≡ nothing
      by_place true e = s.others leaving c stuck.leaving_in leaves (inside c rows.parts rows.count below) e (apart leaving c rows.parts leaving_not_part below)
      by_place false e =
          zero_is (t leaving c) (second (not (is_basic (places c))) (is_zero (t leaving c)) _ (not_false _ e)
          (ap (λ b. has_room (way side (t leaving c)) b (v c)) (limit_part rows bounds c (way side (t leaving c)) (is_part c rows.parts below)))
          (no_entrance c (inside c rows.parts rows.count below)))

  kept : (i : ℕ) → i < rows.count → IsKept bounds i (entry i) (v (rows.parts + i))
  kept i below = by_leaving (nat_eq (rows.parts + i) leaving) refl
    where
      more : (p i n : ℕ) → i < n → p + i < p + n
      more p i n h = omega arith

      inside : rows.parts + i < columns rows
      inside = more rows.parts i rows.count below

      at_leaving : rows.parts + i ≡ leaving → IsKept bounds i (entry i) (v (rows.parts + i))
      at_leaving e =
          subst (λ (x : Rational). IsKept bounds i x (v (rows.parts + i))) (sym (ap (signed (other_side side)) (ap (t leaving) e ∙ s.own leaving stuck.leaving_in leaves)))
          (broken_kept bounds i (signed (other_side side) minus_one) (v (rows.parts + i))
          (broken bounds i side (v (rows.parts + i))
          (ap (λ b. breaks_limit side b (v (rows.parts + i))) (sym (limit_row rows bounds i side)) ∙ ap (λ c. breaks_limit side (limits rows bounds c side) (v c)) e ∙ stuck.breaks)))

      outside : is_basic (places (rows.parts + i)) ≡ false → (z : Bool) → is_zero (t leaving (rows.parts + i)) ≡ z → IsKept bounds i (entry i) (v (rows.parts + i))
      outside out true z = zero_kept bounds i (entry i) (v (rows.parts + i)) (turned_zero t leaving side (rows.parts + i) (zero_is (t leaving (rows.parts + i)) z))
      outside out false z =
          no_room bounds i (entry i) (v (rows.parts + i))
          (ap (λ b. has_room (chosen (entry i)) b (v (rows.parts + i))) (sym (limit_row rows bounds i (chosen (entry i))))
          ∙ ap (λ w. has_room w (limits rows bounds (rows.parts + i) w) (v (rows.parts + i))) (sym (way_is side (t leaving (rows.parts + i)) z))
          ∙ third (not (is_basic (places (rows.parts + i)))) (not (is_zero (t leaving (rows.parts + i)))) _ (not_false _ out) (not_false _ z) (no_entrance (rows.parts + i) inside))

      by_place : nat_eq (rows.parts + i) leaving ≡ false → (b : Bool) → is_basic (places (rows.parts + i)) ≡ b → IsKept bounds i (entry i) (v (rows.parts + i))
      by_place l true e =
          zero_kept bounds i (entry i) (v (rows.parts + i)) (turned_zero t leaving side (rows.parts + i) (s.others leaving (rows.parts + i) stuck.leaving_in leaves inside e (eq_flip (rows.parts + i) leaving l)))
      by_place l false e = outside e (is_zero (t leaving (rows.parts + i))) refl

      by_leaving : (b : Bool) → nat_eq (rows.parts + i) leaving ≡ b → IsKept bounds i (entry i) (v (rows.parts + i))
      by_leaving true l = at_leaving (eq_is (rows.parts + i) leaving l)
      by_leaving false l = by_place l (is_basic (places (rows.parts + i))) refl

  -- over the rows alone the sum is 0 too
  rows_sum : (w : Point) → IsSolution rows w → sum_to rows.count (λ i. times (entry i) (w (rows.parts + i))) ≡ nothing
  rows_sum w solution =
      sym (sym (turned_sum rows t leaving side w (s.meets w solution leaving stuck.leaving_in leaves))
      ∙ sum_split rows.parts rows.count (λ c. times (turned t leaving side c) (w c))
      ∙ ap (λ x. plus x (sum_to rows.count (λ i. times (entry i) (w (rows.parts + i)))))
      (sum_nothing rows.parts (λ c. times (turned t leaving side c) (w c)) (λ c below. ap (λ x. times x (w c)) (turned_zero t leaving side c (part_zero c below)) ∙ zero_times (w c)))
      ∙ zero_plus (sum_to rows.count (λ i. times (entry i) (w (rows.parts + i)))))

  -- ---- all parts cancel

  -- the solution in which this part is 1 and all others are 0
  abbrev unit : ℕ → Point
  unit c x = if nat_lt x rows.parts then only c one x else rows.coefficient (x - rows.parts) c

  unit_part : (c x : ℕ) → nat_lt x rows.parts ≡ true → unit c x ≡ only c one x
  unit_part c x e = rw e refl

  unit_row : (c i : ℕ) → unit c (rows.parts + i) ≡ rows.coefficient i c
  unit_row c i = rw (above_is rows.parts i) (ap (λ k. rows.coefficient k c) (back rows.parts i))
    where
      back : (p i : ℕ) → p + i - p ≡ i
      back p i = omega arith

  unit_solves : (c : ℕ) → c < rows.parts → IsSolution rows (unit c)
  unit_solves c below i inside =
      unit_row c i
      ∙ sym (sum_same rows.parts (λ x. times (rows.coefficient i x) (unit c x)) (only c (rows.coefficient i c)) each ∙ sum_only rows.parts c (rows.coefficient i c) below)
    where
      is_part : (c p : ℕ) → c < p → nat_lt c p ≡ true
      is_part c p h = grind (arith, nat_tests)

      each : (x : ℕ) → x < rows.parts → times (rows.coefficient i x) (unit c x) ≡ only c (rows.coefficient i c) x
      each x x_below = by_case (nat_eq x c) refl
        where
          by_case : (b : Bool) → nat_eq x c ≡ b → times (rows.coefficient i x) (unit c x) ≡ only c (rows.coefficient i c) x
          by_case true e =
              ap (times (rows.coefficient i x)) (unit_part c x (is_part x rows.parts x_below) ∙ only_here c x one e) ∙ times_one (rows.coefficient i x)
              ∙ ap (rows.coefficient i) (eq_is x c e) ∙ sym (only_here c x (rows.coefficient i c) e)
          by_case false e =
              ap (times (rows.coefficient i x)) (unit_part c x (is_part x rows.parts x_below) ∙ only_there c x one e) ∙ times_zero (rows.coefficient i x)
              ∙ sym (only_there c x (rows.coefficient i c) e)

  cancels : (c : ℕ) → c < rows.parts → coefficient_sum rows (stuck_multiples rows t leaving side) c ≡ nothing
  cancels c below =
      coefficients_to rows rows.count entry c
      ∙ sum_same rows.count (λ i. times (entry i) (rows.coefficient i c)) (λ i. times (entry i) (unit c (rows.parts + i))) (λ i inside. ap (times (entry i)) (sym (unit_row c i)))
      ∙ rows_sum (unit c) (unit_solves c below)

  -- ---- the bounds sum to less than 0

  abbrev gap : ℕ → Rational
  gap i = times (entry i) (minus (bound_for bounds i (entry i)) (v (rows.parts + i)))

  gap_sum : sum_to rows.count (λ i. times (entry i) (bound_for bounds i (entry i))) ≡ sum_to rows.count gap
  gap_sum =
      sym (sum_same rows.count gap (λ i. plus (times (entry i) (bound_for bounds i (entry i))) (opposite (times (entry i) (v (rows.parts + i))))) (λ i inside. times_minus (entry i) (bound_for bounds i (entry i)) (v (rows.parts + i)))
      ∙ sum_plus rows.count (λ i. times (entry i) (bound_for bounds i (entry i))) (λ i. opposite (times (entry i) (v (rows.parts + i))))
      ∙ ap (plus (sum_to rows.count (λ i. times (entry i) (bound_for bounds i (entry i)))))
      (sum_opposite rows.count (λ i. times (entry i) (v (rows.parts + i))) ∙ ap opposite (rows_sum v (point_solves rows (limits rows bounds) held places t s)) ∙ opposite_nothing)
      ∙ plus_zero (sum_to rows.count (λ i. times (entry i) (bound_for bounds i (entry i)))))

  gap_negative : is_negative (sum_to rows.count gap) ≡ true
  gap_negative =
      let r = row_of rows leaving stuck.leaving_in leaving_not_part in
      sum_negative rows.count r.row gap r.below (at_row r.row (sym r.is)) (λ i below. (kept i below).at_most)
    where
      at_row : (i : ℕ) → rows.parts + i ≡ leaving → is_negative (gap i) ≡ true
      at_row i e =
          ap (λ x. is_negative (times x (minus (bound_for bounds i x) (v (rows.parts + i))))) (ap (signed (other_side side)) (ap (t leaving) e ∙ s.own leaving stuck.leaving_in leaves))
          ∙ (broken bounds i side (v (rows.parts + i))
          (ap (λ b. breaks_limit side b (v (rows.parts + i))) (sym (limit_row rows bounds i side)) ∙ ap (λ c. breaks_limit side (limits rows bounds c side) (v c)) e ∙ stuck.breaks)).below

  pub contradicts : IsContradiction rows bounds (stuck_multiples rows t leaving side)
  contradicts = record {
    each = all_multiples rows bounds rows.count entry (λ i. v (rows.parts + i)) (λ i h. h) kept;
    cancel = cancels;
    negative = ap is_negative (bounds_to bounds rows.count entry ∙ gap_sum) ∙ gap_negative;
  }

pub stuck_contradicts : StuckContradicts
stuck_contradicts rows bounds held places t leaving side s stuck = contradicts rows bounds held places t leaving side s stuck
