-- The point of a placed basis: the only solution in which the columns outside the basis rest.
use Rattle.std.proofs.Common.{◌≡◌, ℕ, ◌<◌, Bool, true, false, nat_eq, refl, sym, ap, ◌∙◌, arith}
use Rattle.std.proofs.lemmas.Bool.{false≢true}
use mathlib.Core.Path.{ap₂}
use Rattle.spv_frac.specs.rational.Rational.{Rational, plus, times, opposite}
use Rattle.spv_frac.proofs.rational.Field.{plus_zero, zero_plus, plus_opposite, times_zero, zero_times}
use Rattle.spv_tableau_rules.specs.tableaux.Numbers.{nothing, sum_to}
use Rattle.spv_tableau_rules.specs.tableaux.Rows.{Rows, columns, Point}
use Rattle.spv_tableau_rules.specs.tableaux.Bounds.{Limits}
use Rattle.spv_tableau_rules.specs.tableaux.Solved.{Place, Basic, Held, At, Places, is_basic, Entries, equation_sum, MeetsEntries, IsSolved, point, at_rest, resting}
use Rattle.spv_tableau_rules.specs.pivots.Laws.{PointSolves, OnlyPoint}
use Rattle.spv_tableau_rules.proofs.pivots.Algebra.{minus_one_times, equal_of}
use Rattle.spv_tableau_rules.proofs.pivots.Sums.{sum_same, sum_plus, sum_only, only, only_here, only_there, eq_is}

-- a sum over all columns, where what is in the basis counts for nothing but at one column
pub with_own : (n b : ℕ) (f g : ℕ → Rational) (k : Rational) → b < n → ((c : ℕ) → c < n → f c ≡ plus (g c) (only b k c)) → sum_to n f ≡ plus (sum_to n g) k
with_own n b f g k h each = sum_same n f (λ c. plus (g c) (only b k c)) each ∙ sum_plus n g (only b k) ∙ ap (plus (sum_to n g)) (sum_only n b k h)

resting_basic : (limits : Limits) (held : Point) (c : ℕ) (p : Place) → is_basic p ≡ true → resting limits held c p ≡ nothing
resting_basic limits held c Basic h = refl
resting_basic limits held c Held h = absurd (false≢true h)
resting_basic limits held c (At side) h = absurd (false≢true h)

-- where columns outside the basis rest, a sum is that over what rests, less the value of its own column
pub sum_at_rest : (rows : Rows) (limits : Limits) (held : Point) (places : Places) (t : Entries) → IsSolved rows places t
    → (v : Point) → ((c : ℕ) → c < columns rows → is_basic (places c) ≡ false → v c ≡ at_rest limits held places c)
    → (b : ℕ) → b < columns rows → is_basic (places b) ≡ true
    → equation_sum rows t b v ≡ plus (equation_sum rows t b (at_rest limits held places)) (opposite (v b))
sum_at_rest rows limits held places t s v rests b inside basic =
    with_own (columns rows) b (λ c. times (t b c) (v c)) (λ c. times (t b c) (at_rest limits held places c)) (opposite (v b)) inside (λ c below. by_place c below (is_basic (places c)) refl)
  where
    Goal : ℕ → Type 0
    Goal c = times (t b c) (v c) ≡ plus (times (t b c) (at_rest limits held places c)) (only b (opposite (v b)) c)

    by_own : (c : ℕ) → c < columns rows → is_basic (places c) ≡ true → (e : Bool) → nat_eq c b ≡ e → Goal c
    by_own c below here true e =
        (ap₂ (λ (x : Rational) (y : ℕ). times x (v y)) (ap (t b) (eq_is c b e) ∙ s.own b inside basic) (eq_is c b e) ∙ minus_one_times (v b))
        ∙ sym (ap₂ plus (ap (times (t b c)) (resting_basic limits held c (places c) here) ∙ times_zero (t b c)) (only_here b c (opposite (v b)) e) ∙ zero_plus (opposite (v b)))
    by_own c below here false e =
        (ap (λ x. times x (v c)) (s.others b c inside basic below here (flipped b c e)) ∙ zero_times (v c))
        ∙ sym (ap₂ plus (ap (times (t b c)) (resting_basic limits held c (places c) here) ∙ times_zero (t b c)) (only_there b c (opposite (v b)) e) ∙ plus_zero nothing)
      where
        flipped : (b c : ℕ) → nat_eq c b ≡ false → nat_eq b c ≡ false
        flipped b c e = grind arith

    outside : (c : ℕ) → is_basic (places c) ≡ false → nat_eq c b ≡ false
    outside c out = by_case (nat_eq c b) refl
      where
        by_case : (e : Bool) → nat_eq c b ≡ e → e ≡ false
        by_case true e = absurd (false≢true (sym out ∙ ap (λ x. is_basic (places x)) (eq_is c b e) ∙ basic))
        by_case false e = refl

    by_place : (c : ℕ) → c < columns rows → (e : Bool) → is_basic (places c) ≡ e → Goal c
    by_place c below true e = by_own c below e (nat_eq c b) refl
    by_place c below false e =
        ap (times (t b c)) (rests c below e) ∙ sym (ap (plus (times (t b c) (at_rest limits held places c))) (only_there b c (opposite (v b)) (outside c e)) ∙ plus_zero (times (t b c) (at_rest limits held places c)))

point_basic : (rows : Rows) (limits : Limits) (held : Point) (places : Places) (t : Entries) (c : ℕ) → is_basic (places c) ≡ true
    → point rows limits held places t c ≡ equation_sum rows t c (at_rest limits held places)
point_basic rows limits held places t c e = rw e refl

pub point_outside : (rows : Rows) (limits : Limits) (held : Point) (places : Places) (t : Entries) (c : ℕ) → is_basic (places c) ≡ false
    → point rows limits held places t c ≡ at_rest limits held places c
point_outside rows limits held places t c e = rw e refl

pub point_solves : PointSolves
point_solves rows limits held places t s = s.solves (point rows limits held places t) meets
  where
    meets : MeetsEntries rows places t (point rows limits held places t)
    meets b inside basic =
        sum_at_rest rows limits held places t s (point rows limits held places t) (λ c below out. point_outside rows limits held places t c out) b inside basic
        ∙ ap (λ x. plus (equation_sum rows t b (at_rest limits held places)) (opposite x)) (point_basic rows limits held places t b basic)
        ∙ plus_opposite (equation_sum rows t b (at_rest limits held places))

pub only_point : OnlyPoint
only_point rows limits held places t s v solution rests c below = by_place (is_basic (places c)) refl
  where
    by_place : (e : Bool) → is_basic (places c) ≡ e → v c ≡ point rows limits held places t c
    by_place true e =
        sym (point_basic rows limits held places t c e ∙ equal_of (equation_sum rows t c (at_rest limits held places)) (v c) (sym (sum_at_rest rows limits held places t s v rests c below e) ∙ s.meets v solution c below e))
    by_place false e = rests c below e ∙ sym (point_outside rows limits held places t c e)
