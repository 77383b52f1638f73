-- The order of whole numbers as values of bounds, and bounds that are looked for.
use Rattle.std.proofs.Common.{◌≡◌, ℕ, zero, suc, Bool, true, false, cond, ◌&&◌, List, [], ◌∷◌, refl, sym, ap, ◌∙◌, subst, Option, Some, None, arith, ℤ, pos, ◌+ℤ◌, ◌*ℤ◌, ◌<ℤ◌, neg_ℤ}
use mathlib.Core.Path.{ap₂}
use Rattle.std.specs.Prelude.{slice_get, nat_eq}
use Rattle.std.specs.Int.RustNames.{int_lt}
use Rattle.std.proofs.lemmas.Bool.{false≢true}
use Rattle.std.proofs.lemmas.Int.{ints}
use Rattle.std.proofs.lemmas.Option.{same_Some}
use Rattle.spv_whole.proofs.Order.{IsLess_trans}
use Rattle.spv_frac.specs.rational.Rational.{Rational, whole}
use Rattle.spv_tableau_rules.specs.declared.tableaux.side.Side.{Side}
use Rattle.spv_tableau_rules.specs.declared.tableaux.side.Side.TheVariants.{Lower, Upper}
use Rattle.spv_tableau_rules.specs.tableaux.Numbers.{is_less}
use Rattle.spv_tableau_rules.specs.tableaux.Bounds.{Bound, same_side, bound_on, is_none, are_apart}
use Rattle.spv_tableau_rules.proofs.pivots.Sums.{eq_is, eq_self, eq_flip}
use Rattle.spv_tableau_rules.proofs.pivots.Tests.{and_left, and_right}

less_of : (a b : ℤ) → int_lt a b ≡ true → a <ℤ b
less_of a b h = omega (arith, ints)

lt_of : (a b : ℤ) → a <ℤ b → int_lt a b ≡ true
lt_of a b h = grind (arith, ints)

not_lt : (a b : ℤ) → (a <ℤ b → ⊥) → int_lt a b ≡ false
not_lt a b h = by_case (int_lt a b) refl
  where
    by_case : (c : Bool) → int_lt a b ≡ c → c ≡ false
    by_case true e = absurd (h (less_of a b e))
    by_case false e = refl

-- ---- whole numbers

pub whole_less : (m n : ℤ) → m <ℤ n → is_less (whole m) (whole n) ≡ true
whole_less m n h = lt_of (m *ℤ pos 1) (n *ℤ pos 1) (omega (arith, ints))

pub whole_not_less : (m : ℤ) → is_less (whole m) (whole m) ≡ false
whole_not_less m = not_lt (m *ℤ pos 1) (m *ℤ pos 1) (λ h. omega (arith, ints))

-- what is not below a number is not below a smaller one
pub not_below : (v c e : Rational) → is_less c e ≡ true → is_less v e ≡ false → is_less v c ≡ false
not_below v c e h k = by_case (is_less v c) refl
  where
    by_case : (b : Bool) → is_less v c ≡ b → b ≡ false
    by_case false f = refl
    by_case true f =
        absurd (false≢true (sym k ∙ lt_of _ _ (IsLess_trans v.fraction c.fraction e.fraction v.is_lowest.positive c.is_lowest.positive e.is_lowest.positive (less_of _ _ f) (less_of _ _ h))))

pub one_more_below : (k : ℤ) → is_less (whole (neg_ℤ (k +ℤ pos 1))) (whole (neg_ℤ k)) ≡ true
one_more_below k = whole_less (neg_ℤ (k +ℤ pos 1)) (neg_ℤ k) (omega (arith, ints))

pub one_more_above : (k : ℤ) → is_less (whole (neg_ℤ k)) (whole (neg_ℤ k +ℤ pos 1)) ≡ true
one_more_above k = whole_less (neg_ℤ k) (neg_ℤ k +ℤ pos 1) (omega (arith, ints))

-- ---- looking for a bound

same_side-refl : (s : Side) → same_side s s ≡ true
same_side-refl Lower = refl
same_side-refl Upper = refl

same_side-flip : (s t : Side) → same_side s t ≡ same_side t s
same_side-flip Lower Lower = refl
same_side-flip Lower Upper = refl
same_side-flip Upper Lower = refl
same_side-flip Upper Upper = refl

number_flip : (m n : ℕ) → nat_eq m n ≡ nat_eq n m
number_flip m n = by_case (nat_eq m n) refl
  where
    by_case : (c : Bool) → nat_eq m n ≡ c → nat_eq m n ≡ nat_eq n m
    by_case true e = e ∙ sym (ap (nat_eq n) (eq_is m n e) ∙ eq_self n)
    by_case false e = e ∙ sym (eq_flip m n e)

-- a bound that stands is the one that is found on its side of its row
pub bound_found : (bounds : List Bound) (i : ℕ) (b : Bound) → are_apart bounds ≡ true → slice_get bounds i ≡ Some b → bound_on bounds b.row b.side ≡ Some b.value
bound_found [] i b h e = absurd (cc)
bound_found (x ∷ bounds) zero b h e = subst (λ (y : Bound). bound_on (x ∷ bounds) y.row y.side ≡ Some y.value) (same_Some x b e) here
  where
    here : bound_on (x ∷ bounds) x.row x.side ≡ Some x.value
    here = rw (eq_self x.row, same_side-refl x.side) refl
bound_found (x ∷ bounds) (suc i) b h e = by_case (nat_eq x.row b.row && same_side x.side b.side) refl (bound_found bounds i b (and_right _ _ h) e)
  where
    none : (o : Option Rational) → is_none o ≡ true → o ≡ None
    none None k = refl
    none (Some y) k = absurd (false≢true k)

    turned : (nat_eq b.row x.row && same_side b.side x.side) ≡ (nat_eq x.row b.row && same_side x.side b.side)
    turned = ap₂ (λ p q. p && q) (number_flip b.row x.row) (same_side-flip b.side x.side)

    -- the first one, where it is on the same side of the same row
    clash : (bs : List Bound) (j : ℕ) → slice_get bs j ≡ Some b → (nat_eq x.row b.row && same_side x.side b.side) ≡ true → is_none (bound_on bs x.row x.side) ≡ true → ⊥
    clash [] j at on k = absurd (cc)
    clash (y ∷ bs) zero at on k =
        let same : y ≡ b = same_Some y b at in
        false≢true (sym (ap (λ c. is_none (cond c (Some y.value) (bound_on bs x.row x.side))) (ap (λ (z : Bound). nat_eq z.row x.row && same_side z.side x.side) same ∙ turned ∙ on)) ∙ k)
    clash (y ∷ bs) (suc j) at on k = clash bs j at on (later (nat_eq y.row x.row && same_side y.side x.side) k)
      where
        later : (c : Bool) → is_none (cond c (Some y.value) (bound_on bs x.row x.side)) ≡ true → is_none (bound_on bs x.row x.side) ≡ true
        later true l = absurd (false≢true l)
        later false l = l

    by_case : (c : Bool) → (nat_eq x.row b.row && same_side x.side b.side) ≡ c → bound_on bounds b.row b.side ≡ Some b.value → cond c (Some x.value) (bound_on bounds b.row b.side) ≡ Some b.value
    by_case false f rest = rest
    by_case true f rest = absurd (clash bounds i e f (and_left _ _ h))
