-- The bounds that a saying is, each on its side.
use Rattle.std.proofs.Common.{◌≡◌, ℕ, zero, suc, true, false, cond, ◌&&◌, List, [], ◌∷◌, ℤ, pos, ◌+ℤ◌, neg_ℤ, refl, ap, subst, Some, None}
use Rattle.std.specs.Prelude.{slice_get}
use Rattle.std.proofs.lemmas.Option.{same_Some}
use Rattle.spv_frac.specs.rational.Rational.{whole}
use Rattle.spv_tableau_rules.specs.tableaux.Bounds.{Bound, bound_on}
use Rattle.spv_tableau_rules.proofs.pivots.Sums.{eq_self}
use Rattle.spv_tableau_rules.specs.declared.constraints.saying.RowConstraint.{RowConstraint}
use Rattle.spv_tableau_rules.specs.declared.constraints.saying.RowConstraint.TheVariants.{Equal, Below, AtMost, Above, AtLeast, Differs}
use Rattle.spv_tableau_rules.specs.constraints.Sayings.{at_least, at_most, bounds_of}

only_lower : (i : ℕ) (n : ℤ) → bound_on (at_least i n ∷ []) i (at_least i n).side ≡ Some (whole n)
only_lower i n = ap (λ c. cond (c && true) (Some (whole n)) None) (eq_self i)

only_upper : (i : ℕ) (n : ℤ) → bound_on (at_most i n ∷ []) i (at_most i n).side ≡ Some (whole n)
only_upper i n = ap (λ c. cond (c && true) (Some (whole n)) None) (eq_self i)

lower_first : (i : ℕ) (n : ℤ) → bound_on (at_least i n ∷ at_most i n ∷ []) i (at_least i n).side ≡ Some (whole n)
lower_first i n = ap (λ c. cond (c && true) (Some (whole n)) (cond (c && false) (Some (whole n)) None)) (eq_self i)

upper_second : (i : ℕ) (n : ℤ) → bound_on (at_least i n ∷ at_most i n ∷ []) i (at_most i n).side ≡ Some (whole n)
upper_second i n = ap (λ c. cond (c && false) (Some (whole n)) (cond (c && true) (Some (whole n)) None)) (eq_self i)

-- what holds of the only item of a list
of_one : (b : Bound) (P : Bound → Type 0) → P b → (j : ℕ) (c : Bound) → slice_get (b ∷ []) j ≡ Some c → P c
of_one b P p zero c e = subst P (same_Some b c e) p
of_one b P p (suc j) c e = absurd (cc)

of_two : (b d : Bound) (P : Bound → Type 0) → P b → P d → (j : ℕ) (c : Bound) → slice_get (b ∷ d ∷ []) j ≡ Some c → P c
of_two b d P p q zero c e = subst P (same_Some b c e) p
of_two b d P p q (suc j) c e = of_one d P q j c e

module _ (i : ℕ) (n : ℤ) where
  abbrev IsFound : List Bound → Bound → Type 0
  IsFound bounds b = bound_on bounds i b.side ≡ Some b.value

  pub bound_is_on : (x : RowConstraint) (j : ℕ) (b : Bound) → slice_get (bounds_of i n x) j ≡ Some b → bound_on (bounds_of i n x) i b.side ≡ Some b.value
  bound_is_on Equal j b e = of_two (at_least i (neg_ℤ n)) (at_most i (neg_ℤ n)) (IsFound (bounds_of i n Equal)) (lower_first i (neg_ℤ n)) (upper_second i (neg_ℤ n)) j b e
  bound_is_on Below j b e = of_one (at_most i (neg_ℤ (n +ℤ pos 1))) (IsFound (bounds_of i n Below)) (only_upper i (neg_ℤ (n +ℤ pos 1))) j b e
  bound_is_on AtMost j b e = of_one (at_most i (neg_ℤ n)) (IsFound (bounds_of i n AtMost)) (only_upper i (neg_ℤ n)) j b e
  bound_is_on Above j b e = of_one (at_least i (neg_ℤ n +ℤ pos 1)) (IsFound (bounds_of i n Above)) (only_lower i (neg_ℤ n +ℤ pos 1)) j b e
  bound_is_on AtLeast j b e = of_one (at_least i (neg_ℤ n)) (IsFound (bounds_of i n AtLeast)) (only_lower i (neg_ℤ n)) j b e
  bound_is_on Differs j b e = absurd (cc)

  abbrev IsHere : Bound → Type 0
  IsHere b = b.row ≡ i

  pub bound_on_row : (x : RowConstraint) (j : ℕ) (b : Bound) → slice_get (bounds_of i n x) j ≡ Some b → b.row ≡ i
  bound_on_row Equal j b e = of_two (at_least i (neg_ℤ n)) (at_most i (neg_ℤ n)) IsHere refl refl j b e
  bound_on_row Below j b e = of_one (at_most i (neg_ℤ (n +ℤ pos 1))) IsHere refl j b e
  bound_on_row AtMost j b e = of_one (at_most i (neg_ℤ n)) IsHere refl j b e
  bound_on_row Above j b e = of_one (at_least i (neg_ℤ n +ℤ pos 1)) IsHere refl j b e
  bound_on_row AtLeast j b e = of_one (at_least i (neg_ℤ n)) IsHere refl j b e
  bound_on_row Differs j b e = absurd (cc)
