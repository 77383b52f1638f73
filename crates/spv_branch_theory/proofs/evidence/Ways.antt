-- Bounds of a row that leave it room are read in one way.
use Rattle.std.proofs.Common.{◌≡◌, ℕ, zero, suc, Bool, true, false, cond, List, [], refl, sym, ap, ◌∙◌, subst, Option, Some, None, ℤ, pos, ◌+ℤ◌, neg_ℤ}
use Rattle.std.specs.Prelude.{slice_get}
use Rattle.std.proofs.lemmas.Option.{same_Some}
use Rattle.spv_logic.specs.declared.operators.Head.{Head}
use Rattle.spv_logic.specs.declared.operators.Head.TheVariants.{Eq, Lt, Le}
use Rattle.spv_frac.specs.rational.Rational.{Rational, whole}
use Rattle.spv_tableau_rules.specs.declared.tableaux.side.Side.{Side}
use Rattle.spv_tableau_rules.specs.declared.tableaux.side.Side.TheVariants.{Lower, Upper}
use Rattle.spv_tableau_rules.specs.tableaux.Numbers.{is_less}
use Rattle.spv_tableau_rules.specs.tableaux.Bounds.{Bound}
use Rattle.spv_tableau_rules.specs.declared.constraints.saying.RowConstraint.{RowConstraint}
use Rattle.spv_tableau_rules.specs.declared.constraints.saying.RowConstraint.TheVariants.{Equal, Below, AtMost, Above, AtLeast}
use Rattle.spv_tableau_rules.specs.constraints.Sayings.{bounds_of, at_least, at_most}
use Rattle.spv_share.specs.Relations.{row_bounds}
use Rattle.spv_verdicts.specs.Rows.{sayings, IsOneOf}
use Rattle.spv_branch_theory.proofs.evidence.Orders.{whole_not_less, not_below, one_more_below, one_more_above}

-- ---- the way

-- an upper bound is below a value, and a lower one above it
abbrev is_below : Option Rational → Rational → Bool
is_below None c = false
is_below (Some v) c = is_less v c

abbrev is_above : Option Rational → Rational → Bool
is_above None c = false
is_above (Some v) c = is_less c v

-- how a relation is read, where these are the bounds on its row
abbrev pub way_of : Head → ℤ → Option Rational → Option Rational → RowConstraint
way_of Eq k low high = cond (is_below high (whole (neg_ℤ k))) Below (cond (is_above low (whole (neg_ℤ k))) Above Equal)
way_of Lt k low high = cond (is_below high (whole (neg_ℤ k))) Below AtLeast
way_of Le k low high = cond (is_above low (whole (neg_ℤ k))) Above AtMost
way_of _ k low high = Equal

-- a head under which something may be said
abbrev pub IsSaid : Head → Type 0
IsSaid h = sayings h ≡ [] → ⊥

pub may_be : (h : Head) (k : ℤ) (low high : Option Rational) → IsSaid h → IsOneOf (sayings h) (way_of h k low high)
may_be Eq k low high said = by_case (is_below high (whole (neg_ℤ k))) (is_above low (whole (neg_ℤ k)))
  where
    by_case : (c d : Bool) → IsOneOf (sayings Eq) (cond c Below (cond d Above Equal))
    by_case true d = record { place = 1; there = refl }
    by_case false true = record { place = 2; there = refl }
    by_case false false = record { place = 0; there = refl }
may_be Lt k low high said = by_case (is_below high (whole (neg_ℤ k)))
  where
    by_case : (c : Bool) → IsOneOf (sayings Lt) (cond c Below AtLeast)
    by_case true = record { place = 0; there = refl }
    by_case false = record { place = 1; there = refl }
may_be Le k low high said = by_case (is_above low (whole (neg_ℤ k)))
  where
    by_case : (c : Bool) → IsOneOf (sayings Le) (cond c Above AtMost)
    by_case true = record { place = 1; there = refl }
    by_case false = record { place = 0; there = refl }
may_be q k low high said = absurd (said refl)

-- ---- each bound is read so

-- the lower bound is at most the upper one
abbrev pub AreOrdered : (Side → Option Rational) → Type 0
AreOrdered on = (low high : Rational) → on Lower ≡ Some low → on Upper ≡ Some high → is_less high low ≡ false

pub record IsAt (bounds : List Bound) (b : Bound) : Type 0 where
  pub place : ℕ
  pub there : slice_get bounds place ≡ Some b

-- an upper bound that goes with a lower one is not below it
upper_not_below : (on : Side → Option Rational) (o : Option Rational) (low : Rational) → AreOrdered on → on Lower ≡ Some low → on Upper ≡ o → is_below o low ≡ false
upper_not_below on None low h e f = refl
upper_not_below on (Some v) low h e f = h low v e f

lower_not_above : (on : Side → Option Rational) (o : Option Rational) (high : Rational) → AreOrdered on → on Upper ≡ Some high → on Lower ≡ o → is_above o high ≡ false
lower_not_above on None high h e f = refl
lower_not_above on (Some v) high h e f = h v high f e

-- nor is it below what is smaller
upper_not_below_less : (o : Option Rational) (c low : Rational) → is_less c low ≡ true → is_below o low ≡ false → is_below o c ≡ false
upper_not_below_less None c low h k = refl
upper_not_below_less (Some v) c low h k = not_below v c low h k

module _ (row : ℕ) (k : ℤ) (on : Side → Option Rational) (ordered : AreOrdered on) where
  abbrev middle : Rational
  middle = whole (neg_ℤ k)

  equal_way : is_below (on Upper) middle ≡ false → is_above (on Lower) middle ≡ false → way_of Eq k (on Lower) (on Upper) ≡ Equal
  equal_way e f = ap (λ c. cond c Below (cond (is_above (on Lower) middle) Above Equal)) e ∙ ap (λ c. cond c Above Equal) f

  below_way : is_below (on Upper) middle ≡ true → way_of Eq k (on Lower) (on Upper) ≡ Below
  below_way e = ap (λ c. cond c Below (cond (is_above (on Lower) middle) Above Equal)) e

  above_way : is_below (on Upper) middle ≡ false → is_above (on Lower) middle ≡ true → way_of Eq k (on Lower) (on Upper) ≡ Above
  above_way e f = ap (λ c. cond c Below (cond (is_above (on Lower) middle) Above Equal)) e ∙ ap (λ c. cond c Above Equal) f

  read_as : (x y : RowConstraint) (place : ℕ) (b c : Bound) → y ≡ x → b ≡ c → slice_get (bounds_of row k x) place ≡ Some b → IsAt (bounds_of row k y) c
  read_as x y place b c e f there = record { place = place; there = ap (λ z. slice_get (bounds_of row k z) place) e ∙ (there ∙ ap Some f) }

  abbrev IsFound : Bound → Type 0
  IsFound b = on b.side ≡ Some b.value

  found_at : (b c : Bound) → b ≡ c → IsFound c → IsFound b
  found_at b c e f = subst (λ (x : Bound). IsFound x) (sym e) f

  equation : (i : ℕ) (b : Bound) → slice_get (row_bounds row Eq k) i ≡ Some b → IsFound b → IsAt (bounds_of row k (way_of Eq k (on Lower) (on Upper))) b
  equation zero b e f =
      let same : at_least row (neg_ℤ k) ≡ b = same_Some (at_least row (neg_ℤ k)) b e in
      let here : on Lower ≡ Some middle = found_at (at_least row (neg_ℤ k)) b same f in
      read_as Equal (way_of Eq k (on Lower) (on Upper)) 0 (at_least row (neg_ℤ k)) b
      (equal_way (upper_not_below on (on Upper) middle ordered here refl) (ap (λ o. is_above o middle) here ∙ whole_not_less (neg_ℤ k))) same refl
  equation (suc zero) b e f =
      let same : at_most row (neg_ℤ k) ≡ b = same_Some (at_most row (neg_ℤ k)) b e in
      let here : on Upper ≡ Some middle = found_at (at_most row (neg_ℤ k)) b same f in
      read_as Equal (way_of Eq k (on Lower) (on Upper)) 1 (at_most row (neg_ℤ k)) b
      (equal_way (ap (λ o. is_below o middle) here ∙ whole_not_less (neg_ℤ k)) (lower_not_above on (on Lower) middle ordered here refl)) same refl
  equation (suc (suc zero)) b e f =
      let same : at_most row (neg_ℤ (k +ℤ pos 1)) ≡ b = same_Some (at_most row (neg_ℤ (k +ℤ pos 1))) b e in
      let here : on Upper ≡ Some (whole (neg_ℤ (k +ℤ pos 1))) = found_at (at_most row (neg_ℤ (k +ℤ pos 1))) b same f in
      read_as Below (way_of Eq k (on Lower) (on Upper)) 0 (at_most row (neg_ℤ (k +ℤ pos 1))) b (below_way (ap (λ o. is_below o middle) here ∙ one_more_below k)) same refl
  equation (suc (suc (suc zero))) b e f =
      let same : at_least row (neg_ℤ k +ℤ pos 1) ≡ b = same_Some (at_least row (neg_ℤ k +ℤ pos 1)) b e in
      let here : on Lower ≡ Some (whole (neg_ℤ k +ℤ pos 1)) = found_at (at_least row (neg_ℤ k +ℤ pos 1)) b same f in
      read_as Above (way_of Eq k (on Lower) (on Upper)) 0 (at_least row (neg_ℤ k +ℤ pos 1)) b
      (above_way
      (upper_not_below_less (on Upper) middle (whole (neg_ℤ k +ℤ pos 1)) (one_more_above k) (upper_not_below on (on Upper) (whole (neg_ℤ k +ℤ pos 1)) ordered here refl))
      (ap (λ o. is_above o middle) here ∙ one_more_above k)) same refl
  equation (suc (suc (suc (suc i)))) b e f = absurd (cc)

  less : (i : ℕ) (b : Bound) → slice_get (row_bounds row Lt k) i ≡ Some b → IsFound b → IsAt (bounds_of row k (way_of Lt k (on Lower) (on Upper))) b
  less zero b e f =
      let same : at_most row (neg_ℤ (k +ℤ pos 1)) ≡ b = same_Some (at_most row (neg_ℤ (k +ℤ pos 1))) b e in
      let here : on Upper ≡ Some (whole (neg_ℤ (k +ℤ pos 1))) = found_at (at_most row (neg_ℤ (k +ℤ pos 1))) b same f in
      read_as Below (way_of Lt k (on Lower) (on Upper)) 0 (at_most row (neg_ℤ (k +ℤ pos 1))) b (ap (λ c. cond c Below AtLeast) (ap (λ o. is_below o middle) here ∙ one_more_below k)) same refl
  less (suc zero) b e f =
      let same : at_least row (neg_ℤ k) ≡ b = same_Some (at_least row (neg_ℤ k)) b e in
      let here : on Lower ≡ Some middle = found_at (at_least row (neg_ℤ k)) b same f in
      read_as AtLeast (way_of Lt k (on Lower) (on Upper)) 0 (at_least row (neg_ℤ k)) b (ap (λ c. cond c Below AtLeast) (upper_not_below on (on Upper) middle ordered here refl)) same refl
  less (suc (suc i)) b e f = absurd (cc)

  at_most_it : (i : ℕ) (b : Bound) → slice_get (row_bounds row Le k) i ≡ Some b → IsFound b → IsAt (bounds_of row k (way_of Le k (on Lower) (on Upper))) b
  at_most_it zero b e f =
      let same : at_most row (neg_ℤ k) ≡ b = same_Some (at_most row (neg_ℤ k)) b e in
      let here : on Upper ≡ Some middle = found_at (at_most row (neg_ℤ k)) b same f in
      read_as AtMost (way_of Le k (on Lower) (on Upper)) 0 (at_most row (neg_ℤ k)) b (ap (λ c. cond c Above AtMost) (lower_not_above on (on Lower) middle ordered here refl)) same refl
  at_most_it (suc zero) b e f =
      let same : at_least row (neg_ℤ k +ℤ pos 1) ≡ b = same_Some (at_least row (neg_ℤ k +ℤ pos 1)) b e in
      let here : on Lower ≡ Some (whole (neg_ℤ k +ℤ pos 1)) = found_at (at_least row (neg_ℤ k +ℤ pos 1)) b same f in
      read_as Above (way_of Le k (on Lower) (on Upper)) 0 (at_least row (neg_ℤ k +ℤ pos 1)) b (ap (λ c. cond c Above AtMost) (ap (λ o. is_above o middle) here ∙ one_more_above k)) same refl
  at_most_it (suc (suc i)) b e f = absurd (cc)

  pub read : (h : Head) (i : ℕ) (b : Bound) → slice_get (row_bounds row h k) i ≡ Some b → IsFound b → IsAt (bounds_of row k (way_of h k (on Lower) (on Upper))) b
  read Eq i b e f = equation i b e f
  read Lt i b e f = less i b e f
  read Le i b e f = at_most_it i b e f
  read q i b e f = absurd (cc)
