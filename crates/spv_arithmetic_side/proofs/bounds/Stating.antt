-- Numbers of the code as the definitions have them: bounds and multipliers.
use Rattle.std.proofs.Common.{◌≡◌, ℕ, Bool, true, false, [], ◌∷◌, ℤ, pos, ◌+ℤ◌, neg_ℤ, sym, ap, ◌∙◌}
use mir.Val.{to_z, of_z}
use mir.Syntax.{w128}
use Rattle.spv_logic.proofs.list.Tests.{left_true}
use Rattle.spv_whole.specs.Fraction.{Fraction, IsLowest, negated}
use Rattle.spv_whole.specs.Fraction as fraction
use Rattle.spv_frac.specs.rational.Rational.{Rational, whole, number}
use Rattle.spv_frac.proofs.rational.Field.{number_is, number_whole}
use Rattle.spv_frac.specs.Range.{fits}
use Rattle.spv_atoms.proofs.Sums.{narrow}
use Rattle.spv_tableau_rules.specs.declared.tableaux.side.Side.{Side}
use Rattle.spv_tableau_rules.specs.declared.tableaux.side.Side.TheVariants.{Lower, Upper}
use Rattle.spv_tableau_rules.specs.tableaux.Bounds.{Bound}
use Rattle.spv_tableau_rules.specs.tableaux.Contradictions.{signed}
use Rattle.spv_tableau_rules.specs.declared.constraints.saying.RowConstraint.{RowConstraint}
use Rattle.spv_tableau_rules.specs.constraints.Sayings.{bounds_of}
use Rattle.spv_tableau_rules.specs.constraints.Sources.{multiplier}
use Rattle.spv_arithmetic_side.specs.bounds.Bounds.{has_room}

-- ---- bounds

pub room_fits : (k : ℤ) → has_room k ≡ true → fits k ≡ true
room_fits k h = left_true (fits k) _ h

-- a number that went to bits and back, with the other sign, and the one after it
pub opposite_of : (k x : ℤ) → fits k ≡ true → x ≡ neg_ℤ (to_z w128 (of_z w128 k)) → x ≡ neg_ℤ k
opposite_of k x h e = e ∙ ap neg_ℤ (narrow k h)

pub next_of : (k x : ℤ) → fits k ≡ true → x ≡ to_z w128 (of_z w128 k) +ℤ pos 1 → x ≡ k +ℤ pos 1
next_of k x h e = e ∙ ap (λ z. z +ℤ pos 1) (narrow k h)

pub value_of : (f : Fraction) (x n : ℤ) → f ≡ fraction.whole (to_z w128 (of_z w128 x)) → fits x ≡ true → x ≡ n → number f ≡ whole n
value_of f x n e h is = ap number e ∙ (ap (λ z. number (fraction.whole z)) (narrow x h ∙ is) ∙ number_whole n)

abbrev pub bound : ℕ → Side → Rational → Bound
bound row side value = record { row = row; side = side; value = value }

pub one_bound : (side : Side) (x y : Rational) → x ≡ y → (known said : RowConstraint) → said ≡ known → (k : ℤ) → ((row : ℕ) → bound row side y ∷ [] ≡ bounds_of row k known) → (row : ℕ) → bound row side x ∷ [] ≡ bounds_of row k said
one_bound side x y e known said is k h row = ap (λ v. bound row side v ∷ []) e ∙ (h row ∙ ap (bounds_of row k) (sym is))

pub two_bounds : (x y : Rational) → x ≡ y → (known said : RowConstraint) → said ≡ known → (k : ℤ) → ((row : ℕ) → bound row Lower y ∷ bound row Upper y ∷ [] ≡ bounds_of row k known)
    → (row : ℕ) → bound row Lower x ∷ bound row Upper x ∷ [] ≡ bounds_of row k said
two_bounds x y e known said is k h row = ap (λ v. bound row Lower v ∷ bound row Upper v ∷ []) e ∙ (h row ∙ ap (bounds_of row k) (sym is))

-- ---- multipliers

pub lower_is : (f r : Fraction) (side : Side) → IsLowest f → side ≡ Lower → r ≡ negated f → r ≡ (signed side (number f)).fraction
lower_is f r side h is e = e ∙ (ap negated (sym (number_is f h)) ∙ ap (λ d. (signed d (number f)).fraction) (sym is))

pub upper_is : (f : Fraction) (side : Side) → IsLowest f → side ≡ Upper → f ≡ (signed side (number f)).fraction
upper_is f side h is = sym (number_is f h) ∙ ap (λ d. (signed d (number f)).fraction) (sym is)

pub equal_is : (f r : Fraction) (side : Side) (b : Bool) → b ≡ true → r ≡ (signed side (number f)).fraction → r ≡ (multiplier b side (number f)).fraction
equal_is f r side b is e = e ∙ ap (λ c. (multiplier c side (number f)).fraction) (sym is)

pub factor_is : (f : Fraction) (side : Side) (b : Bool) → IsLowest f → b ≡ false → f ≡ (multiplier b side (number f)).fraction
factor_is f side b h is = sym (number_is f h) ∙ ap (λ c. (multiplier c side (number f)).fraction) (sym is)
