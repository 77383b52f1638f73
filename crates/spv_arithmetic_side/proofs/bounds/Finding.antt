-- Bounds of the code, as they are found.
use Rattle.std.proofs.Common.{◌≡◌, ℕ, true, false, cond, ◌&&◌, List, ◌++◌, nat_eq, refl, ap, ◌∙◌, Option, Some, None}
use Rattle.std.specs.Option.{option_map}
use Rattle.spv_whole.specs.Fraction.{Fraction}
use Rattle.spv_frac.specs.rational.Rational.{Rational, number}
use Rattle.spv_tableau_rules.specs.declared.tableaux.side.Side.TheVariants.{Lower, Upper}
use Rattle.spv_tableau_rules.specs.tableaux.Bounds.{Bound, bound_on}
use Rattle.spv_tableau_rules.proofs.pivots.Sums.{eq_self}
use Rattle.spv_arithmetic_side.specs.bounds.Bounds.{bound_at}

-- what is found of a bound on this side, and of one on the other
found : (row : ℕ) (f : Fraction) (others : List Bound) → cond (nat_eq row row && true) (Some (number f)) (bound_on others row Lower) ≡ Some (number f)
found row f others = ap (λ c. cond (c && true) (Some (number f)) (bound_on others row Lower)) (eq_self row)

found_upper : (row : ℕ) (f : Fraction) → cond (nat_eq row row && true) (Some (number f)) None ≡ Some (number f)
found_upper row f = ap (λ c. cond (c && true) (Some (number f)) None) (eq_self row)

passed : (row : ℕ) (x o : Option Rational) → cond (nat_eq row row && false) x o ≡ o
passed row x o = ap (λ c. cond (c && false) x o) (eq_self row)

pub lower_found : (row : ℕ) (lower upper : Option Fraction) → bound_on (bound_at row Lower lower ++ bound_at row Upper upper) row Lower ≡ option_map number lower
lower_found row None None = refl
lower_found row None (Some g) = passed row (Some (number g)) None
lower_found row (Some f) upper = found row f (bound_at row Upper upper)

pub upper_found : (row : ℕ) (lower upper : Option Fraction) → bound_on (bound_at row Lower lower ++ bound_at row Upper upper) row Upper ≡ option_map number upper
upper_found row None None = refl
upper_found row None (Some g) = found_upper row g
upper_found row (Some f) None = passed row (Some (number f)) None
upper_found row (Some f) (Some g) = passed row (Some (number f)) _ ∙ found_upper row g
