-- A contradiction of the bounds means that no solution meets them.
use Rattle.std.proofs.Common.{◌≡◌, ℕ, ◌+◌, ◌<◌, true, false, List, [], ◌∷◌, Option, Some, None, nat_lt, sym, ap, ◌∙◌, arith}
use Rattle.std.specs.List.{list_all}
use Rattle.std.proofs.lemmas.Bool.{false≢true}
use Rattle.std.proofs.lemmas.Bool.Decides.{nat_tests}
use mathlib.Core.Path.{ap₂}
use Rattle.spv_frac.specs.rational.Rational.{Rational, plus, times, opposite, is_positive, is_negative}
use Rattle.spv_frac.proofs.rational.Field.{plus_comm, plus_opposite, zero_plus, plus_middle, zero_times, times_assoc, plus_times}
use Rattle.spv_frac.proofs.rational.Signs.{not_positive_plus, not_positive_times}
use Rattle.spv_tableau_rules.specs.declared.tableaux.side.Side.{Side}
use Rattle.spv_tableau_rules.specs.declared.tableaux.side.Side.TheVariants.{Lower, Upper}
use Rattle.spv_tableau_rules.specs.tableaux.Numbers.{nothing, minus, sum_to}
use Rattle.spv_tableau_rules.specs.tableaux.Rows.{Rows, Point, IsSolution}
use Rattle.spv_tableau_rules.specs.tableaux.Bounds.{Bound, bound_on, is_none, or_nothing, limits, breaks_limit, Meets}
use Rattle.spv_tableau_rules.specs.tableaux.Contradictions.{Multiple, signed, coefficient_sum, bound_sum, is_multiple}
use Rattle.spv_tableau_rules.specs.pivots.Laws.{ContradictionRefutes}
use Rattle.spv_tableau_rules.proofs.pivots.Algebra.{clash, opposite_times, opposite_opposite, opposite_sum, times_minus, positive_opposite, less_is}
use Rattle.spv_tableau_rules.proofs.pivots.Sums.{sum_same, sum_plus, sum_times, sum_opposite, sum_nothing}
use Rattle.spv_tableau_rules.proofs.pivots.Tests.{and_left, and_right, not_true, limit_row, meets_side}

-- what the multiples of the rows' columns sum to at a point
value_sum : Rows → Point → List Multiple → Rational
value_sum rows v [] = nothing
value_sum rows v (m ∷ multiples) = plus (signed m.side (times m.factor (v (rows.parts + m.row)))) (value_sum rows v multiples)

row_below : (rows : Rows) (bounds : List Bound) (m : Multiple) → is_multiple rows bounds m ≡ true → m.row < rows.count
row_below rows bounds m h = below m.row rows.count (and_left (nat_lt m.row rows.count) _ h)
  where
    below : (a b : ℕ) → nat_lt a b ≡ true → a < b
    below a b h = grind (arith, nat_tests)

-- a multiple of a sum, over the sum's members
factor_sum : (n : ℕ) (k : Rational) (f v : ℕ → Rational) → times k (sum_to n (λ c. times (f c) (v c))) ≡ sum_to n (λ c. times (times k (f c)) (v c))
factor_sum n k f v = sym (sum_times n k (λ c. times (f c) (v c))) ∙ sum_same n _ _ (λ c below. sym (times_assoc k (f c) (v c)))

signed_sum : (side : Side) (n : ℕ) (k : Rational) (f v : ℕ → Rational)
    → signed side (times k (sum_to n (λ c. times (f c) (v c)))) ≡ sum_to n (λ c. times (signed side (times k (f c))) (v c))
signed_sum Upper n k f v = factor_sum n k f v
signed_sum Lower n k f v =
    ap opposite (factor_sum n k f v) ∙ sym (sum_opposite n (λ c. times (times k (f c)) (v c))) ∙ sum_same n _ _ (λ c below. sym (opposite_times (times k (f c)) (v c)))

-- over the parts
value_is : (rows : Rows) (bounds : List Bound) (v : Point) → IsSolution rows v → (multiples : List Multiple) → list_all (is_multiple rows bounds) multiples ≡ true
    → value_sum rows v multiples ≡ sum_to rows.parts (λ c. times (coefficient_sum rows multiples c) (v c))
unfolding value_sum
value_is rows bounds v solution [] each = sym (sum_nothing rows.parts _ (λ c below. zero_times (v c)))
value_is rows bounds v solution (m ∷ multiples) each =
    ap₂ plus
    (ap (λ x. signed m.side (times m.factor x)) (solution m.row (row_below rows bounds m (and_left (is_multiple rows bounds m) _ each))) ∙ signed_sum m.side rows.parts m.factor (rows.coefficient m.row) v)
    (value_is rows bounds v solution multiples (and_right (is_multiple rows bounds m) _ each))
    ∙ sym (sum_plus rows.parts (λ c. times (signed m.side (times m.factor (rows.coefficient m.row c))) (v c)) (λ c. times (coefficient_sum rows multiples c) (v c)))
    ∙ sum_same rows.parts _ _ (λ c below. sym (plus_times (signed m.side (times m.factor (rows.coefficient m.row c))) (coefficient_sum rows multiples c) (v c)))

-- ---- each multiple is at most that of its bound

at_most : (side : Side) (k x : Rational) (bound : Option Rational) → is_none bound ≡ false → is_negative k ≡ false → breaks_limit side bound x ≡ false
    → is_positive (minus (signed side (times k x)) (signed side (times k (or_nothing bound)))) ≡ false
at_most side k x None stands h inside = absurd (false≢true (sym stands))
at_most Upper k x (Some b) stands h inside = ap is_positive (sym (times_minus k x b)) ∙ not_positive_times k (minus x b) h (sym (less_is b x) ∙ inside)
at_most Lower k x (Some b) stands h inside =
    ap is_positive (turned (times k x) (times k b) ∙ sym (times_minus k b x)) ∙ not_positive_times k (minus b x) h (sym (less_is x b) ∙ inside)
  where
    turned : (p q : Rational) → minus (opposite p) (opposite q) ≡ minus q p
    turned p q = ap (plus (opposite p)) (opposite_opposite q) ∙ plus_comm (opposite p) q

differences : (a b c d : Rational) → minus (plus a b) (plus c d) ≡ plus (minus a c) (minus b d)
differences a b c d = ap (plus (plus a b)) (opposite_sum c d) ∙ plus_middle a b (opposite c) (opposite d)

all_at_most : (rows : Rows) (bounds : List Bound) (v : Point) → Meets (limits rows bounds) v → (multiples : List Multiple) → list_all (is_multiple rows bounds) multiples ≡ true
    → is_positive (minus (value_sum rows v multiples) (bound_sum bounds multiples)) ≡ false
unfolding value_sum
all_at_most rows bounds v meets [] each = ap is_positive (plus_opposite nothing)
all_at_most rows bounds v meets (m ∷ multiples) each =
    let first = and_left (is_multiple rows bounds m) _ each in
    let stands = and_right (nat_lt m.row rows.count) _ first in
    let a : Rational = signed m.side (times m.factor (v (rows.parts + m.row))) in
    let c : Rational = signed m.side (times m.factor (or_nothing (bound_on bounds m.row m.side))) in
    ap is_positive (differences a (value_sum rows v multiples) c (bound_sum bounds multiples))
    ∙ not_positive_plus (minus a c) (minus (value_sum rows v multiples) (bound_sum bounds multiples))
    (at_most m.side m.factor (v (rows.parts + m.row)) (bound_on bounds m.row m.side) (not_true _ (and_left _ _ stands)) (not_true _ (and_right _ _ stands))
    (ap (λ b. breaks_limit m.side b (v (rows.parts + m.row))) (sym (limit_row rows bounds m.row m.side)) ∙ meets_side (limits rows bounds) v meets (rows.parts + m.row) m.side))
    (all_at_most rows bounds v meets multiples (and_right (is_multiple rows bounds m) _ each))

pub refutes : ContradictionRefutes
refutes rows bounds multiples h v solution meets =
    clash (is_negative (bound_sum bounds multiples)) h.negative
    (sym (positive_opposite (bound_sum bounds multiples)) ∙ ap is_positive (sym (zero_plus (opposite (bound_sum bounds multiples)))) ∙ ap (λ x. is_positive (minus x (bound_sum bounds multiples))) (sym value_zero) ∙ all_at_most rows bounds v meets multiples h.each)
  where
    value_zero : value_sum rows v multiples ≡ nothing
    value_zero =
        value_is rows bounds v solution multiples h.each
        ∙ sum_nothing rows.parts _ (λ c below. ap (λ x. times x (v c)) (h.cancel c below) ∙ zero_times (v c))
