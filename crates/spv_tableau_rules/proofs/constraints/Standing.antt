-- What a point that meets all bounds makes true.
use Rattle.std.proofs.Common.{◌≡◌, ℕ, suc, true, not, List, [], ◌∷◌, pos, refl, sym, ap, ◌∙◌, Some}
use Rattle.std.specs.Prelude.{slice_get}
use Rattle.spv_frac.specs.rational.Rational.{Rational, is_zero}
use Rattle.spv_frac.proofs.rational.Field.{plus_zero}
use Rattle.spv_frac.proofs.rational.Signs.{zero_is}
use Rattle.spv_logic.specs.Terms.{Term}
use Rattle.spv_term.specs.Arena.{Arena, IsArena}
use Rattle.spv_atoms.specs.Forms.{form}
use Rattle.spv_atoms.specs.Linear.{IdForm}
use Rattle.spv_atoms.proofs.Coefficients.{both_true}
use Rattle.spv_proof_rules.specs.Sums.{Reading, difference}
use Rattle.spv_tableau_rules.specs.tableaux.Numbers.{minus}
use Rattle.spv_tableau_rules.specs.tableaux.Rows.{Rows, column_of, Point, IsSolution}
use Rattle.spv_tableau_rules.specs.tableaux.Bounds.{Bound, bound_on, breaks, breaks_limit, limits, Meets}
use Rattle.spv_tableau_rules.specs.tableaux.Forms.{rows_of}
use Rattle.spv_tableau_rules.proofs.pivots.Algebra.{minus_itself, equal_of}
use Rattle.spv_tableau_rules.proofs.pivots.Tests.{limit_row, meets_side, not_false}
use Rattle.spv_tableau_rules.specs.declared.constraints.saying.RowConstraint.{RowConstraint}
use Rattle.spv_tableau_rules.specs.constraints.Sayings.{reading_of, bounds_of}
use Rattle.spv_tableau_rules.specs.constraints.Relations.{IsRowOf, AreIn}
use Rattle.spv_tableau_rules.specs.constraints.Values.{form_value, part_value, holds_at, meets}
use Rattle.spv_tableau_rules.proofs.constraints.Values.{difference-value}
use Rattle.spv_tableau_rules.proofs.constraints.Meeting.{met_where_true}

-- a bound that stands is met
bound_met : (rows : Rows) (bounds : List Bound) (v : Point) → Meets (limits rows bounds) v → (i : ℕ) (b : Bound) → bound_on bounds i b.side ≡ Some b.value → not (breaks b.side b.value (v (column_of rows i))) ≡ true
bound_met rows bounds v met i b stands =
    not_false (breaks b.side b.value (v (column_of rows i)))
    (ap (λ o. breaks_limit b.side o (v (column_of rows i))) (sym (limit_row rows bounds i b.side ∙ stands)) ∙ meets_side (limits rows bounds) v met (column_of rows i) b.side)

all_met : (rows : Rows) (bounds : List Bound) (v : Point) → Meets (limits rows bounds) v → (i : ℕ) (bs : List Bound) → ((j : ℕ) (b : Bound) → slice_get bs j ≡ Some b → bound_on bounds i b.side ≡ Some b.value)
    → meets (v (column_of rows i)) bs ≡ true
all_met rows bounds v met i [] stand = refl
all_met rows bounds v met i (b ∷ bs) stand =
    both_true (not (breaks b.side b.value (v (column_of rows i)))) (meets (v (column_of rows i)) bs) (bound_met rows bounds v met i b (stand 0 b refl))
    (all_met rows bounds v met i bs (λ j c at. stand (suc j) c at))

pub true_where_standing : (a : Arena) → IsArena a → (forms : List IdForm) → AreIn a forms → (bounds : List Bound) (v : Point) → IsSolution (rows_of forms) v → Meets (limits (rows_of forms) bounds) v
    → (i : ℕ) (f : IdForm) → slice_get forms i ≡ Some f → (s t : Term) → IsRowOf a (s, t) f → (x : RowConstraint) (r : Reading) → reading_of x s t ≡ Some r
    → ((j : ℕ) (b : Bound) → slice_get (bounds_of i f.constant x) j ≡ Some b → bound_on bounds i b.side ≡ Some b.value) → holds_at (part_value a forms v) r ≡ true
true_where_standing a ok forms inside bounds v solution met i f at s t row x r read stand =
    sym (met_where_true a ok forms inside v solution i f at s t row x r read) ∙ all_met (rows_of forms) bounds v met i (bounds_of i f.constant x) stand

-- ---- equations

worth : (value : Term → Rational) (s t : Term) → form_value value (difference s t (pos 0)) ≡ minus (form_value value (form s)) (form_value value (form t))
worth value s t = difference-value value s t (pos 0) ∙ plus_zero (minus (form_value value (form s)) (form_value value (form t)))

pub equal_where_true : (value : Term → Rational) (s t : Term) → holds_at value (record { form = difference s t (pos 0); is_equal = true }) ≡ true → form_value value (form s) ≡ form_value value (form t)
equal_where_true value s t h = equal_of (form_value value (form s)) (form_value value (form t)) (sym (worth value s t) ∙ zero_is (form_value value (difference s t (pos 0))) h)

pub true_where_equal : (value : Term → Rational) (s t : Term) → form_value value (form s) ≡ form_value value (form t) → holds_at value (record { form = difference s t (pos 0); is_equal = true }) ≡ true
true_where_equal value s t e = ap is_zero (worth value s t ∙ minus_itself (form_value value (form s)) (form_value value (form t)) e)
