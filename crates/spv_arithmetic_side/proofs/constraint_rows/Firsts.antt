-- A point that meets bounds meets the first of them.
use Rattle.std.proofs.Common.{◌≡◌, ℕ, ◌+◌, ◌-◌, Bool, true, false, ◌||◌, List, take, drop, nat_lt, refl, sym, ap, ◌∙◌, subst, Option, Some, None, Result, Ok, Err, IfOk, arith}
use Rattle.std.proofs.lemmas.Bool.Decides.{nat_tests}
use Rattle.std.proofs.lemmas.List.{take-append-drop}
use Rattle.spv_frac.specs.rational.Rational.{Rational}
use Rattle.spv_tableau_rules.specs.declared.tableaux.side.Side.{Side}
use Rattle.spv_tableau_rules.specs.declared.tableaux.side.Side.TheVariants.{Lower, Upper}
use Rattle.spv_tableau_rules.specs.tableaux.Rows.{Rows, Point}
use Rattle.spv_tableau_rules.specs.tableaux.Bounds.{Bound, bound_on, breaks_limit, is_out, limits, Meets}
use Rattle.spv_tableau_rules.proofs.pivots.Tests.{limit_part, limit_row, meets_side}
use Rattle.spv_tableau_rules.proofs.constraints.Sourcing.{bound_stays}
use Rattle.spv_simplex.specs.declared.checked.Checked.{Checked}
use Rattle.spv_simplex.specs.declared.checked.Checked.TheVariants.{Feasible}
use Rattle.spv_simplex.specs.State.{State, kept_point, rows_in, with_first}
use Rattle.spv_simplex.specs.Checks.{IsChecked, IsFeasible, Means}
use Rattle.spv_arithmetic_side.specs.declared.constraint_rows.standing.Standing.{Standing}
use Rattle.spv_arithmetic_side.specs.declared.constraint_rows.forcing.Tried.{Tried}
use Rattle.spv_arithmetic_side.specs.declared.constraint_rows.forcing.Tried.TheVariants.{Refuted, Met, Stopped}
use Rattle.spv_arithmetic_side.specs.constraint_rows.Forcing.{IsOutcome}

neither : (b c : Bool) → b ≡ false → c ≡ false → (b || c) ≡ false
neither b c e f = rw (e, f) refl

nothing_broken : (side : Side) (x : Rational) → breaks_limit side None x ≡ false
nothing_broken Lower x = refl
nothing_broken Upper x = refl

module _ (rows : Rows) (bounds : List Bound) (n : ℕ) (v : Point) (met : Meets (limits rows bounds) v) where
  on_row : (i : ℕ) (side : Side) → breaks_limit side (limits rows (take n bounds) (rows.parts + i) side) (v (rows.parts + i)) ≡ false
  on_row i side = by_option (bound_on (take n bounds) i side) refl
    where
      by_option : (o : Option Rational) → bound_on (take n bounds) i side ≡ o → breaks_limit side (limits rows (take n bounds) (rows.parts + i) side) (v (rows.parts + i)) ≡ false
      by_option None e = ap (λ o. breaks_limit side o (v (rows.parts + i))) (limit_row rows (take n bounds) i side ∙ e) ∙ nothing_broken side (v (rows.parts + i))
      by_option (Some x) e =
          let there : bound_on bounds i side ≡ Some x =
          subst (λ (bs : List Bound). bound_on bs i side ≡ Some x) (take-append-drop n bounds) (bound_stays (take n bounds) (drop n bounds) i side x e) in
          ap (λ o. breaks_limit side o (v (rows.parts + i))) (limit_row rows (take n bounds) i side ∙ (e ∙ (sym there ∙ sym (limit_row rows bounds i side))))
          ∙ meets_side (limits rows bounds) v met (rows.parts + i) side

  column : (c : ℕ) → nat_lt c rows.parts ≡ false → rows.parts + (c - rows.parts) ≡ c
  column c e = grind (arith, nat_tests)

  at_part : (c : ℕ) (side : Side) → nat_lt c rows.parts ≡ true → breaks_limit side (limits rows (take n bounds) c side) (v c) ≡ false
  at_part c side e = ap (λ o. breaks_limit side o (v c)) (limit_part rows (take n bounds) c side e) ∙ nothing_broken side (v c)

  pub met_first : Meets (limits rows (take n bounds)) v
  met_first c = by_part (nat_lt c rows.parts) refl
    where
      by_part : (b : Bool) → nat_lt c rows.parts ≡ b → is_out (limits rows (take n bounds)) v c ≡ false
      by_part true e =
          neither (breaks_limit Lower (limits rows (take n bounds) c Lower) (v c)) (breaks_limit Upper (limits rows (take n bounds) c Upper) (v c)) (at_part c Lower e) (at_part c Upper e)
      by_part false e =
          subst (λ (d : ℕ). is_out (limits rows (take n bounds)) v d ≡ false) (column c e)
          (neither (breaks_limit Lower (limits rows (take n bounds) (rows.parts + (c - rows.parts)) Lower) (v (rows.parts + (c - rows.parts))))
          (breaks_limit Upper (limits rows (take n bounds) (rows.parts + (c - rows.parts)) Upper) (v (rows.parts + (c - rows.parts)))) (on_row (c - rows.parts) Lower) (on_row (c - rows.parts) Upper))

-- after a check that some point meets, the kept point meets the first bounds
feasible_first : (old new : State) (checked : Checked) (n : ℕ) → checked ≡ Feasible → IsChecked old new checked → IsFeasible (with_first new n)
feasible_first old new checked n e is =
    let P : Checked → Type 0 = λ k. Means k old new in
    met_first (rows_in new) new.bounds n (kept_point new) (subst P e is.means)

pub tried_met : {E : Type 0} (r : Result Tried E) (b : Standing) (old new : State) (checked : Checked) (n : ℕ) (last : State) → IsChecked old new checked → last ≡ with_first new n → IfOk r (λ t. IsOutcome b checked t)
    → IfOk r (λ t. t ≡ Met → IsFeasible last)
tried_met (Err e) b old new checked n last is same h = tt
tried_met (Ok t) b old new checked n last is same h = λ e. by_tried t h e
  where
    by_tried : (t : Tried) → IsOutcome b checked t → t ≡ Met → IsFeasible last
    by_tried Met h e = subst IsFeasible (sym same) (feasible_first old new checked n h is)
    by_tried (Refuted ms) h e = absurd (cc)
    by_tried Stopped h e = absurd (cc)
