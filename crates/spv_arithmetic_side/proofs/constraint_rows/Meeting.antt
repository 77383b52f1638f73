-- A point that meets further bounds of one row.
use Rattle.std.proofs.Common.{◌≡◌, ℕ, suc, ◌+◌, ◌-◌, ◌<◌, Bool, true, false, ◌||◌, List, [], ◌∷◌, ◌++◌, length, nat_eq, nat_lt, refl, sym, ap, ◌∙◌, subst, Some, None, arith, if◌then◌else◌}
use Rattle.std.specs.Prelude.{slice_get}
use Rattle.std.proofs.lemmas.Bool.Decides.{nat_tests}
use Rattle.spv_frac.specs.rational.Rational.{Rational}
use Rattle.spv_atoms.specs.Linear.{IdForm}
use Rattle.spv_tableau_rules.specs.declared.tableaux.side.Side.{Side}
use Rattle.spv_tableau_rules.specs.declared.tableaux.side.Side.TheVariants.{Lower, Upper}
use Rattle.spv_tableau_rules.specs.tableaux.Rows.{Rows, Point, IsSolution, column_of}
use Rattle.spv_tableau_rules.specs.tableaux.Bounds.{Bound, bound_on, breaks, breaks_limit, is_out, limits, Meets, same_side}
use Rattle.spv_tableau_rules.proofs.pivots.Sums.{eq_is}
use Rattle.spv_tableau_rules.proofs.pivots.Tests.{and_left, and_right, limit_part, limit_row, meets_side}
use Rattle.spv_dictionary.proofs.pivoting.Bounding.{is_on}
use Rattle.spv_tableau_rules.specs.declared.constraints.saying.RowConstraint.{RowConstraint}
use Rattle.spv_tableau_rules.specs.constraints.Sayings.{bounds_of}
use Rattle.spv_tableau_rules.proofs.constraints.Bounding.{bound_on_row}
use Rattle.spv_simplex.specs.State.{IsTableau, kept_point, rows_in}
use Rattle.spv_simplex.specs.Checks.{IsFeasible}
use Rattle.spv_arithmetic_side.specs.declared.constraint_rows.standing.Standing.{Standing}
use Rattle.spv_arithmetic_side.specs.constraint_rows.Standing.{IsMet, IsMetAt, Stands}
use Rattle.spv_arithmetic_side.specs.constraint_rows.Forcing.{HasPoint}

same_side_is : (s t : Side) → same_side s t ≡ true → s ≡ t
same_side_is Lower Lower h = refl
same_side_is Upper Upper h = refl
same_side_is Lower Upper h = absurd (cc)
same_side_is Upper Lower h = absurd (cc)

-- a bound of this row that a value meets
record IsMetBy (row : ℕ) (v : Rational) (b : Bound) : Type 0 where
  row_is : b.row ≡ row
  met : breaks b.side b.value v ≡ false

module _ (row : ℕ) (v : Rational) where
  AreMet : List Bound → Type 0
  AreMet more = (j : ℕ) (b : Bound) → slice_get more j ≡ Some b → IsMetBy row v b

  -- a side of some row, whose value is v where it is this one
  side_of : (more : List Bound) → ((j : ℕ) (b : Bound) → slice_get more j ≡ Some b → IsMetBy row v b) → (i : ℕ) (side : Side) (x : Rational) → (i ≡ row → x ≡ v) → breaks_limit side (bound_on more i side) x ≡ false
  side_of [] each i side x same = refl
  side_of (b ∷ more) each i side x same = by_case (side_of more (λ j c at. each (suc j) c at) i side x same) (is_on b i side) refl
    where
      by_case : breaks_limit side (bound_on more i side) x ≡ false → (c : Bool) → is_on b i side ≡ c → breaks_limit side (if c then Some b.value else bound_on more i side) x ≡ false
      by_case rest false e = rest
      by_case rest true e =
          let here = each 0 b refl in
          let row_is : b.row ≡ i = eq_is b.row i (and_left (nat_eq b.row i) (same_side b.side side) e) in
          let side_is : b.side ≡ side = same_side_is b.side side (and_right (nat_eq b.row i) (same_side b.side side) e) in
          let value_is : x ≡ v = same (sym row_is ∙ here.row_is) in
          ap (λ s. breaks s b.value x) (sym side_is) ∙ (ap (breaks b.side b.value) value_is ∙ here.met)

neither : (b c : Bool) → b ≡ false → c ≡ false → (b || c) ≡ false
neither b c e f = rw (e, f) refl

-- a point meets bounds of one row that its value there meets
met_row : (rows : Rows) (more : List Bound) (v : Point) (row : ℕ) → ((j : ℕ) (b : Bound) → slice_get more j ≡ Some b → IsMetBy row (v (column_of rows row)) b) → Meets (limits rows more) v
met_row rows more v row each c = by_part (nat_lt c rows.parts) refl
  where
    part : (side : Side) → nat_lt c rows.parts ≡ true → breaks_limit side (limits rows more c side) (v c) ≡ false
    part side e = ap (λ o. breaks_limit side o (v c)) (limit_part rows more c side e) ∙ none side
      where
        none : (s : Side) → breaks_limit s None (v c) ≡ false
        none Lower = refl
        none Upper = refl

    on_row : (i : ℕ) (side : Side) → breaks_limit side (limits rows more (rows.parts + i) side) (v (rows.parts + i)) ≡ false
    on_row i side =
        ap (λ o. breaks_limit side o (v (rows.parts + i))) (limit_row rows more i side)
        ∙ side_of row (v (column_of rows row)) more each i side (v (rows.parts + i)) (λ e. ap (λ k. v (rows.parts + k)) e)

    column : nat_lt c rows.parts ≡ false → rows.parts + (c - rows.parts) ≡ c
    column e = grind (arith, nat_tests)

    by_part : (b : Bool) → nat_lt c rows.parts ≡ b → is_out (limits rows more) v c ≡ false
    by_part true e = neither _ _ (part Lower e) (part Upper e)
    by_part false e =
        subst (λ (d : ℕ). is_out (limits rows more) v d ≡ false) (column e)
        (neither (breaks_limit Lower (limits rows more (rows.parts + (c - rows.parts)) Lower) (v (rows.parts + (c - rows.parts))))
        (breaks_limit Upper (limits rows more (rows.parts + (c - rows.parts)) Upper) (v (rows.parts + (c - rows.parts)))) (on_row (c - rows.parts) Lower) (on_row (c - rows.parts) Upper))

-- where a saying stands, a point that meets all bounds meets it
pub stands_met : (b : Standing) (row : ℕ) (x : RowConstraint) → (v : Point) → Meets (limits (rows_in b.tableau) b.tableau.bounds) v → Stands b row x → IsMetAt b row x v
stands_met b row x v met stands = record {
  each = λ f at j bound there.
      ap (λ o. breaks_limit bound.side o (v (column_of (rows_in b.tableau) row))) (sym (limit_row (rows_in b.tableau) b.tableau.bounds row bound.side ∙ stands.each f at j bound there))
      ∙ meets_side (limits (rows_in b.tableau) b.tableau.bounds) v met (column_of (rows_in b.tableau) row) bound.side;
}

-- so it is a point for it
pub stands_point : (b : Standing) (row : ℕ) (x : RowConstraint) → (v : Point) → IsSolution (rows_in b.tableau) v → Meets (limits (rows_in b.tableau) b.tableau.bounds) v → Stands b row x → HasPoint b row x
stands_point b row x v solution met stands = record { point = v; solution = solution; stand = met; meets = stands_met b row x v met stands }

-- where the kept point meets all bounds and those of a saying, it is one for it
pub met_point : (b : Standing) (row : ℕ) (x : RowConstraint) → IsTableau b.tableau → IsFeasible b.tableau → IsMet b row x → HasPoint b row x
met_point b row x kept met at_point = record { point = kept_point b.tableau; solution = kept.solution; stand = met; meets = at_point }

-- a point that meets the bounds that a saying is on a row meets them alone
pub met_alone : (b : Standing) (row : ℕ) (x : RowConstraint) (v : Point) → IsMetAt b row x v → (f : IdForm) → slice_get b.tableau.forms row ≡ Some f → Meets (limits (rows_in b.tableau) (bounds_of row f.constant x)) v
met_alone b row x v met f at =
    met_row (rows_in b.tableau) (bounds_of row f.constant x) v row
    (λ j bound there. record { row_is = bound_on_row row f.constant x j bound there; met = met.each f at j bound there })
