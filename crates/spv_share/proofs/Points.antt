-- A point for an order of the sides of a row.
use Rattle.std.proofs.Common.{ℕ, ◌<◌, List, ◌++◌, length, sym, ap, ◌∙◌, subst, inl, inr}
use Rattle.std.specs.Prelude.{slice_get}
use Rattle.spv_atoms.specs.Linear.{IdForm}
use Rattle.spv_tableau_rules.specs.tableaux.Rows.{column_of, IsSolution}
use Rattle.spv_tableau_rules.specs.tableaux.Bounds.{Bound, bound_on, breaks, limits, Meets}
use Rattle.spv_tableau_rules.specs.tableaux.Forms.{rows_of}
use Rattle.spv_tableau_rules.specs.declared.constraints.saying.RowConstraint.{RowConstraint}
use Rattle.spv_tableau_rules.specs.declared.constraints.saying.RowConstraint.TheVariants.{Above, Below}
use Rattle.spv_simplex.specs.State.{IsTableau, kept_point}
use Rattle.spv_simplex.specs.Checks.{IsFeasible}
use Rattle.spv_arithmetic_side.specs.declared.constraint_rows.standing.Standing.{Standing}
use Rattle.spv_arithmetic_side.specs.constraint_rows.Standing.{IsBack, IsMet, Stands}
use Rattle.spv_arithmetic_side.specs.constraint_rows.Forcing.{HasPoint}
use Rattle.spv_arithmetic_side.proofs.constraint_rows.Meeting.{met_point, stands_point}
use Rattle.spv_share.specs.States.{HasOrder, IsApart, by_point, by_bounds}

pub split_above : (b : Standing) (row : ℕ) → IsTableau b.tableau → IsFeasible b.tableau → IsMet b row Above → IsApart b row
split_above b row kept met at_point = by_point (inl (met_point b row Above kept met at_point))

pub split_below : (b : Standing) (row : ℕ) → IsTableau b.tableau → IsFeasible b.tableau → IsMet b row Below → IsApart b row
split_below b row kept met at_point = by_point (inr (met_point b row Below kept met at_point))

-- ---- where rows and bounds are the same

pub stands_back : (old new : Standing) (row : ℕ) (x : RowConstraint) → IsBack old new → Stands old row x → Stands new row x
stands_back old new row x back h = record {
  each = λ f at j bound there. ap (λ bs. bound_on bs row bound.side) back.bounds ∙ h.each f (ap (λ fs. slice_get fs row) (sym back.forms) ∙ at) j bound there;
}

pub point_back : (old new : Standing) (row : ℕ) (x : RowConstraint) → IsBack old new → HasPoint old row x → HasPoint new row x
point_back old new row x back h = record {
  point = h.point;
  solution = subst (λ (fs : List IdForm). IsSolution (rows_of fs) h.point) (sym back.forms) h.solution;
  stand =
      subst (λ (fs : List IdForm). Meets (limits (rows_of fs) new.tableau.bounds) h.point) (sym back.forms)
      (subst (λ (bs : List Bound). Meets (limits (rows_of old.tableau.forms) bs) h.point) (sym back.bounds) h.stand);
  meets = record {
    each = λ f at j bound there.
        ap (λ (fs : List IdForm). breaks bound.side bound.value (h.point (column_of (rows_of fs) row))) back.forms
        ∙ h.meets.each f (ap (λ fs. slice_get fs row) (sym back.forms) ∙ at) j bound there;
  };
}

pub apart_back : (old new : Standing) (row : ℕ) → IsBack old new → IsApart old row → IsApart new row
apart_back old new row back (by_point h) = by_point (elim h [ inl p ↦ inl (point_back old new row Above back p) | inr p ↦ inr (point_back old new row Below back p) ])
apart_back old new row back (by_bounds h) = by_bounds (elim h [ inl p ↦ inl (stands_back old new row Above back p) | inr p ↦ inr (stands_back old new row Below back p) ])

-- where the kept point meets all bounds, there is a point for one order
pub has_order : (b : Standing) (row : ℕ) → IsTableau b.tableau → IsFeasible b.tableau → IsApart b row → HasOrder b row
has_order b row kept met (by_point h) = h
has_order b row kept met (by_bounds h) = elim h [ inl p ↦ inl (stands_point b row Above (kept_point b.tableau) kept.solution met p) | inr p ↦ inr (stands_point b row Below (kept_point b.tableau) kept.solution met p) ]
