use Rattle.std.proofs.Common.{List, ◌+◌, slice_index_or, subst, length, ◌<◌, sym, ap, ◌∙◌}
use Rattle.spv_frac.specs.rational.Rational.{Rational}
use Rattle.spv_tableau_rules.specs.tableaux.Rows.{column_of}
use Rattle.spv_simplex.specs.State.{State, kept_point, rows_in}
use Rattle.spv_simplex.proofs.Reading.{row_value_is}
use Rattle.spv_simplex.proofs.tableau.Tableau.row_value.Goals as goal

pub returns : goal.returns
returns c =
    row_value_is _ c.self.inside.parts c.self.inside.trail _ _ c.self.invariant c.args.row c.len.result
    (subst (λ (s : State). c.args.row < length s.forms) (sym c.self.view_is) c.requires) c.len.ensures c.index-values-place.result c.frac.result
    (c.index-values-place.is ∙ ap (λ (values : List Rational). slice_index_or values (c.len.result + c.args.row) c.index-values-place.result) c.as_slice-values.ensures.value) c.frac.ensures
    ∙ ap (λ (s : State). kept_point s (column_of (rows_in s) c.args.row)) c.self.view_is
