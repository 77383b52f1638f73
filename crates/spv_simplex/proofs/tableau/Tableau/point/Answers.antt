use Rattle.std.proofs.Common.{◌≡◌, List, true, slice_index_or, sym, ap, ◌∙◌, subst}
use Rattle.std.specs.List.{list_any}
use Rattle.spv_logic.specs.declared.conditions.TermId.{TermId}
use Rattle.spv_atoms.specs.Order.{same_id}
use Rattle.spv_frac.specs.rational.Rational.{Rational}
use Rattle.spv_tableau_rules.specs.tableaux.Forms.{part_ids}
use Rattle.spv_simplex.specs.State.{State, value_of}
use Rattle.spv_simplex.proofs.Reading.{is_there, value_is}
use Rattle.spv_simplex.proofs.tableau.Tableau.point.Goals as goal

pub unwrap-place-requires : goal.unwrap-place-requires
unwrap-place-requires c =
    is_there c.args.t c.self.inside.parts c.place.result
    (subst (λ (ids : List TermId). list_any (same_id c.args.t) ids ≡ true) (sym (c.self.invariant.ids_are ∙ ap (λ (s : State). part_ids s.forms) c.self.view_is)) c.requires.column) c.place.ensures

pub returns : goal.returns
returns c =
    value_is _ c.self.inside.parts c.self.inside.trail _ _ c.self.invariant c.args.t c.place.result c.unwrap-place.result c.place.ensures c.unwrap-place.ensures c.index-values-place.result c.frac.result (c.index-values-place.is ∙ ap (λ (values : List Rational). slice_index_or values c.unwrap-place.result c.index-values-place.result) c.as_slice-values.ensures.value) c.frac.ensures
    ∙ ap (λ (s : State). value_of s c.args.t) c.self.view_is
