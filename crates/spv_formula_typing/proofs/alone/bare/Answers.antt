use Rattle.std.proofs.Common.{◌≤◌, List, Some, length, ap, ◌∙◌, subst}
use Rattle.spv_tree.specs.syntax.Formulas.{Selector, Designator}
use Rattle.spv_typing.specs.OperatorWalk as spec
use Rattle.spv_formula_typing.proofs.Places.{more_selectors}
use Rattle.spv_formula_typing.proofs.alone.bare.Goals as goal

pub returns-in_default : goal.returns-in_default
returns-in_default c =
    more_selectors c.tree.inside.name.line c.tree.inside.name c.tree.inside.behind.items
    (subst (λ (l : List Selector). 1 ≤ length l) c.as_slice.ensures.value c.in_default.len_at_least)
    ∙ ap (λ (d : Designator). spec.bare (Some d)) c.tree.view_is
