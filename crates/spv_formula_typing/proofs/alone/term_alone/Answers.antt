use Rattle.std.proofs.Common.{◌≤◌, List, length, ap, ◌∙◌, subst}
use Rattle.spv_tree.specs.syntax.Formulas.{Factor}
use Rattle.spv_tree.specs.syntax.Lines.{factor_line}
use Rattle.spv_tree.specs.declared.syntax.operators.Multiplying.{Multiplying}
use Rattle.spv_typing.specs.OperatorWalk as spec
use Rattle.spv_formula_typing.proofs.Places.{more_factors_behind}
use Rattle.spv_formula_typing.proofs.alone.term_alone.Goals as goal

pub returns-in_default : goal.returns-in_default
returns-in_default c =
    more_factors_behind (factor_line c.tree.inside.first) c.tree.inside.first c.tree.inside.more.items
    (subst (λ (l : List (Multiplying × Factor)). 1 ≤ length l) c.as_slice.ensures.value c.in_default.len_at_least)
    ∙ ap spec.term_alone c.tree.view_is
