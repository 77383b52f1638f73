use Rattle.std.proofs.Common.{◌≤◌, List, length, ap, ◌∙◌, sym, subst}
use Rattle.spv_tree.specs.syntax.Formulas.{Factor}
use Rattle.spv_tree.specs.syntax.Lines.{factor_line}
use Rattle.spv_tree.specs.declared.syntax.operators.Multiplying.{Multiplying}
use Rattle.spv_formula_typing.specs.Operands.{numeral_alone}
use Rattle.spv_formula_typing.proofs.Places.{no_number}
use Rattle.spv_formula_typing.proofs.alone.number_alone.Goals as goal

pub returns-in_default-clause-none : goal.returns-in_default-clause-none
returns-in_default-clause-none c =
    sym (ap numeral_alone c.tree.view_is)
    ∙ no_number (factor_line c.tree.inside.first) c.tree.inside.first c.tree.inside.more.items
    (subst (λ (l : List (Multiplying × Factor)). 1 ≤ length l) c.as_slice.ensures.value c.in_default.len_at_least)
