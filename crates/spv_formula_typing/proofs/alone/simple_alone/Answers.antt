use Rattle.std.proofs.Common.{Option, ◌≤◌, List, length, ap, ◌∙◌, sym, subst}
use Rattle.spv_tree.specs.syntax.Formulas.{Term, simple}
use Rattle.spv_tree.specs.declared.syntax.operators.PlusOrMinus.{PlusOrMinus}
use Rattle.spv_tree.specs.syntax.Model.FormulaSizes.{more_terms_of}
use Rattle.spv_tree.specs.declared.syntax.operators.Adding.{Adding}
use Rattle.spv_typing.specs.OperatorWalk as spec
use Rattle.spv_formula_typing.proofs.Places.{more_terms_behind}
use Rattle.spv_formula_typing.proofs.alone.simple_alone.Goals as goal

pub returns-in_default : goal.returns-in_default
returns-in_default c =
    more_terms_behind c.tree.inside.line c.tree.inside.first c.tree.inside.more.items
    (subst (λ (l : List (Adding × Term)). 1 ≤ length l) c.as_slice.ensures.value c.in_default.len_at_least)
    ∙ ap (λ (p : Option PlusOrMinus). spec.simple_alone (simple c.tree.inside.line p c.tree.inside.first (more_terms_of c.tree.inside.more.items))) (sym c.in-None.is)
    ∙ ap spec.simple_alone c.tree.view_is
