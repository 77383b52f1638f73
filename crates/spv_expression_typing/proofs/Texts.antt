-- The arguments of a text.
use Rattle.std.proofs.Common.{◌≡◌, List, [], ◌∷◌, map, Option, Some, refl, sym, ap, ◌∙◌}
use Rattle.spv_tree.specs.declared.syntax.lists.Several.{Several}
use Rattle.spv_tree.specs.syntax.Formulas.{Formula}
use Rattle.spv_tree.specs.syntax.Model.FormulaSizes.{more_formulas_of}
use Rattle.spv_program.specs.Expressions.{Expression}
use Rattle.spv_typing.specs.Known.{Scope}
use Rattle.spv_typing.specs.OperatorWalk.{Argument, Forms, arguments}
use Rattle.spv_typing.specs.ExpressionWalk.{Reached, expression_forms}
use Rattle.spv_typing.specs.StatementWalk as statement
use Rattle.spv_formula_typing.specs.Arguments.{argument_of, arguments_of}

more_are : (k : Forms Expression Reached) (more : List Formula) → arguments k (more_formulas_of more) ≡ map (argument_of k) more
more_are k [] = refl
more_are k (f ∷ more) = ap (λ (l : List (Argument Expression Reached)). argument_of k f ∷ l) (more_are k more)

pub texts_are : (s : Scope) (first : Formula) (more : List Formula)
    → arguments_of (expression_forms s) first more ≡ map (argument_of (expression_forms s)) (first ∷ more)
texts_are s first more = ap (λ (l : List (Argument Expression Reached)). argument_of (expression_forms s) first ∷ l) (more_are (expression_forms s) more)

-- the arguments behind a statement's name, where there are some
pub given_texts : (s : Scope) (given : Option (Several Formula)) (several : Several Formula) (more : List Formula) → given ≡ Some several → more ≡ several.more
    → arguments_of (expression_forms s) several.first more ≡ statement.arguments_of s given
given_texts s given several more is same =
    ap (λ (fs : List Formula). arguments_of (expression_forms s) several.first fs) same ∙ texts_are s several.first several.more ∙ ap (statement.arguments_of s) (sym is)
