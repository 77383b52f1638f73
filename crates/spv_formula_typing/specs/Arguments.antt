-- Arguments as what is called wants them read.
use Rattle.std.specs.Prelude.{ℕ, suc, List, [], ◌∷◌, map, Option, Some, None, Ok}
use Rattle.spv_tree.specs.declared.syntax.names.Name.{Name}
use Rattle.spv_typing.specs.Outcomes.{Outcome, after}
use Rattle.spv_tree.specs.syntax.Formulas.{Formula}
use Rattle.spv_tree.specs.syntax.Model.FormulaSizes.{more_formulas_of}
use Rattle.spv_typing.specs.OperatorWalk.{Operand, Argument, Forms, argument, arguments, formula_walk, written_place}
use Rattle.spv_formula_typing.specs.declared.forms.Way.{Way}
use Rattle.spv_formula_typing.specs.declared.forms.Way.TheVariants as way
use Rattle.spv_formula_typing.specs.declared.forms.Given.{Given as GivenText}
use Rattle.spv_formula_typing.specs.declared.forms.Given.TheVariants as given
use Rattle.spv_formula_typing.specs.Operands.{operand_of}

pub data Given (X S : Type 0) : Type 0 where
  AsValue : Operand X → Given X S
  AsPlace : S → Given X S
  NoPlace : Given X S
  AsField : Option Name → Given X S

abbrev pub given_of : {X S : Type 0} → GivenText X S → Given X S
given_of (given.Value o) = AsValue (operand_of o)
given_of (given.Place s) = AsPlace s
given_of given.NoPlace = NoPlace
given_of (given.Field x) = AsField x

abbrev pub given_on_line : {X S : Type 0} → ℕ × GivenText X S → ℕ × Given X S
given_on_line g = (g.0, given_of g.1)

abbrev pub all_given : {X S : Type 0} → List (ℕ × GivenText X S) → List (ℕ × Given X S)
all_given gs = map given_on_line gs

-- as a place, where it is a designator; what else it is must be well formed all the same
abbrev pub as_place : {X S : Type 0} → Outcome (Operand X) → Option (Outcome S) → Outcome (Given X S)
as_place operand None = after operand (λ o. Ok NoPlace)
as_place operand (Some place) = after place (λ s. Ok (AsPlace s))

abbrev pub given_one : {X S : Type 0} → Way → Argument X S → Outcome (Given X S)
given_one way.Value a = after a.operand (λ o. Ok (AsValue o))
given_one way.Place a = as_place a.operand a.place
given_one way.Field a = Ok (AsField a.name)

-- the arguments from a place on, each with its line
abbrev pub given_as : {X S : Type 0} → (ℕ → Way) → ℕ → List (Argument X S) → Outcome (List (ℕ × Given X S))
given_as ways n [] = Ok []
given_as ways n (a ∷ others) =
    after (given_one (ways n) a) (λ g. after (given_as ways (suc n) others) (λ rest. Ok ((a.line, g) ∷ rest)))

-- ---- the arguments of a text

module _ {X S : Type 0} (k : Forms X S) where
  abbrev pub argument_of : Formula → Argument X S
  argument_of f = argument f (formula_walk k f) (written_place k f)

  -- a first one and the others
  abbrev pub arguments_of : Formula → List Formula → List (Argument X S)
  arguments_of f more = argument_of f ∷ arguments k (more_formulas_of more)
