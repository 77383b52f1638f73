-- What the code's operands are in the definition of the walk.
use Rattle.std.specs.Prelude.{ℕ, ℤ, pos, List, map, Ok, Option, Some, None}
use Rattle.spv_tree.specs.syntax.Formulas.{Term, Factor, term, number, no_more_factors, more_factors}
use Rattle.spv_logic.specs.declared.types.Sort.TheVariants as sort
use Rattle.spv_typing.specs.Outcomes.{Outcome, after, wrong}
use Rattle.spv_typing.specs.OperatorWalk as spec
use Rattle.spv_formula_typing.specs.declared.forms.Operand.{Operand}
use Rattle.spv_formula_typing.specs.declared.forms.Operand.TheVariants as operand

abbrev pub operand_of : {X : Type 0} → Operand X → spec.Operand X
operand_of (operand.Of x s) = spec.Of x s
operand_of (operand.Nil line) = spec.NilAt line

-- operands with their lines
abbrev pub on_line : {X : Type 0} → ℕ × Operand X → ℕ × spec.Operand X
on_line o = (o.0, operand_of o.1)

abbrev pub operands_of : {X : Type 0} → List (ℕ × Operand X) → List (ℕ × spec.Operand X)
operands_of os = map on_line os

module _ {X S : Type 0} (k : spec.Forms X S) where
  -- a sign before a term that is no numeral
  abbrev pub negative_operand : ℕ → spec.Operand X → Outcome (spec.Operand X)
  negative_operand line a = after (spec.settled k.nil_of (wrong line) sort.Int a) (λ x. Ok (spec.Of (k.negative_of x) sort.Int))

  abbrev pub positive_operand : ℕ → spec.Operand X → Outcome (spec.Operand X)
  positive_operand line a = after (spec.settled k.nil_of (wrong line) sort.Int a) (λ x. Ok (spec.Of x sort.Int))

abbrev pub numeral_of : Factor → Option ℤ
numeral_of (number at n) = Some (pos n)
numeral_of _ = None

-- the number that a term is, where it is a numeral alone
abbrev pub numeral_alone : Term → Option ℤ
numeral_alone (term line f no_more_factors) = numeral_of f
numeral_alone (term line f (more_factors o g more)) = None
