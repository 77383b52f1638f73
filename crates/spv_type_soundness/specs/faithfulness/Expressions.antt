-- From which trees expressions, places and calls may come.
use Rattle.std.specs.Prelude.{◌≡◌, true, List, [], ◌∷◌, Option, Some, None, ℤ}
use Rattle.spv_logic.specs.declared.conditions.RoutineId.{RoutineId}
use Rattle.spv_tree.specs.declared.syntax.names.Name.{Name}
use Rattle.spv_tree.specs.syntax.Formulas as tree
use Rattle.spv_program.specs.Expressions.{Expression, Designator, Selectors, Call, Arguments, Numeral, Boolean, NilOf, Read, Result, Through, Negative, Calculated, Compared, Negated, Joined, designator, no_selectors, at_index, at_field, at_cell, call, no_arguments, by_value, by_place}
use Rattle.spv_type_soundness.specs.faithfulness.Names.{View, constant_named, names_place, function_named, routine_named, names_result}
use Rattle.spv_type_soundness.specs.faithfulness.Operators.{Given, Value, AtPlace, Operators, FromFormula, FromWritten, FromArguments}

-- ---- one selector more

-- selectors with others behind them
abbrev pub joined_with : Selectors → Selectors → Selectors
joined_with no_selectors more = more
joined_with (at_index t e others) more = at_index t e (joined_with others more)
joined_with (at_field t f others) more = at_field t f (joined_with others more)
joined_with (at_cell line t others) more = at_cell line t (joined_with others more)

-- behind a function's result comes `^` first; behind a constant comes nothing
abbrev pub selected : Expression → Selectors → Option Expression
selected (Read (designator line x others)) more = Some (Read (designator line x (joined_with others more)))
selected (Result c) (at_cell line t others) = Some (Through c line t others)
selected (Through c line t others) more = Some (Through c line t (joined_with others more))
selected _ more = None

abbrev pub expression_operators : Operators Expression
expression_operators = record {
  numeral = Numeral;
  boolean = Boolean;
  nil_of = NilOf;
  negative = Negative;
  calculated = Calculated;
  compared = Compared;
  negated = Negated;
  joined = Joined;
  implied = λ a b. None;
  class_of = λ line x. None;
  element = λ t a i. selected a (at_index t i no_selectors);
  field_of = λ t r f. selected r (at_field t f no_selectors);
  content_of = λ at t q. selected q (at_cell at t no_selectors);
}

-- ---- names and calls

-- what stands for parameters: values and places
abbrev pub with_value : Expression → Option Arguments → Option Arguments
with_value e None = None
with_value e (Some others) = Some (by_value e others)

abbrev pub with_place : Designator → Option Arguments → Option Arguments
with_place d None = None
with_place d (Some others) = Some (by_place d others)

abbrev pub arguments_of : List (Given Expression) → Option Arguments
arguments_of [] = Some no_arguments
arguments_of (Value e ∷ given) = with_value e (arguments_of given)
arguments_of (AtPlace (Read d) ∷ given) = with_place d (arguments_of given)
arguments_of _ = None

module _ (v : View) where
  -- a name alone that is read; that of a function is a call
  pub data IsRead : Name → Expression → Type 0 where
    read_constant : {x : Name} {z : ℤ} → constant_named v x.symbol ≡ Some z → IsRead x (Numeral z)
    read_variable : {x : Name} → names_place v x.symbol ≡ true → IsRead x (Read (designator x.line x.symbol no_selectors))
    read_result : {x : Name} {r : RoutineId} → routine_named v x.symbol ≡ Some r → IsRead x (Result (call r x.line no_arguments))

  -- one that is written; in its own body that of a function is a place
  pub data IsWritten : Name → Expression → Type 0 where
    written_variable : {x : Name} → names_place v x.symbol ≡ true → IsWritten x (Read (designator x.line x.symbol no_selectors))
    written_result : {x : Name} → names_result v x.symbol ≡ true → IsWritten x (Read (designator x.line x.symbol no_selectors))

  -- a name with arguments
  pub data IsCalled : Name → List (Given Expression) → Expression → Type 0 where
    called : {x : Name} {r : RoutineId} {given : List (Given Expression)} {arguments : Arguments}
        → function_named v x.symbol ≡ None → routine_named v x.symbol ≡ Some r → arguments_of given ≡ Some arguments
        → IsCalled x given (Result (call r x.line arguments))

  -- a call, from the name and the arguments
  pub data CallFrom : Call → Name → tree.MoreFormulas → Type 0 where
    call_of : {x : Name} {r : RoutineId} {given : List (Given Expression)} {more : tree.MoreFormulas} {arguments : Arguments}
        → routine_named v x.symbol ≡ Some r → FromArguments expression_operators IsRead IsWritten IsCalled given more
        → arguments_of given ≡ Some arguments
        → CallFrom (call r x.line arguments) x more

  abbrev pub ExpressionFrom : Expression → tree.Formula → Type 0
  ExpressionFrom = FromFormula expression_operators IsRead IsWritten IsCalled

  -- a place that is written
  abbrev pub PlaceFrom : Designator → tree.Designator → Type 0
  PlaceFrom d = FromWritten expression_operators IsRead IsWritten IsCalled (Read d)
