-- What statements and annotations use, and what they call, in the order of the text: a call stands behind what its arguments
-- use and call.
use Rattle.std.specs.Prelude.{Bool, true, false, not, ◌&&◌, ◌||◌, List, [], ◌∷◌, ◌++◌, Option, Some, None, is_some}
use Rattle.spv_logic.specs.declared.names.names.Symbol.{Symbol}
use Rattle.spv_program.specs.declared.types.Item.TheVariants.{Class}
use Rattle.spv_program.specs.Lists.{found}
use Rattle.spv_program.specs.Expressions.{Expression, Designator, Selectors, Call, Arguments, Numeral, Boolean, NilOf, Read, Result, Through, Negative, Calculated, Compared, Negated, Joined, designator, no_selectors, at_index, at_field, at_cell, call, no_arguments, by_value, by_place}
use Rattle.spv_program.specs.Formulas as formula
use Rattle.spv_program.specs.Formulas.{Formula, Formulas, Annotation, no_formulas, formulas}
use Rattle.spv_program.specs.Statements.{Statement, Arms, Empty, Assign, Perform, New, Sequence, If, Case, While, Repeat, For, Assert, no_arms, arm}
use Rattle.spv_program.specs.Programs.{Routine}
use Rattle.spv_program.specs.Scopes.{is_own, result_name}
use Rattle.spv_program.specs.Uses.{Use, Shared, name_root, has_cell, reading}
use Rattle.spv_program.specs.Frames.{is_formal, is_initial}

pub data Event : Type 0 where
  Used : Use → Event
  Called : Call → Event

-- ---- expressions

abbrev mutual
  pub expression_events : (Symbol → Bool) → Expression → List Event
  expression_events own (Numeral z) = []
  expression_events own (Boolean b) = []
  expression_events own (NilOf t) = []
  expression_events own (Read d) = designator_events own false d
  expression_events own (Result c) = call_events own c
  expression_events own (Through c line t others) = call_events own c ++ Used (reading (Shared (Class t)) line) ∷ selector_events own false others
  expression_events own (Negative e) = expression_events own e
  expression_events own (Calculated o a b) = expression_events own a ++ expression_events own b
  expression_events own (Compared o a b) = expression_events own a ++ expression_events own b
  expression_events own (Negated e) = expression_events own e
  expression_events own (Joined o a b) = expression_events own a ++ expression_events own b

  pub designator_events : (Symbol → Bool) → Bool → Designator → List Event
  designator_events own writes (designator line x others) =
      Used (record { root = name_root own x; changes = writes && not (has_cell others); line = line }) ∷ selector_events own writes others

  pub selector_events : (Symbol → Bool) → Bool → Selectors → List Event
  selector_events own writes no_selectors = []
  selector_events own writes (at_index t e others) = expression_events own e ++ selector_events own writes others
  selector_events own writes (at_field t f others) = selector_events own writes others
  selector_events own writes (at_cell line t others) =
      Used (record { root = Shared (Class t); changes = writes && not (has_cell others); line = line }) ∷ selector_events own writes others

  pub call_events : (Symbol → Bool) → Call → List Event
  call_events own (call r line arguments) = argument_events own arguments ++ Called (call r line arguments) ∷ []

  pub argument_events : (Symbol → Bool) → Arguments → List Event
  argument_events own no_arguments = []
  argument_events own (by_value e others) = expression_events own e ++ argument_events own others
  argument_events own (by_place d others) = designator_events own true d ++ argument_events own others

-- ---- formulas

abbrev mutual
  pub formula_events : (Symbol → Bool) → Formula → List Event
  formula_events own (formula.Numeral z) = []
  formula_events own (formula.Boolean b) = []
  formula_events own (formula.NilOf t) = []
  formula_events own (formula.Named line x) = Used (reading (name_root own x) line) ∷ []
  formula_events own (formula.ClassOf line t) = Used (reading (Shared (Class t)) line) ∷ []
  formula_events own (formula.Element a i) = formula_events own a ++ formula_events own i
  formula_events own (formula.FieldOf r f) = formula_events own r
  formula_events own (formula.Content line t q) = formula_events own q ++ Used (reading (Shared (Class t)) line) ∷ []
  formula_events own (formula.Applied f fs) = formulas_events own fs
  formula_events own (formula.Known b fs) = formulas_events own fs
  formula_events own (formula.Negative f) = formula_events own f
  formula_events own (formula.Calculated o f g) = formula_events own f ++ formula_events own g
  formula_events own (formula.Compared o f g) = formula_events own f ++ formula_events own g
  formula_events own (formula.Negated f) = formula_events own f
  formula_events own (formula.Joined o f g) = formula_events own f ++ formula_events own g
  formula_events own (formula.Implied f g) = formula_events own f ++ formula_events own g

  pub formulas_events : (Symbol → Bool) → Formulas → List Event
  formulas_events own no_formulas = []
  formulas_events own (formulas f fs) = formula_events own f ++ formulas_events own fs

abbrev pub annotation_events : (Symbol → Bool) → Option Annotation → List Event
annotation_events own None = []
annotation_events own (Some a) = formula_events own a.formula

-- ---- statements

abbrev mutual
  pub statement_events : (Symbol → Bool) → Statement → List Event
  statement_events own Empty = []
  statement_events own (Assign d e) = designator_events own true d ++ expression_events own e
  statement_events own (Perform c) = call_events own c
  statement_events own (New line d t) =
      designator_events own true d ++ Used (record { root = Shared (Class t); changes = true; line = line }) ∷ []
  statement_events own (Sequence a b) = statement_events own a ++ statement_events own b
  statement_events own (If line e a b) = expression_events own e ++ (statement_events own a ++ statement_events own b)
  statement_events own (Case line e arms) = expression_events own e ++ arms_events own arms
  statement_events own (While line f e s) = annotation_events own f ++ (expression_events own e ++ statement_events own s)
  statement_events own (Repeat line f s e) = annotation_events own f ++ (statement_events own s ++ expression_events own e)
  statement_events own (For line f count s) =
      annotation_events own f
      ++ Used (record { root = name_root own count.variable; changes = true; line = line })
      ∷ (expression_events own count.first ++ (expression_events own count.last ++ statement_events own s))
  statement_events own (Assert a) = formula_events own a.formula

  pub arms_events : (Symbol → Bool) → Arms → List Event
  arms_events own no_arms = []
  arms_events own (arm labels s others) = statement_events own s ++ arms_events own others

-- ---- routines

-- what is a routine's own in its EXIT: its parameters, its result and its INITIAL names
abbrev pub own_at_exit : Routine → Symbol → Bool
own_at_exit r x = is_formal r x || (is_some (found (result_name r.name r.result) x) || is_initial r x)

-- what is its own in its body
abbrev pub own_in_body : Routine → Symbol → Bool
own_in_body r x = is_own (Some r) x || is_initial r x

-- in ENTRY and EXIT
abbrev pub clause_events : Routine → List Event
clause_events r = annotation_events (is_formal r) r.entry ++ annotation_events (own_at_exit r) r.exit

abbrev pub body_events : Routine → List Event
body_events r = statement_events (own_in_body r) r.body

-- ---- the uses alone, and the calls alone

abbrev pub uses_in : List Event → List Use
uses_in [] = []
uses_in (Used u ∷ events) = u ∷ uses_in events
uses_in (Called c ∷ events) = uses_in events

abbrev pub calls_in : List Event → List Call
calls_in [] = []
calls_in (Used u ∷ events) = calls_in events
calls_in (Called c ∷ events) = c ∷ calls_in events
