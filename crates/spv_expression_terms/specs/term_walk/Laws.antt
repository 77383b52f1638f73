-- What is proved of the terms of expressions without calls, and of the tables of names.
use Rattle.std.specs.Prelude.{◌≡◌, ◌↔◌, ℕ, ◌++◌, List, [], Option, is_some, IsTrue}
use Rattle.spv_logic.specs.declared.names.names.Symbol.{Symbol}
use Rattle.spv_logic.specs.declared.types.Shape.{Shape}
use Rattle.spv_logic.specs.declared.types.Decl.{Decl}
use Rattle.spv_logic.specs.declared.operators.Head.{Head}
use Rattle.spv_logic.specs.Sorts.{numeral_fits}
use Rattle.spv_program.specs.declared.types.Item.TheVariants.{Variable}
use Rattle.spv_program.specs.Lists.{found}
use Rattle.spv_program.specs.Expressions.{Expression, Designator, Selectors, designator}
use Rattle.spv_program.specs.Formulas.{Formula}
use Rattle.spv_program.specs.Programs.{Routine, Program}
use Rattle.spv_program.specs.Scopes.{Scope, own_names_in, with_sorts_of, exit_scope, is_value_parameter}
use Rattle.spv_program.specs.Uses.{expression_calls, designator_calls}
use Rattle.spv_program.specs.Supplies.{Supply}
use Rattle.spv_program.specs.Places.{Target, present}
use Rattle.spv_program.specs.Terms.{formula_term, name_in, name_at_exit, item_head}
use Rattle.spv_program.specs.ExpressionTerms.{Placed, Valued, without_calls, at_start, valued, placed}
use Rattle.spv_expression_terms.specs.postfix.Postfix.{IsMakeable}
use Rattle.spv_expression_terms.specs.term_walk.Names.{head_in}
use Rattle.spv_expression_terms.specs.term_walk.OuterCalls.{MadeCalls, filled, filled_target, made_calls, outer_calls, selectors_outer_calls}
use Rattle.spv_expression_terms.specs.term_walk.Numerals.{FormulaFits, ExpressionFits, PlaceFits}
use Rattle.spv_expression_terms.specs.term_walk.Makeable.{IsWellSorted}
use Rattle.spv_expression_terms.specs.term_walk.ExpressionTerms.{has_no_calls, place_has_no_calls, expression_term, place_term, place_target}

-- an expression makes no call just where none is listed
abbrev pub CallsAreListed : Type 0
CallsAreListed = (e : Expression) → IsTrue (has_no_calls e) ↔ (expression_calls e ≡ [])

abbrev pub PlaceCallsAreListed : Type 0
PlaceCallsAreListed = (d : Designator) → IsTrue (place_has_no_calls d) ↔ (designator_calls d ≡ [])

-- the head of a variable's name
abbrev pub variable_head : Program → Option Routine → Symbol → Head
variable_head p here x = item_head p here (Variable x)

abbrev pub reached_without_calls : Supply → Target → Placed
reached_without_calls n d = record { target = d; calls = []; supply = n }

-- an expression without calls has its term, whatever the supply, and takes nothing of it
abbrev pub ValuesAreTerms : Type 0
ValuesAreTerms =
    (p : Program) (here : Option Routine) (n : Supply) (e : Expression) → IsTrue (has_no_calls e)
    → valued p here n e ≡ without_calls n (expression_term (variable_head p here) e)

-- so has a designator without calls its place: its root, its pointer and its path
abbrev pub PlacesAreTargets : Type 0
PlacesAreTargets =
    (p : Program) (here : Option Routine) (n : Supply) (d : Designator) → IsTrue (place_has_no_calls d)
    → placed p here n d ≡ reached_without_calls n (place_target (variable_head p here) d)

-- the term of a designator is what stands at its place
abbrev pub TermsArePresent : Type 0
TermsArePresent = (heads : Symbol → Head) (d : Designator) → present (place_target heads d) ≡ place_term heads d

-- ---- calls

-- the term, calls and supply of an expression whose outermost calls were made
abbrev pub valued_of : Program → Option Routine → Expression → MadeCalls → Valued
valued_of p here e made = record { term = filled (variable_head p here) made.variables e; calls = made.calls; supply = made.supply }

-- the place that selectors lead to from a place, where the outermost calls in them were made
abbrev pub placed_of : Program → Option Routine → Placed → Selectors → MadeCalls → Placed
placed_of p here d others made = record {
  target = filled_target (variable_head p here) made.variables d.target others;
  calls = d.calls ++ made.calls;
  supply = made.supply;
}

-- an expression's calls are its outermost ones, made one after the other; and its term has their values in their places
abbrev pub ValuesAreGathered : Type 0
ValuesAreGathered =
    (p : Program) (here : Option Routine) (n : Supply) (e : Expression)
    → valued p here n e ≡ valued_of p here e (made_calls p here n (outer_calls e))

-- the same of a designator and its place
abbrev pub PlacesAreGathered : Type 0
PlacesAreGathered =
    (p : Program) (here : Option Routine) (n : Supply) (line : ℕ) (x : Symbol) (others : Selectors)
    → placed p here n (designator line x others)
    ≡ placed_of p here (at_start n (variable_head p here x)) others (made_calls p here n (selectors_outer_calls others))

-- no variables: a call counts as FALSE
abbrev pub NoneIsFalse : Type 0
NoneIsFalse = (heads : Symbol → Head) (e : Expression) → filled heads [] e ≡ expression_term heads e

-- ---- tables of names

-- a table finds what a scope finds, though it has no name twice
pub record HasNamesOf (names scope : Scope) : Type 0 where
  pub each : (x : Symbol) → found names x ≡ found scope x

-- what expressions see: the own names, and the variables of the program
abbrev pub variable_scope : Program → Option Routine → Scope
variable_scope p here = with_sorts_of p (own_names_in here) ++ with_sorts_of p p.variables

-- the tables of a routine's EXIT
pub record AreOfExit (p : Program) (r : Routine) (names : Scope) (starts : List (Symbol × Unit {0})) : Type 0 where
  pub names_are : HasNamesOf names (exit_scope p r)
  pub starts_are : (x : Symbol) → is_some (found starts x) ≡ is_value_parameter r x

-- by such a table the terms are those of the scope
abbrev pub TablesGiveFormulas : Type 0
TablesGiveFormulas =
    (names scope : Scope) (f : Formula) → HasNamesOf names scope → formula_term (name_in names) f ≡ formula_term (name_in scope) f

abbrev pub TablesGiveExits : Type 0
TablesGiveExits =
    (p : Program) (r : Routine) (names : Scope) (starts : List (Symbol × Unit {0})) (f : Formula) → AreOfExit p r names starts
    → formula_term (head_in names starts) f ≡ formula_term (name_at_exit p r) f

abbrev pub TablesGiveExpressions : Type 0
TablesGiveExpressions =
    (p : Program) (here : Option Routine) (names : Scope) (e : Expression) → HasNamesOf names (variable_scope p here)
    → expression_term (name_in names) e ≡ expression_term (variable_head p here) e

abbrev pub TablesGivePlaces : Type 0
TablesGivePlaces =
    (p : Program) (here : Option Routine) (names : Scope) (d : Designator) → HasNamesOf names (variable_scope p here)
    → place_term (name_in names) d ≡ place_term (variable_head p here) d

-- ---- which terms may be made

-- names stand for variables and for what they were at the entry
pub record AreNames (heads : Symbol → Head) : Type 0 where
  pub no_numerals : (x : Symbol) → IsTrue (numeral_fits (heads x))

-- a well sorted term may be made where the numerals of its formula fit
abbrev pub FormulasAreMakeable : Type 0
FormulasAreMakeable =
    (shapes : List Shape) (decls : List Decl) (heads : Symbol → Head) (f : Formula) → AreNames heads → FormulaFits f
    → IsWellSorted shapes decls (formula_term heads f) → IsMakeable shapes decls (formula_term heads f)

abbrev pub ExpressionsAreMakeable : Type 0
ExpressionsAreMakeable =
    (shapes : List Shape) (decls : List Decl) (heads : Symbol → Head) (e : Expression) → AreNames heads → ExpressionFits e
    → IsWellSorted shapes decls (expression_term heads e) → IsMakeable shapes decls (expression_term heads e)

abbrev pub PlacesAreMakeable : Type 0
PlacesAreMakeable =
    (shapes : List Shape) (decls : List Decl) (heads : Symbol → Head) (d : Designator) → AreNames heads → PlaceFits d
    → IsWellSorted shapes decls (place_term heads d) → IsMakeable shapes decls (place_term heads d)
