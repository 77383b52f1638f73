-- Where statements stand: a routine's body or the main block, with its tables of names.
use Rattle.std.specs.Prelude.{◌≡◌, List, [], ◌∷◌, Option, Some, IsTrue}
use Rattle.spv_logic.specs.declared.conditions.RoutineId.{RoutineId}
use Rattle.spv_logic.specs.declared.types.Sort.{Sort}
use Rattle.spv_logic.specs.declared.types.Shape.{Shape}
use Rattle.spv_logic.specs.declared.types.TypeId.{TypeId}
use Rattle.spv_logic.specs.declared.operators.Head.{Head}
use Rattle.spv_logic.specs.Terms.{Term}
use Rattle.spv_logic.specs.Sorts.{head_in_range}
use Rattle.spv_logic.specs.Substitution.{is_variable}
use Rattle.spv_term.specs.Arena.{Arena}
use Rattle.spv_program.specs.Expressions.{Expression, Designator}
use Rattle.spv_program.specs.Formulas.{Annotation}
use Rattle.spv_program.specs.Programs.{Program, shapes, routine_in}
use Rattle.spv_program.specs.Scopes.{body_scope}
use Rattle.spv_program.specs.ExpressionTypes.{expression_sort, designator_type}
use Rattle.spv_program.specs.FormulaTypes.{annotation_ok}
use Rattle.spv_program.specs.Typing.{declarations_ok}
use Rattle.spv_expression_terms.specs.term_walk.ExpressionTerms.{expression_term, place_term}
use Rattle.spv_expression_terms.specs.term_walk.Laws.{HasNamesOf, variable_scope, variable_head}
use Rattle.spv_expression_terms.specs.makeable_terms.Laws.{heading_ok_in}
use Rattle.spv_rule_soundness.specs.control.Blocks.{is_whole, calls_nothing}
use Rattle.spv_flow_parts.specs.declared.bodies.Body.{Body}

-- the tables are those of a routine's body, or of the main block
pub record IsBody (p : Program) (b : Body) : Type 0 where
  pub names : HasNamesOf b.names (body_scope p (routine_in p b.here))
  pub variables : HasNamesOf b.variables (variable_scope p (routine_in p b.here))

-- a body of a program whose declarations and headings are right, and an arena for the terms of the program
pub record Stands (p : Program) (b : Body) (a : Arena) : Type 0 where
  pub body : IsBody p b
  pub shapes : a.shapes ≡ shapes p
  pub decls : a.decls ≡ p.symbols
  pub declarations : IsTrue (declarations_ok p)
  pub heading : IsTrue (heading_ok_in p (routine_in p b.here))

-- ---- expressions, variables and annotations of a body

-- an expression that calls nothing and has a sort
pub record IsValue (p : Program) (here : Option RoutineId) (e : Expression) : Type 0 where
  pub calls : IsTrue (calls_nothing e)
  pub sort : Sort
  pub sorted : expression_sort p (routine_in p here) e ≡ Some sort

abbrev pub value_of : Program → Option RoutineId → Expression → Term
value_of p here e = expression_term (variable_head p (routine_in p here)) e

-- a variable as a whole, which has a type
pub record IsVariable (p : Program) (here : Option RoutineId) (d : Designator) : Type 0 where
  pub whole : IsTrue (is_whole d)
  pub of : TypeId
  pub typed : designator_type p (routine_in p here) d ≡ Some of

abbrev pub variable_of : Program → Option RoutineId → Designator → Term
variable_of p here d = place_term (variable_head p (routine_in p here)) d

-- annotations that are truth values
abbrev pub AreNotes : Program → Option RoutineId → Option Annotation → Type 0
AreNotes p here f = IsTrue (annotation_ok p (body_scope p (routine_in p here)) f)

-- variables and classes whose types are there
abbrev pub AllRenamed : List Shape → List Head → Type 0
AllRenamed shapes [] = Unit {0}
AllRenamed shapes (h ∷ heads) = (IsTrue (is_variable h) × IsTrue (head_in_range shapes h)) × AllRenamed shapes heads
