-- What a walk over statements leaves to others: assignments, NEW and calls, and expressions with the calls in them.
use Rattle.std.specs.Prelude.{Bool, List, Option, IsTrue}
use Rattle.spv_logic.specs.declared.conditions.RoutineId.{RoutineId}
use Rattle.spv_logic.specs.declared.types.Sort.TheVariants as sort
use Rattle.spv_program.specs.Expressions.{Expression}
use Rattle.spv_program.specs.Statements.{Statement}
use Rattle.spv_program.specs.Programs.{Program, routine_in}
use Rattle.spv_program.specs.Supplies.{Supply}
use Rattle.spv_program.specs.FormulaTypes.{is_sort}
use Rattle.spv_program.specs.ExpressionTypes.{expression_sort}
use Rattle.spv_program.specs.Typing.{counting_ok, statement_ok}
use Rattle.spv_meaning.specs.Before.{Made}
use Rattle.spv_rule_soundness.specs.statements.Parts.{Passing, parts_pass}
use Rattle.spv_assign.specs.creation_trace.Events.{Event}

-- which of them are taken: assignments, NEW and calls, and expressions
pub record Taking : Type 0 where
  pub leaf : Statement → Bool
  pub test : Expression → Bool

-- what is made for them, in order: for one of those statements with what stands behind it, and for an expression with the
-- fresh variables that are left
pub record Making : Type 0 where
  pub leaf : Statement → Made → List Event
  pub test : Expression → Supply → List Event

-- the statements whose parts pass: these are taken, and what counts is what the rules of types ask
abbrev pub passing : Program → Option RoutineId → Taking → Passing
passing p here taking = record {
  leaf = taking.leaf;
  test = taking.test;
  number = λ e. is_sort sort.Int (expression_sort p (routine_in p here) e);
  count = λ count s. counting_ok p (routine_in p here) count s;
}

-- a well typed statement whose parts are taken
pub record IsTaken (p : Program) (here : Option RoutineId) (taking : Taking) (s : Statement) : Type 0 where
  pub typed : IsTrue (statement_ok p (routine_in p here) s)
  pub passes : IsTrue (parts_pass (passing p here taking) s)
