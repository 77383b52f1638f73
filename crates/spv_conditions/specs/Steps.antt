-- Where the conditions of a routine or of the main block are made, and what is made on the way.
use Rattle.std.specs.Prelude.{◌≡◌, List, Option, Some, Result, IfOk, Vec}
use Rattle.std.specs.Global.{Global}
use Rattle.std.specs.Prelude.{option_map}
use Rattle.spv_logic.specs.declared.conditions.RoutineId.{RoutineId}
use Rattle.spv_logic.specs.declared.conditions.TermId.{TermId}
use Rattle.spv_logic.specs.declared.operators.Head.{Head}
use Rattle.spv_logic.specs.Terms.{Term}
use Rattle.spv_term.specs.Arena.{Arena, Extends, tree}
use Rattle.spv_term.specs.substitution.Images.{ArePairs}
use Rattle.spv_program.specs.Programs.{Routine, Program, routine_at}
use Rattle.spv_program.specs.Supplies.{Supply}
use Rattle.spv_assign.specs.Conditions.{pairs_of}
use Rattle.spv_assign.specs.declared.creation_trace.faults.GenFault.{GenFault}
use Rattle.spv_assign.specs.creation_trace.Events.{Answers}
use Rattle.spv_assign.specs.creation_trace.StatementEvents.{one_if_there, pair_terms, several}
use Rattle.spv_assign.specs.supply.Numbers.{AreThere}
use Rattle.spv_flow_parts.specs.Walks.{IsThere}
use Rattle.spv_flow_parts.specs.calls.Arguments.{IsOver}

-- a well typed program, an arena for its terms, and fresh variables that are there where they were taken
pub record MayBegin (p : Program) (a : Arena) (n : Supply) : Type 0 where
  pub over : IsOver p a
  pub there : AreThere a n

-- the routine that has this number
pub record IsRoutine (p : Program) (id : RoutineId) (r : Routine) : Type 0 where
  pub there : routine_at p id ≡ Some r

-- a routine of a program
pub record Heading : Type 0 where
  pub program : Program
  pub routine : Routine

-- a term that may be there was made, or a limit was met
pub record GivesEntry (r : Result (Option TermId) GenFault) (x : Option Term) (a b : Arena) : Type 0 where
  pub grows : Extends a b
  pub walk : Answers r (one_if_there x) a b
  pub there : IfOk r (λ n. IsThere b n)
  pub term : IfOk r (λ n. option_map (tree b) n ≡ x)

-- pairs of variables and the terms in their places were made, or a limit was met
pub record MakesPairs (r : Result (Vec (TermId × TermId) Global) GenFault) (qs : List (Head × Term)) (a b : Arena) : Type 0 where
  pub grows : Extends a b
  pub walk : Answers r (several (pair_terms qs)) a b
  pub pairs : IfOk r (λ ps. pairs_of b ps.items ≡ qs)
  pub fit : IfOk r (λ ps. ArePairs b ps.items)
