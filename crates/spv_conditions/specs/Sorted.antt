-- What is true of the conditions of a program.
use Rattle.std.specs.Prelude.{IsTrue}
use Rattle.spv_program.specs.Programs.{Program}
use Rattle.spv_program.specs.Typing.{well_typed}
use Rattle.spv_meaning.specs.ProgramConditions.{conditions_of}
use Rattle.spv_rule_soundness.specs.condition_sorts.Sorted.{AreSorted}

-- each formula of its conditions is of sort Bool
abbrev pub ConditionsAreSorted : Type 0
ConditionsAreSorted = (p : Program) → IsTrue (well_typed p) → AreSorted p (conditions_of p)
