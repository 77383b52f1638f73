-- What is proved of programs.
use Rattle.spv_logic.specs.Conditions.{Meaning}
use Rattle.spv_program.specs.Programs.{Program, shapes}
use Rattle.spv_meaning.specs.Correct.{Correct}
use Rattle.spv_meaning.specs.ProgramConditions.{conditions_of, AllTrueIn}
use Rattle.spv_frame_law.specs.Laws.{IsFramed}

-- a program that is well typed and shares rightly, each of whose conditions is true in a world, is correct there
abbrev pub TrueConditionsMakeCorrectIn : Meaning → Type 0
TrueConditionsMakeCorrectIn world = (p : Program) → IsFramed p → AllTrueIn (shapes p) p.symbols world (conditions_of p) → Correct p world
