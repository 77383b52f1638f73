-- What is proved of programs whose conditions are true.
use Rattle.std.specs.Prelude.{IsTrue}
use Rattle.spv_logic.specs.Conditions.{Meaning}
use Rattle.spv_program.specs.Programs.{Program, shapes}
use Rattle.spv_program.specs.Frames.{framed}
use Rattle.spv_program.specs.Typing.{well_typed}
use Rattle.spv_meaning.specs.Correct.{Correct}
use Rattle.spv_meaning.specs.ProgramConditions.{conditions_of, AllTrueIn}

-- true conditions make a program correct that is well typed and shares rightly
abbrev pub TrueConditionsGiveCorrectIn : Meaning → Type 0
TrueConditionsGiveCorrectIn world =
    (p : Program) → IsTrue (well_typed p) → IsTrue (framed p) → AllTrueIn (shapes p) p.symbols world (conditions_of p) → Correct p world
