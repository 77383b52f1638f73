-- What is proved of these programs.
use Rattle.std.specs.Prelude.{IsTrue}
use Rattle.spv_logic.specs.Conditions.{Meaning}
use Rattle.spv_program.specs.Programs.{Program, shapes}
use Rattle.spv_program.specs.Typing.{well_typed}
use Rattle.spv_meaning.specs.Correct.{Correct}
use Rattle.spv_meaning.specs.ProgramConditions.{conditions_of, AllTrueIn}
use Rattle.spv_rule_soundness.specs.control.Blocks.{only_control}

-- true conditions make such a program correct
abbrev pub TrueConditionsGiveCorrectIn : Meaning → Type 0
TrueConditionsGiveCorrectIn world =
    (p : Program) → IsTrue (well_typed p) → IsTrue (only_control p) → AllTrueIn (shapes p) p.symbols world (conditions_of p) → Correct p world
