-- True conditions make a program correct.
use Rattle.spv_logic.specs.Conditions.{Meaning}
use Rattle.spv_program_soundness.proofs.Programs.{program_correct}
use Rattle.spv_conditions.specs.Laws.{TrueConditionsGiveCorrectIn}

pub conditions_correct : (world : Meaning) → TrueConditionsGiveCorrectIn world
conditions_correct world p typed framed h = program_correct p (record { typed = typed; framed = framed }) world h
