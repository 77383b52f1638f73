use Rattle.std.proofs.Common.{IsTrue, sym, subst}
use Rattle.spv_program.specs.Programs.{Program}
use Rattle.spv_program.specs.Typing.{well_typed}
use Rattle.spv_parts.proofs.report_tests.accepted.is_proved_and_accepted.Goals as goal

pub decided_first-requires : goal.decided_first-requires
decided_first-requires c = record { typed = subst (λ (p : Program). IsTrue (well_typed p)) (sym c.program-2.ensures) c.law_well_typed.ensures }
