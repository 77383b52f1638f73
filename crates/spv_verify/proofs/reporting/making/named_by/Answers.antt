use Rattle.std.proofs.Common.{map, ap, ◌∙◌}
use Rattle.spv_program.specs.declared.typed.programs.Routine.{Routine as RoutineText}
use Rattle.spv_program.specs.Programs.{Program, Routine}
use Rattle.spv_verify.proofs.reporting.Names.{same_names}
use Rattle.spv_verify.proofs.reporting.making.named_by.Goals as goal

pub returns-clause-routines : goal.returns-clause-routines
returns-clause-routines c =
    c.in_ok-routines.ensures
    ∙ (ap (map (λ (q : RoutineText). q.name)) c.as_slice.ensures
    ∙ (same_names c.program.inside.routines
    ∙ ap (λ (p : Program). map (λ (q : Routine). q.name) p.routines) c.program.view_is))
