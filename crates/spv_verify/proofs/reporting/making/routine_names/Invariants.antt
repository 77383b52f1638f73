use Rattle.std.proofs.Common.{◌≡◌, map, take}
use Rattle.spv_program.specs.declared.typed.programs.Routine.{Routine}
use Rattle.spv_verify.proofs.reporting.making.routine_names.Given as goal

abbrev pub invariant-loop-routine : goal.invariant-loop-routine
invariant-loop-routine l = l.names ≡ map (λ (q : Routine). q.name) (take l.routine-index l.routines)
