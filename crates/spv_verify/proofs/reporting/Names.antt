-- The names of routines, in the code's form and as plain data.
use Rattle.std.proofs.Common.{◌≡◌, List, [], ◌∷◌, map, refl, ap}
use Rattle.spv_program.specs.declared.typed.programs.Routine.{Routine as RoutineText}
use Rattle.spv_program.specs.Programs.{Routine}
use Rattle.spv_program.specs.typed.ProgramViews.{routine_of}

pub same_names : (rs : List RoutineText) → map (λ (q : RoutineText). q.name) rs ≡ map (λ (q : Routine). q.name) (map routine_of rs)
same_names [] = refl
same_names (r ∷ rs) = ap (λ l. r.name ∷ l) (same_names rs)
