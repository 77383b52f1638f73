-- Headings by the numbers of their routines.
use Rattle.std.specs.Prelude.{List, filter, nat_eq}
use Rattle.spv_logic.specs.declared.conditions.RoutineId.{RoutineId}
use Rattle.spv_typing.specs.Known.{Heading}

-- those with this number; more than one only where routines have no body yet
abbrev pub numbered : RoutineId → List Heading → List Heading
numbered number headings = filter (λ h. nat_eq h.number.0 number.0) headings
