-- How a condition's heading names where it comes from.
use Rattle.std.specs.Prelude.{ℕ, Option, Some, None, List, [], slice_get, unwrap_or, codes}
use Rattle.spv_logic.specs.declared.names.names.Symbol.{Symbol}
use Rattle.spv_logic.specs.declared.conditions.Origin.{Origin}
use Rattle.spv_logic.specs.declared.conditions.RoutineId.{RoutineId}
use Rattle.spv_listing_values.specs.declared.data.Header.{Header}
use Rattle.spv_reports.specs.declared.report.ProgramNames.{ProgramNames}

-- the text of a name; nothing where the table does not have it
abbrev pub name_text : List (List ℕ) → Symbol → List ℕ
name_text names x = unwrap_or (slice_get names x.0) []

abbrev pub name_of : List (List ℕ) → Option Symbol → List ℕ
name_of names None = []
name_of names (Some x) = name_text names x

-- the name of the routine that a condition is of, and for the main block a word of its own
abbrev pub routine_text : ProgramNames → Option RoutineId → List ℕ
routine_text named None = codes "MAIN"
routine_text named (Some r) = name_of named.names (slice_get named.routines r.0)

-- what a listing says of where a condition comes from
abbrev pub header_of : ProgramNames → Origin → Header
header_of named origin = record { routine = routine_text named origin.routine; kind = origin.kind; line = origin.line }
