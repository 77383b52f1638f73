use Rattle.std.proofs.Common.{◌≡◌, ◌++◌, drop, map}
use Rattle.spv_program.specs.typed.ProgramViews.{routine_of}
use Rattle.spv_frame_check.specs.Allowed.{allows}
use Rattle.spv_frame_check.specs.Tables.{tables_of}
use Rattle.spv_frame_check.proofs.callees.tables.Given as goal

abbrev pub invariant-loop-r : goal.invariant-loop-r
invariant-loop-r l =
    map allows l.tables.items ++ tables_of (map routine_of (drop l.r-index l.routines)) ≡ tables_of (map routine_of l.routines)
