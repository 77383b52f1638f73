use Rattle.std.proofs.Common.{◌≡◌, ◌++◌, drop, map}
use Rattle.spv_program.specs.Frames.{effects_of}
use Rattle.spv_program.specs.typed.ProgramViews.{routine_of}
use Rattle.spv_frame_check.proofs.programs.all_effects.Given as goal

abbrev pub invariant-loop-r : goal.invariant-loop-r
invariant-loop-r l =
    l.all ++ map effects_of (map routine_of (drop l.r-index l.routines)) ≡ map effects_of (map routine_of l.routines)
