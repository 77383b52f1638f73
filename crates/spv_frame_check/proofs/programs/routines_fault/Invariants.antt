use Rattle.std.proofs.Common.{◌≡◌, None, drop, map}
use Rattle.spv_program.specs.typed.ProgramViews.{routine_of}
use Rattle.spv_effects.specs.frame_walk.FrameWalk.{routines_fault}
use Rattle.spv_frame_check.proofs.programs.routines_fault.Given as goal

abbrev pub invariant-loop-r : goal.invariant-loop-r
invariant-loop-r l =
    routines_fault l.program l.found (map routine_of (drop l.r-index l.routines)) ≡ routines_fault l.program None (map routine_of l.routines)
