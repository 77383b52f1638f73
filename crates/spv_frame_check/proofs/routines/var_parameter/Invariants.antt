use Rattle.std.proofs.Common.{◌≡◌, drop, map}
use Rattle.spv_program.specs.typed.ProgramViews.{formal_of}
use Rattle.spv_effects.specs.frame_walk.FrameWalk.{var_parameter}
use Rattle.spv_frame_check.proofs.routines.var_parameter.Given as goal

abbrev pub invariant-loop-formal : goal.invariant-loop-formal
invariant-loop-formal l =
    var_parameter (map formal_of (drop l.formal-index l.formals)) ≡ var_parameter (map formal_of l.formals)
