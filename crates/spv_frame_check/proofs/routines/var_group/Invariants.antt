use Rattle.std.proofs.Common.{◌≡◌, drop, map}
use Rattle.spv_program.specs.typed.ProgramViews.{global_of}
use Rattle.spv_effects.specs.frame_walk.FrameWalk.{var_group}
use Rattle.spv_frame_check.proofs.routines.var_group.Given as goal

abbrev pub invariant-loop-g : goal.invariant-loop-g
invariant-loop-g l =
    var_group (map global_of (drop l.g-index l.globals)) ≡ var_group (map global_of l.globals)
