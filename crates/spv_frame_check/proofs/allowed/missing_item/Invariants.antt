use Rattle.std.proofs.Common.{◌≡◌, drop, map}
use Rattle.spv_program.specs.typed.ProgramViews.{global_of}
use Rattle.spv_frame_check.specs.Allowed.{allows}
use Rattle.spv_effects.specs.frame_walk.FrameWalk.{missing_item}
use Rattle.spv_frame_check.proofs.allowed.missing_item.Given as goal

abbrev pub invariant-loop-g : goal.invariant-loop-g
invariant-loop-g l =
    missing_item (allows l.allowed) (map global_of (drop l.g-index l.globals)) ≡ missing_item (allows l.allowed) (map global_of l.globals)
