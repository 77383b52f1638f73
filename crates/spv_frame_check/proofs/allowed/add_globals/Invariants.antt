use Rattle.std.proofs.Common.{◌≡◌, drop, map}
use Rattle.spv_program.specs.typed.ProgramViews.{global_of}
use Rattle.spv_frame_check.specs.Sets.{with_globals}
use Rattle.spv_frame_check.proofs.allowed.add_globals.Given as goal

abbrev pub invariant-loop-g : goal.invariant-loop-g
invariant-loop-g l =
    with_globals l.set (map global_of (drop l.g-index l.globals)) ≡ with_globals l.initial.set (map global_of l.globals)
