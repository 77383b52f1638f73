use Rattle.std.proofs.Common.{◌≡◌, drop, map}
use Rattle.spv_program.specs.typed.ProgramViews.{formal_of}
use Rattle.spv_frame_check.specs.Sets.{with_names}
use Rattle.spv_frame_check.specs.Owned.{formal_names}
use Rattle.spv_frame_check.proofs.owned.add_formals.Given as goal

abbrev pub invariant-loop-formal : goal.invariant-loop-formal
invariant-loop-formal l =
    with_names l.set (formal_names (map formal_of (drop l.formal-index l.formals))) ≡ with_names l.initial.set (formal_names (map formal_of l.formals))
