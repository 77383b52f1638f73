use Rattle.std.proofs.Common.{◌≡◌, drop}
use Rattle.spv_frame_check.specs.Sets.{with_names}
use Rattle.spv_frame_check.specs.Owned.{initial_names}
use Rattle.spv_frame_check.proofs.owned.add_starts.Given as goal

abbrev pub invariant-loop-name : goal.invariant-loop-name
invariant-loop-name l =
    with_names l.set (initial_names (drop l.name-index l.starts)) ≡ with_names l.initial.set (initial_names l.starts)
