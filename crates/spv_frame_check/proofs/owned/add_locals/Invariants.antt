use Rattle.std.proofs.Common.{◌≡◌, drop}
use Rattle.spv_frame_check.specs.Sets.{with_names}
use Rattle.spv_frame_check.specs.Owned.{typed_names}
use Rattle.spv_frame_check.proofs.owned.add_locals.Given as goal

abbrev pub invariant-loop-name : goal.invariant-loop-name
invariant-loop-name l =
    with_names l.set (typed_names (drop l.name-index l.locals)) ≡ with_names l.initial.set (typed_names l.locals)
