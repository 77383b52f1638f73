use Rattle.std.proofs.Common.{◌≡◌, length, option_map}
use Rattle.spv_effects.specs.frame_walk.FrameWalk.{twice}
use Rattle.spv_frame_check.specs.Roots.{plain_root, plain_roots, has_root, twice_by}
use Rattle.spv_frame_check.proofs.aliases.twice.Given as goal

abbrev pub invariant-loop-root : goal.invariant-loop-root
invariant-loop-root l =
    twice_by (has_root l.seen) (option_map plain_root l.found) (plain_roots l.roots.items) ≡ twice (plain_roots l.fn.given.items)

abbrev pub decreases-loop-root : goal.decreases-loop-root
decreases-loop-root l = length l.roots.items
