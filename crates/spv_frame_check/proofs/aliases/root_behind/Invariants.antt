use Rattle.std.proofs.Common.{◌≡◌, drop}
use Rattle.spv_program.specs.Frames.{root_behind}
use Rattle.spv_program.specs.typed.ExpressionViews.{selectors_of}
use Rattle.spv_frame_check.specs.Roots.{plain_root}
use Rattle.spv_frame_check.proofs.aliases.root_behind.Given as goal

abbrev pub invariant-loop-selector : goal.invariant-loop-selector
invariant-loop-selector l =
    root_behind (plain_root l.last) (selectors_of (drop l.selector-index l.selectors)) ≡ root_behind (plain_root l.fn.root) (selectors_of l.selectors)
