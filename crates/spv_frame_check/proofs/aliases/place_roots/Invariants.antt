use Rattle.std.proofs.Common.{◌≡◌, ◌++◌, drop}
use Rattle.spv_program.specs.Frames.{place_roots}
use Rattle.spv_program.specs.typed.ExpressionViews.{arguments_of}
use Rattle.spv_effects.specs.frame_events.Names.{named}
use Rattle.spv_frame_check.specs.Roots.{plain_roots}
use Rattle.spv_frame_check.proofs.aliases.place_roots.Given as goal

abbrev pub invariant-loop-argument : goal.invariant-loop-argument
invariant-loop-argument l =
    plain_roots l.roots.items ++ place_roots (named l.own) (arguments_of (drop l.argument-index l.arguments)) ≡ place_roots (named l.own) (arguments_of l.arguments)
