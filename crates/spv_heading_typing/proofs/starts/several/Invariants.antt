use Rattle.std.proofs.Common.{◌≡◌, drop, Some}
use Rattle.spv_typing.specs.Outcomes.{each}
use Rattle.spv_heading_typing.specs.Starts.{starts_of, start_in, initial_walk, AreApart}
use Rattle.spv_heading_typing.proofs.starts.several.Given as goal

abbrev pub invariant-loop-start : goal.invariant-loop-start
invariant-loop-start l =
    (each (start_in l.known l.routine l.parameters l.shared) (starts_of l.starts) (drop l.start-index l.start-items) ≡ initial_walk l.known l.routine l.parameters l.shared (Some l.tree))
    × AreApart l.parameters l.starts
