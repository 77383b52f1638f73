use Rattle.std.proofs.Common.{◌≡◌, ◌≤◌, drop}
use Rattle.spv_environments.specs.Numbered.{numbered}
use Rattle.spv_environments.specs.Views.{headings_of}
use Rattle.spv_environments.proofs.headings.IndexedHeadings.numbered_anew.Given as goal

abbrev pub invariant-loop-place : goal.invariant-loop-place
invariant-loop-place l =
    (l.from ≤ l.place) × (numbered l.number (drop l.place (headings_of l.self)) ≡ numbered l.number (drop l.from (headings_of l.self)))
