use Rattle.std.proofs.Common.{◌≡◌, ◌++◌, take}
use Rattle.spv_listing_values.specs.Lines.{numbers}
use Rattle.spv_listing_values.specs.Blanks.{blanks}
use Rattle.spv_listing_values.proofs.lines.push_facts.Given as goal

abbrev pub invariant-loop-fact : goal.invariant-loop-fact
invariant-loop-fact l = l.out.items ≡ l.initial.out.items ++ blanks (numbers (take l.fact-index l.facts))
