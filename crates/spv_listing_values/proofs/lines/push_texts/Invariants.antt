use Rattle.std.proofs.Common.{◌≡◌, ◌++◌, map, take}
use Rattle.spv_listing_values.specs.Blanks.{blanks}
use Rattle.spv_listing_values.specs.Places.{tree}
use Rattle.spv_listing_values.proofs.lines.push_texts.Given as goal

abbrev pub invariant-loop-t : goal.invariant-loop-t
invariant-loop-t l = l.out.items ≡ l.initial.out.items ++ blanks (map (tree l.texts) (take l.t-index l.ts))
