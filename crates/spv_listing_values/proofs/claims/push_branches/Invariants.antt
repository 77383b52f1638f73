use Rattle.std.proofs.Common.{◌≡◌, ◌++◌, map, take}
use Rattle.spv_listing_values.specs.Lines.{branch_line}
use Rattle.spv_listing_values.specs.Blanks.{lines_bytes}
use Rattle.spv_listing_values.specs.Places.{tree}
use Rattle.spv_listing_values.proofs.claims.push_branches.Given as goal

abbrev pub invariant-loop-t : goal.invariant-loop-t
invariant-loop-t l = l.out.items ≡ l.initial.out.items ++ lines_bytes (map branch_line (map (tree l.texts) (take l.t-index l.ts)))
