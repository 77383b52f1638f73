use Rattle.std.proofs.Common.{◌≡◌, ◌++◌, drop, map}
use Rattle.std.specs.Prelude.{reverse}
use Rattle.spv_listing_values.specs.Page.{cases_lines}
use Rattle.spv_listing_values.specs.Blanks.{lines_bytes}
use Rattle.spv_listing_values.specs.Mapped.{node_at}
use Rattle.spv_listing_values.specs.Places.{tree}
use Rattle.spv_listing_values.proofs.nodes.push_cases.Given as goal

abbrev pub invariant-loop-node : goal.invariant-loop-node
invariant-loop-node l =
    l.out.items ++ lines_bytes (cases_lines (reverse l.waiting.items) (map (node_at (tree l.texts)) (drop l.node-index l.nodes)))
    ≡ l.initial.out.items ++ lines_bytes (cases_lines (reverse l.initial.waiting.items) (map (node_at (tree l.texts)) l.nodes))
