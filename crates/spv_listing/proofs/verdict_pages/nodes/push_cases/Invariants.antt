use Rattle.std.proofs.Common.{◌≡◌, ◌++◌, drop}
use Rattle.std.specs.Prelude.{reverse}
use Rattle.spv_term.specs.Arena.{tree}
use Rattle.spv_listing.specs.verdict_pages.ProofLines.{cases_lines}
use Rattle.spv_listing.proofs.verdict_pages.nodes.push_cases.Given as goal

abbrev pub invariant-loop-node : goal.invariant-loop-node
invariant-loop-node l =
    l.out.items ++ cases_lines l.names l.titles (tree l.terms) (reverse l.waiting.items) (drop l.node-index l.nodes)
    ≡ l.initial.out.items ++ cases_lines l.names l.titles (tree l.terms) (reverse l.initial.waiting.items) l.nodes
