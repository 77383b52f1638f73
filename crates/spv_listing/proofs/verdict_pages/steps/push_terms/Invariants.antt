use Rattle.std.proofs.Common.{◌≡◌, ◌++◌, take}
use Rattle.spv_term.specs.Arena.{tree}
use Rattle.spv_listing.specs.verdict_pages.ProofLines.{terms_text}
use Rattle.spv_listing.proofs.verdict_pages.steps.push_terms.Given as goal

abbrev pub invariant-loop-t : goal.invariant-loop-t
invariant-loop-t l = l.out.items ≡ l.initial.out.items ++ terms_text l.names l.titles (tree l.terms) (take l.t-index l.ts)
