use Rattle.std.proofs.Common.{◌≡◌, ◌++◌, take}
use Rattle.spv_listing.specs.verdict_pages.ProofLines.{numbers_text}
use Rattle.spv_listing.proofs.verdict_pages.steps.push_facts.Given as goal

abbrev pub invariant-loop-number : goal.invariant-loop-number
invariant-loop-number l = l.out.items ≡ l.initial.out.items ++ numbers_text (take l.number-index l.numbers)
