use Rattle.std.proofs.Common.{◌≡◌, ◌++◌, take}
use Rattle.spv_listing.specs.verdict_pages.ProofLines.{multiples_text}
use Rattle.spv_listing.proofs.verdict_pages.steps.push_multiples.Given as goal

abbrev pub invariant-loop-multiple : goal.invariant-loop-multiple
invariant-loop-multiple l = l.out.items ≡ l.initial.out.items ++ multiples_text (take l.multiple-index l.multiples)
