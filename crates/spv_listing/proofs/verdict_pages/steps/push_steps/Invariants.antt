use Rattle.std.proofs.Common.{◌≡◌, ◌++◌, take}
use Rattle.std.specs.List.{flat_map}
use Rattle.spv_term.specs.Arena.{tree}
use Rattle.spv_listing.specs.verdict_pages.ProofLines.{step_line}
use Rattle.spv_listing.proofs.verdict_pages.steps.push_steps.Given as goal

abbrev pub invariant-loop-step : goal.invariant-loop-step
invariant-loop-step l = l.out.items ≡ l.initial.out.items ++ flat_map (step_line l.names l.titles (tree l.terms)) (take l.step-index l.steps)
