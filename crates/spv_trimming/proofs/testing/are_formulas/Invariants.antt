use Rattle.std.proofs.Common.{drop}
use Rattle.spv_proof_steps.specs.Candidates.{AllFormulas}
use Rattle.spv_trimming.proofs.testing.are_formulas.Given as goal

abbrev pub invariant-loop-t : goal.invariant-loop-t
invariant-loop-t l = AllFormulas l.terms (drop l.t-index l.ts) → AllFormulas l.terms l.ts
