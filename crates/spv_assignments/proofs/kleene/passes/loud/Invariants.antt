use Rattle.std.proofs.Common.{◌≡◌, ◌<◌, false}
use Rattle.spv_logic.specs.declared.conditions.TermId.{TermId}
use Rattle.spv_proof_rules.specs.Evaluation.{opposite}
use Rattle.spv_assignments.specs.kleene.Passes.{at, plain_at}
use Rattle.spv_assignments.proofs.kleene.passes.loud.Given as goal

abbrev pub invariant-loop-i : goal.invariant-loop-i
invariant-loop-i l = (t : TermId) → t.0 < l.i → opposite (plain_at l.terms t) (at l.own t.0) ≡ false
