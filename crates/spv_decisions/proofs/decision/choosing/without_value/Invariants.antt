use Rattle.std.specs.Prelude.{◌≡◌, true, is_some}
use Rattle.spv_logic.specs.declared.conditions.TermId.{TermId}
use Rattle.spv_assignments.specs.kleene.Passes.{at}
use Rattle.spv_decisions.proofs.literal_lookup.Turns.{AreBefore}
use Rattle.spv_decisions.proofs.decision.choosing.without_value.Given as goal

abbrev pub invariant-loop-t : goal.invariant-loop-t
invariant-loop-t l = AreBefore (λ (t : TermId). is_some (at l.values t.0) ≡ true) l.atoms l.t-index
