use Rattle.std.specs.Prelude.{◌≡◌, false}
use Rattle.spv_logic.specs.declared.conditions.TermId.{TermId}
use Rattle.spv_decisions.specs.decision.Choosing.{lacks_order}
use Rattle.spv_decisions.proofs.literal_lookup.Turns.{AreBefore}
use Rattle.spv_decisions.proofs.decision.choosing.without_order.Given as goal

abbrev pub invariant-loop-t : goal.invariant-loop-t
invariant-loop-t l = AreBefore (λ (t : TermId). lacks_order l.terms l.values l.known t ≡ false) l.atoms l.t-index
