use Rattle.spv_trail.proofs.propagation.Changes.{AreTold}
use Rattle.spv_trail.proofs.propagation.telling.tell_values.Given as goal

abbrev pub invariant-loop-t : goal.invariant-loop-t
invariant-loop-t l = AreTold l.terms l.condition l.fn.derivation l.derivation l.known l.fn.both l.both l.questions l.before l.now l.t-index
