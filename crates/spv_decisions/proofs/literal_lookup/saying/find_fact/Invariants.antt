use Rattle.spv_term.specs.Arena.{tree}
use Rattle.spv_tableau_rules.specs.constraints.Sayings.{literal}
use Rattle.spv_decisions.proofs.literal_lookup.Turns.{AreBefore}
use Rattle.spv_decisions.proofs.literal_lookup.Said.{IsOther}
use Rattle.spv_decisions.proofs.literal_lookup.saying.find_fact.Given as goal

abbrev pub invariant-loop-k : goal.invariant-loop-k
invariant-loop-k l = AreBefore (IsOther l.terms (literal l.truth (tree l.terms l.t))) l.known l.k-index
