use Rattle.std.proofs.Common.{◌≡◌, List, length, drop}
use Rattle.spv_logic.specs.declared.conditions.TermId.{TermId}
use Rattle.spv_term.specs.Arena.{AllBelow}
use Rattle.spv_atoms.specs.Valued.{AreValued}
use Rattle.spv_proof_steps.specs.Given.{IsKnown}
use Rattle.spv_proof_steps.specs.Valued.{given_in, AllInside}
use Rattle.spv_proof_steps.proofs.ValuedLemmas.{some_clash}
use Rattle.spv_proof_steps.proofs.valued.any_clashes.Given as goal

abbrev pub invariant-loop-t : goal.invariant-loop-t
invariant-loop-t l = record {
  in_range : AllBelow (length l.terms.nodes) (drop l.t-index l.ts);
  inside : AllInside l.terms l.valued.order l.valued.found.items (drop l.t-index l.ts);
  same : (cited : List TermId) → IsKnown l.terms cited l.known → AreValued l.terms (given_in l.terms cited l.formula) l.valued.order l.valued.found.items
      → some_clash l.terms cited l.formula (drop l.t-index l.ts) ≡ some_clash l.terms cited l.formula l.ts;
}
