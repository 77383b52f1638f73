use Rattle.std.proofs.Common.{◌≡◌, List, length, take, drop}
use Rattle.spv_logic.specs.declared.conditions.TermId.{TermId}
use Rattle.spv_term.specs.Arena.{AllBelow}
use Rattle.spv_atoms.specs.Valued.{AreGiven}
use Rattle.spv_proof_steps.specs.Given.{IsKnown}
use Rattle.spv_proof_steps.specs.Valued.{given_in}
use Rattle.spv_proof_steps.proofs.valued.all_given.Given as goal

abbrev pub invariant-loop-t : goal.invariant-loop-t
invariant-loop-t l = record {
  in_range : AllBelow (length l.terms.nodes) (drop l.t-index l.ids);
  count : length l.own.items ≡ l.t-index;
  given : (cited : List TermId) → IsKnown l.terms cited l.known → AreGiven l.terms (given_in l.terms cited l.formula) (take l.t-index l.ids) l.own.items;
}
