use Rattle.std.proofs.Common.{length, take, drop}
use Rattle.spv_term.specs.Arena.{AllBelow}
use Rattle.spv_atoms.specs.Tables.{assigned}
use Rattle.spv_atoms.specs.Valued.{pairs, AreGiven}
use Rattle.spv_atoms.proofs.valued.all_given.Given as goal

abbrev pub invariant-loop-t : goal.invariant-loop-t
invariant-loop-t l = record {
  in_range : AllBelow (length l.terms.nodes) (drop l.t-index l.ids);
  given : AreGiven l.terms (assigned (pairs l.terms l.known)) (take l.t-index l.ids) l.own.items;
}
