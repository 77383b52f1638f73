use Rattle.std.proofs.Common.{◌≡◌, drop, length}
use Rattle.spv_term.specs.Arena.{AllBelow}
use Rattle.spv_atoms.specs.Order.{SameMembers, added}
use Rattle.spv_atoms.proofs.formulas.add_atoms.Given as goal

abbrev pub invariant-loop-t : goal.invariant-loop-t
invariant-loop-t l = record {
  atoms : added l.terms l.out.items (drop l.t-index l.found) ≡ added l.terms l.fn.out.items l.found;
  same : SameMembers l.known l.out.items;
  in_range : AllBelow (length l.terms.nodes) l.out.items;
  found_in : AllBelow (length l.terms.nodes) (drop l.t-index l.found);
}
