use Rattle.std.proofs.Common.{◌≡◌, length}
use Rattle.spv_atoms.specs.Found.{AreFound}
use Rattle.spv_atoms.proofs.forms.all_found.Given as goal

abbrev pub invariant-loop-t : goal.invariant-loop-t
invariant-loop-t l = record {
  count : length l.known.items ≡ l.t-index;
  found : AreFound l.terms l.order l.known.items;
}
