use Rattle.std.proofs.Common.{◌≤◌}
use Rattle.spv_congruence.specs.Keep.{AreEmptied}
use Rattle.spv_congruence.proofs.taking.empty_places.Given as goal

abbrev pub invariant-loop-place : goal.invariant-loop-place
invariant-loop-place l = record {
  emptied : AreEmptied l.fn.nodes.items l.added l.from l.place l.nodes.items;
  past : l.from ≤ l.place;
}
