use Rattle.std.proofs.Common.{◌≡◌, length}
use Rattle.spv_table.specs.Kept.{AreKept, listed_over}
use Rattle.spv_table.proofs.kept.all_kept.Given as goal

abbrev pub invariant-loop-t : goal.invariant-loop-t
invariant-loop-t l = record {
  count : length l.kept.items ≡ l.t-index;
  kept : AreKept l.terms (listed_over l.terms l.values) l.order l.kept.items;
}
