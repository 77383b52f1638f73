use Rattle.std.proofs.Common.{◌≡◌, Bool, Option, length}
use Rattle.spv_logic.specs.Terms.{Term}
use Rattle.spv_atoms.specs.Valued.{AreGiven, AreValued}
use Rattle.spv_atoms.proofs.valued.values_in_order.Given as goal

abbrev pub invariant-loop-t : goal.invariant-loop-t
invariant-loop-t l = record {
  count : length l.found.items ≡ l.t-index;
  valued : (given : Term → Option Bool) → AreGiven l.terms given l.order l.own → AreValued l.terms given l.order l.found.items;
}
