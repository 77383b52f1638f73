use Rattle.std.proofs.Common.{◌≡◌, ◌≤◌, length, map, take}
use Rattle.std.specs.Prelude.{vec_capacity}
use Rattle.spv_simplex.specs.Evidence.{held_in, holding}
use Rattle.spv_simplex.proofs.evidence.copy_held.Given as goal

abbrev pub invariant-loop-slot : goal.invariant-loop-slot
invariant-loop-slot l = record {
  items : map held_in l.into.items ≡ map (holding l.values) (take l.slot l.dictionary.outside);
  count : length l.into.items ≡ l.slot;
  capacity : vec_capacity l.initial.into ≤ vec_capacity l.into;
}
