use Rattle.std.proofs.Common.{◌≡◌, ◌≤◌, length, map, take}
use Rattle.std.specs.Prelude.{vec_capacity}
use Rattle.spv_simplex.specs.Evidence.{bound_in}
use Rattle.spv_simplex.proofs.evidence.copy_bounds.Given as goal

abbrev pub invariant-loop-place : goal.invariant-loop-place
invariant-loop-place l = record {
  items : map bound_in l.into.items ≡ take l.place l.trail.bounds;
  count : length l.into.items ≡ l.place;
  capacity : vec_capacity l.initial.into ≤ vec_capacity l.into;
}
