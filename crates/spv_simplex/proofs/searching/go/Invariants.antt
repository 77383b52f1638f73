use Rattle.std.proofs.Common.{◌≡◌, ◌-◌, ◌≤◌, ◌<◌, ◌^◌, length}
use Rattle.std.specs.Prelude.{vec_capacity}
use Rattle.spv_dictionary.specs.pivoting.Choosing.{limits_of}
use Rattle.spv_simplex.specs.pivot_runs.Derivation.{Goes}
use Rattle.spv_simplex.specs.Evidence.{no_operation}
use Rattle.spv_simplex.proofs.searching.go.Given as goal

abbrev pub invariant-loop-answer : goal.invariant-loop-answer
invariant-loop-answer l = record {
  goes : Goes (limits_of (length l.initial.dictionary.outside) l.trail.bounds) l.initial.dictionary l.initial.values l.evidence.steps l.dictionary l.values;
  width : length l.dictionary.outside ≡ length l.initial.dictionary.outside;
  start : l.evidence.start ≡ l.initial.evidence.start;
  room : l.evidence.room ≡ l.initial.evidence.room;
  operation : l.evidence.operation ≡ no_operation;
  count : length l.values ≡ length l.dictionary.spots;
  rows : l.trail.rows ≡ length l.dictionary.basic;
  few : length l.dictionary.spots < 2 ^ 32;
  combination : length l.dictionary.basic ≤ vec_capacity l.combination;
  capacity : vec_capacity l.initial.combination ≤ vec_capacity l.combination;
}

abbrev pub decreases-loop-answer : goal.decreases-loop-answer
decreases-loop-answer l = l.evidence.room.steps - length l.evidence.steps
