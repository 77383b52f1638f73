use Rattle.std.proofs.Common.{◌≡◌, ◌≤◌, length, map}
use Rattle.std.specs.Prelude.{vec_capacity}
use Rattle.spv_dictionary.specs.Dictionary.{basic_at}
use Rattle.spv_dictionary.specs.pivoting.Combining.{multiple_in, multiples_in}
use Rattle.spv_dictionary.proofs.pivoting.combining.combine.Given as goal

abbrev pub invariant-loop-other : goal.invariant-loop-other
invariant-loop-other l = record {
  items : map multiple_in l.into.items ≡ multiples_in l.dictionary (length l.dictionary.outside) (basic_at l.dictionary l.row) l.side l.other;
  few : length l.into.items ≤ l.other;
  capacity : vec_capacity l.initial.into ≤ vec_capacity l.into;
  room : length l.dictionary.basic ≤ vec_capacity l.into;
}
