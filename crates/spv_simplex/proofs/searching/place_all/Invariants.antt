use Rattle.std.proofs.Common.{◌≡◌, length}
use Rattle.spv_dictionary.specs.pivoting.Choosing.{limits_of}
use Rattle.spv_simplex.specs.pivot_runs.Derivation.{ArePlaced}
use Rattle.spv_simplex.proofs.searching.place_all.Given as goal

abbrev pub invariant-loop-slot : goal.invariant-loop-slot
invariant-loop-slot l = record {
  placed : ArePlaced (limits_of (length l.dictionary.outside) l.trail.bounds) l.dictionary l.initial.values l.slot l.values;
  count : length l.values ≡ length l.dictionary.spots;
}
