use Rattle.std.proofs.Common.{◌≡◌, ◌++◌}
use Rattle.spv_dictionary.specs.Dictionary.{rows_to}
use Rattle.spv_dictionary.proofs.dictionary.add_rows.Given as goal

abbrev pub invariant-loop-row : goal.invariant-loop-row
invariant-loop-row l = l.spots.items ≡ l.initial.spots.items ++ rows_to l.row
