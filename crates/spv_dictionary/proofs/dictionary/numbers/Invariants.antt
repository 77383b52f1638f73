use Rattle.std.proofs.Common.{◌≡◌}
use Rattle.spv_dictionary.specs.Cells.{numbers_from}
use Rattle.spv_dictionary.proofs.dictionary.numbers.Given as goal

abbrev pub invariant-loop-number : goal.invariant-loop-number
invariant-loop-number l = l.numbers.items ≡ numbers_from l.low l.number
