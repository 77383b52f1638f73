use Rattle.std.proofs.Common.{◌≡◌}
use Rattle.spv_dictionary.specs.Dictionary.{slots_to}
use Rattle.spv_dictionary.proofs.dictionary.slots_of.Given as goal

abbrev pub invariant-loop-slot : goal.invariant-loop-slot
invariant-loop-slot l = l.spots.items ≡ slots_to l.slot
