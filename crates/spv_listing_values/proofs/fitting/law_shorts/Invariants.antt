use Rattle.std.proofs.Common.{◌≡◌, true, take}
use Rattle.std.specs.List.{list_all}
use Rattle.spv_listing_values.specs.Forms.{is_short}
use Rattle.spv_listing_values.proofs.fitting.law_shorts.Given as goal

abbrev pub invariant-loop-number : goal.invariant-loop-number
invariant-loop-number l = list_all is_short (take l.number-index l.numbers) ≡ true
