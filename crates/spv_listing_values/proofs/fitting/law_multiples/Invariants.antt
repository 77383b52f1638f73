use Rattle.std.proofs.Common.{◌≡◌, true, take}
use Rattle.std.specs.List.{list_all}
use Rattle.spv_listing_values.specs.Forms.{is_multiple}
use Rattle.spv_listing_values.proofs.fitting.law_multiples.Given as goal

abbrev pub invariant-loop-multiple : goal.invariant-loop-multiple
invariant-loop-multiple l = list_all is_multiple (take l.multiple-index l.multiples) ≡ true
