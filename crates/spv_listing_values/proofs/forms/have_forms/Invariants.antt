use Rattle.std.proofs.Common.{◌≡◌, true, take}
use Rattle.std.specs.List.{list_all}
use Rattle.spv_listing_values.specs.Entries.{has_form}
use Rattle.spv_listing_values.proofs.forms.have_forms.Given as goal

abbrev pub invariant-loop-k : goal.invariant-loop-k
invariant-loop-k l = list_all has_form (take l.k l.texts) ≡ true
