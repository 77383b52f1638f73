use Rattle.std.proofs.Common.{◌≡◌, map, take}
use Rattle.spv_search_terms.specs.condition_copy.Copies.{image_in}
use Rattle.spv_search_terms.proofs.condition_copy.copying.images_of.Given as goal

abbrev pub invariant-loop-t : goal.invariant-loop-t
invariant-loop-t l = l.found.items ≡ map (image_in l.order l.images) (take l.t-index l.list)
