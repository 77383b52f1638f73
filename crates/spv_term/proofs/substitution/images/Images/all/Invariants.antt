use Rattle.std.proofs.Common.{◌≡◌, map, take}
use Rattle.spv_term.specs.substitution.Images.{image_or}
use Rattle.spv_term.proofs.substitution.images.Images.all.Given as goal

abbrev pub invariant-loop-t : goal.invariant-loop-t
invariant-loop-t l = l.images.items ≡ map (image_or l.self) (take l.t-index l.list)
