use Rattle.std.proofs.Common.{◌≡◌, take}
use Rattle.spv_rechecking.specs.Made.{images_at}
use Rattle.spv_rechecking.proofs.making.ids_at.Given as goal

abbrev pub invariant-loop-place : goal.invariant-loop-place
invariant-loop-place l = l.ids.items ≡ images_at l.images (take l.place-index l.places)
