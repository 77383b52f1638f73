use Rattle.std.proofs.Common.{◌≡◌, is_some, drop}
use Rattle.spv_term.specs.substitution.Images.{image_of}
use Rattle.spv_assign.proofs.pending.staying.is_first.Given as goal

abbrev pub invariant-loop-pair : goal.invariant-loop-pair
invariant-loop-pair l = is_some (image_of l.pairs l.t) ≡ is_some (image_of (drop l.pair-index l.pairs) l.t)
