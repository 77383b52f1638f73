use Rattle.std.proofs.Common.{◌≡◌, take}
use Rattle.spv_rechecking.proofs.converting.multiples.Given as goal

abbrev pub invariant-loop-multiple : goal.invariant-loop-multiple
invariant-loop-multiple l = l.copy.items ≡ take l.multiple-index l.list
