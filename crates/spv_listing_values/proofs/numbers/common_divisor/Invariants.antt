use Rattle.std.proofs.Common.{◌≡◌}
use Rattle.spv_whole.specs.Gcd.{gcd}
use Rattle.spv_listing_values.proofs.numbers.common_divisor.Given as goal

abbrev pub invariant-loop-right : goal.invariant-loop-right
invariant-loop-right l = gcd l.left l.right ≡ gcd l.fn.a l.fn.b

abbrev pub decreases-loop-right : goal.decreases-loop-right
decreases-loop-right l = l.right
