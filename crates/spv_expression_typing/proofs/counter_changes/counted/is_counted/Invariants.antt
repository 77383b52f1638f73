use Rattle.std.proofs.Common.{◌≡◌, drop}
use Rattle.spv_expression_typing.specs.counter_changes.Counted.{is_counted}
use Rattle.spv_expression_typing.proofs.counter_changes.counted.is_counted.Given as goal

abbrev pub invariant-loop-v : goal.invariant-loop-v
invariant-loop-v l = is_counted (drop l.v-index l.counted) l.x ≡ is_counted l.counted l.x
