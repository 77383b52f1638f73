use Rattle.std.proofs.Common.{◌≡◌, ◌<◌, ◌-◌, slice_get}
use Rattle.spv_congruence.specs.Rings.{comparable_with, first_behind}
use Rattle.spv_congruence.proofs.kept.Kept.next_comparable.Given as goal

abbrev pub invariant-loop : goal.invariant-loop
invariant-loop l = record {
  at : l.at < l.self.classes.count;
  rest : first_behind (λ x. comparable_with l.head (slice_get l.self.nodes x)) l.self.classes.joins l.at (l.steps - l.counter) ≡ first_behind (λ x. comparable_with l.head (slice_get l.self.nodes x)) l.self.classes.joins l.start l.steps;
}
