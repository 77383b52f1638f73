use Rattle.std.proofs.Common.{◌≡◌, pos}
use Rattle.std.specs.List.{list_all}
use Rattle.std.specs.Ordering.{int_eq}
use Rattle.spv_proof.specs.sums.Partials.{all_zero}
use Rattle.spv_proof.proofs.sums.partial.PartialSum.is_constant.Given as goal

abbrev pub invariant-loop-factor : goal.invariant-loop-factor
invariant-loop-factor l = list_all (λ f. int_eq f.num (pos 0)) l.factor-iterator ≡ all_zero l.self.parts
