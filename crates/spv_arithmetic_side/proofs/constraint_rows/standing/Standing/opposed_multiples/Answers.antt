use Rattle.std.proofs.Common.{◌∙◌}
use Rattle.spv_derivations.proofs.derivation.Bridges.{if_ok}
use Rattle.spv_arithmetic_side.proofs.constraint_rows.Refuting.{opposed_refutes}
use Rattle.spv_arithmetic_side.proofs.constraint_rows.standing.Standing.opposed_multiples.Goals as goal

pub returns : goal.returns
returns c =
    if_ok c.fact_multiples.result c.fact_multiples.ensures
    (λ list is.
    opposed_refutes c.law_refuted.ensures.above c.args.self.now c.args.row c.args.saying c.opposed-from.result c.as_slice.result.now c.as_slice-2.result.now list c.requires.row c.opposed-from.ensures
    (c.as_slice.ensures.value ∙ c.in_ok-sides.ensures) (c.as_slice-2.ensures.value ∙ c.in_ok-sources.ensures) is)
