use Rattle.spv_derivations.proofs.derivation.Bridges.{if_ok}
use Rattle.std.proofs.Common.{◌∙◌}
use Rattle.spv_arithmetic_side.proofs.constraint_rows.Refuting.{contrary_refuted}
use Rattle.spv_arithmetic_side.proofs.constraint_rows.saying.end_opposed.Goals as goal

pub returns-clause-gains : goal.returns-clause-gains
returns-clause-gains c =
    if_ok c.contradiction.result c.contradiction.ensures.gains
    (λ n g a row f ok derivation numbers parts contrary.
    g a ok derivation numbers
    (contrary_refuted a c.args.derivation.now row f c.args.from c.as_slice.result.now c.as_slice-2.result.now parts contrary (c.as_slice.ensures.value ∙ c.in_ok-sides.ensures) (c.as_slice-2.ensures.value ∙ c.in_ok-sources.ensures)))
