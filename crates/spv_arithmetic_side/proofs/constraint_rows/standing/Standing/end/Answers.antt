use Rattle.spv_derivations.proofs.derivation.Bridges.{if_ok}
use Rattle.spv_arithmetic_side.proofs.constraint_rows.Trying.{end_refuted}
use Rattle.spv_arithmetic_side.proofs.constraint_rows.standing.Standing.end.Goals as goal

pub returns-clause-gains : goal.returns-clause-gains
returns-clause-gains c =
    if_ok c.contradiction.result c.contradiction.ensures.gains
    (λ n g a ok derivation are inside sourced infeasible.
    g a ok derivation are (end_refuted a c.args.derivation.now c.args.self.now c.as_slice.result.now _ c.as_slice.ensures.value c.combination.ensures inside sourced infeasible))
