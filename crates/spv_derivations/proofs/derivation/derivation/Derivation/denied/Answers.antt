use Rattle.spv_derivations.proofs.derivation.Bridges.{if_ok}
use Rattle.spv_derivations.proofs.derivation.Derivations.{evaluation-denied}
use Rattle.spv_derivations.proofs.derivation.derivation.Derivation.denied.Goals as goal

pub returns-clause-gains : goal.returns-clause-gains
returns-clause-gains c =
    if_ok c.evaluated_by.result c.evaluated_by.ensures.gains
    (λ n g a f p e. g a _ f (evaluation-denied a c.args.self.now c.args.p c.args.k p e))
