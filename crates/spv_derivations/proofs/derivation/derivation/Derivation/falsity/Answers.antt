use Rattle.spv_derivations.proofs.derivation.Bridges.{if_ok}
use Rattle.spv_derivations.proofs.derivation.Derivations.{evaluation-falsity}
use Rattle.spv_derivations.proofs.derivation.derivation.Derivation.falsity.Goals as goal

pub returns-clause-gains : goal.returns-clause-gains
returns-clause-gains c =
    if_ok c.evaluated_by.result c.evaluated_by.ensures.gains
    (λ n g a f t h. g a _ f (evaluation-falsity a c.args.self.now c.args.falsity c.args.k t h))
