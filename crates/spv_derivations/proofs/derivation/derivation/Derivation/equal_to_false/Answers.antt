use Rattle.spv_derivations.proofs.derivation.Bridges.{if_ok}
use Rattle.spv_derivations.proofs.derivation.Derivations.{evaluation-false}
use Rattle.spv_derivations.proofs.derivation.derivation.Derivation.equal_to_false.Goals as goal

pub returns-clause-gains : goal.returns-clause-gains
returns-clause-gains c =
    if_ok c.evaluated_by.result c.evaluated_by.ensures.gains
    (λ n g a f p t e. g a _ f (evaluation-false a c.args.self.now c.args.p c.args.falsity c.args.k p t e))
