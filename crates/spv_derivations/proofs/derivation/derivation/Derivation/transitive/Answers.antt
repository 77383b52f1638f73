use Rattle.spv_logic.specs.Formulas.{equation}
use Rattle.spv_derivations.specs.derivation.Derivation.{facts}
use Rattle.spv_derivations.proofs.derivation.Bridges.{if_ok}
use Rattle.spv_derivations.proofs.derivation.Derivations.{adding-transitive}
use Rattle.spv_derivations.proofs.derivation.derivation.Derivation.transitive.Goals as goal

pub returns-clause-gains : goal.returns-clause-gains
returns-clause-gains c =
    if_ok c.derive.result c.derive.ensures.gains
    (λ n g a s t u f d e. g a (equation s u) f (adding-transitive a (facts a c.args.self.now) c.args.j c.args.k s t u d e))
