use Rattle.spv_derivations.proofs.derivation.Bridges.{if_both}
use Rattle.spv_derivations.proofs.derivation.Derivations.{gains-told}
use Rattle.spv_derivations.proofs.derivation.derivation.Derivation.told.Goals as goal

pub returns-clause-gains : goal.returns-clause-gains
returns-clause-gains c =
    if_both c.push.result c.push.ensures.number c.push.ensures.ok
    (λ n at is a f h p. gains-told a c.args.self.now c.push.new.self c.args.atom c.args.part c.args.why n is at f h p)
