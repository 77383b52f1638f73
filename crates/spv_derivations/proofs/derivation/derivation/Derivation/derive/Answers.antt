use Rattle.std.proofs.Common.{ap}
use Rattle.spv_derivations.specs.derivation.Literals.{literals}
use Rattle.spv_derivations.proofs.derivation.Bridges.{if_both, in_both}
use Rattle.spv_derivations.proofs.derivation.Growth.{gains-derived}
use Rattle.spv_derivations.proofs.derivation.Literals.{literals_derived}
use Rattle.spv_derivations.proofs.derivation.derivation.Derivation.derive.Goals as goal

pub returns-clause-gains : goal.returns-clause-gains
returns-clause-gains c =
    if_both c.push.result c.push.ensures.number c.push.ensures.ok
    (λ n at is a t f h. gains-derived a c.args.self.now c.push.new.self c.args.step n t is at f h)

pub returns-clause-literals : goal.returns-clause-literals
returns-clause-literals c =
    in_both c.push.result c.push.ensures.ok c.push.ensures.err
    (λ e. literals_derived c.args.self.now c.push.new.self c.args.step e)
    (λ e. ap literals e)
