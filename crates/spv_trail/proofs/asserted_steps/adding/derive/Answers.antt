use Rattle.spv_derivations.proofs.derivation.Bridges.{if_ok}
use Rattle.spv_trail.proofs.asserted_steps.Numbers.{step_derived}
use Rattle.spv_proof_rules.specs.Stand.{question}
use Rattle.spv_trail.proofs.asserted_steps.adding.derive.Goals as goal

pub returns : goal.returns
returns c =
    if_ok c.count_of.result c.count_of.ensures
    (λ n count cases f path adds. step_derived (question c.args.terms.now c.args.condition.now) c.args.derivation.now c.derive.new.self c.args.step n c.in_ok-derive.ensures.entry count c.requires cases f path adds)
