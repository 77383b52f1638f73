use Rattle.spv_derivations.proofs.derivation.Bridges.{if_ok}
use Rattle.spv_proof_rules.specs.Stand.{question}
use Rattle.spv_trail.proofs.asserted_steps.Numbers.{case_derived}
use Rattle.spv_trail.proofs.asserted_steps.adding.tell.Goals as goal

pub returns : goal.returns
returns c =
    if_ok c.count_of.result c.count_of.ensures
    (λ n count cases path next. case_derived (question c.args.terms.now c.args.condition.now) c.args.derivation.now c.told.new.self c.args.atom c.args.part c.args.why n cases c.in_ok-told.ensures.entry count next path)
