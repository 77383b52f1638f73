use Rattle.std.proofs.Common.{ℕ, List, [], ◌∷◌, ◌++◌, ap, ◌∙◌}
use Rattle.spv_atoms.specs.declared.proofs.Step.TheVariants.{Eval}
use Rattle.spv_proof_rules.specs.Effects.{effect}
use Rattle.spv_proof_rules.specs.Stand.{question}
use Rattle.spv_derivations.proofs.derivation.Bridges.{if_ok}
use Rattle.spv_derivations.specs.branches.Paths.{facts_in}
use Rattle.spv_trail.proofs.asserted_steps.evaluating.evaluate_claim.Goals as goal

pub returns : goal.returns
returns c =
    let q = question c.args.terms.now c.args.condition.now in
    let facts = facts_in (question c.args.terms.now c.args.condition.now) c.args.derivation.now in
    if_ok c.derive.result c.derive.ensures (λ n derived cases f path adds. derived cases f path (ap (λ (ks : List ℕ). effect q facts (Eval c.args.claim ks)) (c.in_ok-push.ensures.ok ∙ ap (λ (ks : List ℕ). ks ++ c.args.fact ∷ []) c.new-cites.ensures) ∙ adds))
