use Rattle.std.proofs.Common.{[], ◌∷◌}
use Rattle.spv_term.specs.Arena.{tree}
use Rattle.spv_atoms.specs.declared.proofs.Stated.TheVariants.{Is}
use Rattle.spv_proof_rules.specs.Stand.{question}
use Rattle.spv_tableau_rules.specs.constraints.Sayings.{literal}
use Rattle.spv_derivations.proofs.derivation.Bridges.{if_ok}
use Rattle.spv_derivations.specs.branches.Paths.{facts_in}
use Rattle.spv_trail.proofs.asserted_steps.Numbers.{stated_is, evaluation_adds, one_cited}
use Rattle.spv_trail.proofs.asserted_steps.evaluating.evaluate.Goals as goal

pub returns : goal.returns
returns c =
    let q = question c.args.terms.now c.args.condition.now in
    let facts = facts_in (question c.args.terms.now c.args.condition.now) c.args.derivation.now in
    if_ok c.evaluate_claim.result c.evaluate_claim.ensures
    (λ n derived cases f path number is shown. derived cases (literal c.args.truth (tree c.args.terms.now c.args.t)) path
    (evaluation_adds q facts (Is c.args.t c.args.truth) (c.args.fact ∷ []) (f ∷ []) (literal c.args.truth (tree c.args.terms.now c.args.t)) (stated_is q c.args.t c.args.truth is) (one_cited facts c.args.fact f number) shown))
