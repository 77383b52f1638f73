use Rattle.std.proofs.Common.{ap, ◌∙◌}
use Rattle.spv_term.specs.Arena.{tree}
use Rattle.spv_atoms.specs.declared.proofs.Stated.TheVariants.{Is}
use Rattle.spv_proof_rules.specs.Effects.{cited}
use Rattle.spv_proof_rules.specs.Stand.{question}
use Rattle.spv_tableau_rules.specs.constraints.Sayings.{literal}
use Rattle.spv_derivations.proofs.derivation.Bridges.{if_ok}
use Rattle.spv_derivations.specs.branches.Paths.{facts_in}
use Rattle.spv_assignments.specs.partial_assignment.Facts.{facts_of}
use Rattle.spv_assignments.proofs.partial_assignment.Ending.{all_cited}
use Rattle.spv_trail.proofs.asserted_steps.Numbers.{stated_is, evaluation_adds}
use Rattle.spv_trail.proofs.asserted_steps.evaluating.evaluate_all.Goals as goal

pub returns : goal.returns
returns c =
    let q = question c.args.terms.now c.args.condition.now in
    let facts = facts_in (question c.args.terms.now c.args.condition.now) c.args.derivation.now in
    if_ok c.derive.result c.derive.ensures
    (λ n derived cases path numbered is shown. derived cases (literal c.args.truth (tree c.args.terms.now c.args.t)) path
    (evaluation_adds q facts (Is c.args.t c.args.truth) c.from_vec.result (facts_of c.args.terms.now c.args.known.now) (literal c.args.truth (tree c.args.terms.now c.args.t)) (stated_is q c.args.t c.args.truth is)
    (ap (cited facts) (c.from_vec.ensures ∙ c.in_ok-cites.ensures) ∙ all_cited c.args.terms.now facts c.args.known.now numbered) shown))
