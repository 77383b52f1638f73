use Rattle.std.proofs.Common.{[], ◌∷◌, ◌++◌, map, ap, ◌∙◌}
use Rattle.spv_term.specs.Arena.{tree}
use Rattle.spv_proof_steps.proofs.ValuedLemmas.{bare_terms, term_evaluates}
use Rattle.spv_proof_steps.proofs.valued.evaluates_term.Goals as goal

pub returns : goal.returns
returns c =
    term_evaluates c.args.terms.now c.args.cited.now c.push_bare.new.out.items c.as_slice-2.result.now c.args.formula c.args.inner c.any_clashes.result c.requires.is
    (c.in_ok-push_bare.ensures.terms ∙ ap (λ rs. map (tree c.args.terms.now) rs ++ bare_terms c.args.terms.now c.args.cited.now) (c.in_ok-push.ensures.items ∙ ap (λ rs. rs ++ c.args.inner ∷ []) c.new-roots.ensures.items)) c.as_slice-2.ensures.value
    (c.any_clashes.ensures c.args.cited.now c.in_ok-known.ensures (c.in_ok-valued.ensures.values c.args.cited.now c.in_ok-known.ensures))
