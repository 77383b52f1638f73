use Rattle.std.proofs.Common.{Some, None, map, refl, length, ap, ◌∙◌}
use Rattle.spv_term.specs.Arena.{tree, sequent}
use Rattle.spv_proof_rules.specs.Effects as spec
use Rattle.spv_proof_steps.proofs.StepLemmas.{AllBelow-formulas, given-number}
use Rattle.spv_proof_steps.proofs.steps.given_effect.Goals as goal

pub returns-in-Some-clause-value : goal.returns-in-Some-clause-value
returns-in-Some-clause-value c =
    let a = c.args.terms.now in
    given-number (sequent a c.args.condition.now) c.args.number (Some (tree a c.in-Some.t)) c.if-number-eq0.false
    (c.in-Some.ensures.value (tree a) ∙ ap (λ ts. spec.numbered (map (tree a) ts) c.args.number) c.as_slice.ensures)

pub returns-in-Some-clause-may : goal.returns-in-Some-clause-may
returns-in-Some-clause-may c = c.in-Some.ensures.in_range (length c.args.terms.now.nodes) (rw c.as_slice.ensures (AllBelow-formulas c.args.terms.now c.args.condition.now.given c.requires.given)) c.in-Some.t refl

pub returns-in-None-clause-value : goal.returns-in-None-clause-value
returns-in-None-clause-value c =
    let a = c.args.terms.now in
    given-number (sequent a c.args.condition.now) c.args.number None c.if-number-eq0.false
    (c.in-None.ensures.value (tree a) ∙ ap (λ ts. spec.numbered (map (tree a) ts) c.args.number) c.as_slice.ensures)
