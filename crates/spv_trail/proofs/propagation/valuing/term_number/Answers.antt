use Rattle.spv_derivations.proofs.derivation.Bridges.{if_ok}
use Rattle.spv_term.specs.Arena.{tree}
use Rattle.spv_tableau_rules.specs.constraints.Sayings.{literal}
use Rattle.spv_trail.proofs.propagation.Values.{same_term_number, evaluated_number}
use Rattle.spv_trail.proofs.propagation.valuing.term_number.Goals as goal

pub returns-then-said : goal.returns-then-said
returns-then-said c =
    λ cases old h formula. same_term_number c.args.terms.now c.args.condition.now cases old c.args.derivation.now c.args.number c.args.t c.args.truth c.args.said c.requires.said c.if-said.true h

pub returns : goal.returns
returns c =
    if_ok c.evaluate.result c.evaluate.ensures
    (λ n derives cases old h formula. evaluated_number c.args.terms.now c.args.condition.now cases old c.args.derivation.now c.evaluate.new.derivation c.args.number n c.args.t c.args.truth c.args.said c.requires.said c.if-said.false
    (λ path m f e. derives cases (literal c.args.said.truth (tree c.args.terms.now c.args.said.core)) path m f e) h formula)
