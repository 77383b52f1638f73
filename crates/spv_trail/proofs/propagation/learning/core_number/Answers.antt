use Rattle.spv_tableau_rules.specs.constraints.Sayings.{literal}
use Rattle.spv_term.specs.Arena.{tree}
use Rattle.spv_derivations.proofs.derivation.Bridges.{if_ok}
use Rattle.spv_trail.proofs.propagation.Values.{same_core_number, evaluated_core_number}
use Rattle.spv_trail.proofs.propagation.learning.core_number.Goals as goal

pub returns-then-said : goal.returns-then-said
returns-then-said c =
    λ cases t truth path st formula number. same_core_number c.args.terms.now c.args.condition.now cases c.args.derivation.now c.args.number t truth c.args.said path st c.if-said.true number

pub returns : goal.returns
returns c =
    if_ok c.evaluate.result c.evaluate.ensures
    (λ n derives cases t truth path st formula number. evaluated_core_number c.args.terms.now c.args.condition.now cases c.args.derivation.now c.evaluate.new.derivation c.args.number n t truth c.args.said st c.if-said.false
    (λ m f e. derives cases (literal truth (tree c.args.terms.now t)) path m f e) formula number)
