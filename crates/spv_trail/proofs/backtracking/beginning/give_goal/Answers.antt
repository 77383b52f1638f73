use Rattle.spv_term.specs.Arena.{tree}
use Rattle.spv_logic.specs.Formulas.{negation}
use Rattle.spv_trail.proofs.backtracking.Giving.{first_none, goal_known}
use Rattle.spv_trail.proofs.backtracking.beginning.give_goal.Goals as goal

pub returns-in-None : goal.returns-in-None
returns-in-None c =
    goal_known c.args.terms.now c.args.condition.now c.args.derivation.now c.give_one.new.derivation c.args.known.now.items c.give_one.new.known.items c.requires.given
    (first_none c.args.terms.now c.args.condition.now c.give_one.new.derivation c.give_one.new.known.items c.args.known.now.items (negation (tree c.args.terms.now c.args.condition.now.goal)) c.in_ok-end.end c.in-None.is c.in_ok-end.ensures)
