use Rattle.std.proofs.Common.{map}
use Rattle.spv_term.specs.Arena.{tree, trees_of}
use Rattle.spv_proof.specs.checker.Tasks.{rules_of}
use Rattle.spv_proof.proofs.checker.UnderRules.{linear_does, linear_stops}
use Rattle.spv_proof.proofs.checker.walking.trial.Goals as goal

pub returns-in-Linear-clause-value : goal.returns-in-Linear-clause-value
returns-in-Linear-clause-value c =
    let a = c.args.terms.now in
    linear_does (rules_of c.args.task.now.rules) a c.args.task.now.condition.now a.most (trees_of a.nodes) (map (tree a) c.args.facts.now) c.args.step.now c.in-Linear.relation c.in-Linear.first c.in-Linear.second
    c.as_slice-in-Linear.result.now c.as_slice-in-Linear-2.result.now c.in-Linear.is c.as_slice-in-Linear.ensures c.as_slice-in-Linear-2.ensures c.linear.result c.linear.ensures.value

pub returns-in-Linear-clause-stop : goal.returns-in-Linear-clause-stop
returns-in-Linear-clause-stop c =
    let a = c.args.terms.now in
    linear_stops (rules_of c.args.task.now.rules) a c.args.task.now.condition.now a.most (trees_of a.nodes) (map (tree a) c.args.facts.now) c.args.step.now c.in-Linear.relation c.in-Linear.first c.in-Linear.second
    c.as_slice-in-Linear.result.now c.as_slice-in-Linear-2.result.now c.in-Linear.is c.as_slice-in-Linear.ensures c.as_slice-in-Linear-2.ensures c.linear.new.terms c.linear.result c.linear.ensures.stop
