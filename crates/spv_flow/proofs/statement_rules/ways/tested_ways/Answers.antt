use Rattle.spv_logic.specs.declared.types.Sort.TheVariants as sort
use Rattle.spv_assign.specs.Conditions.{conditions_of}
use Rattle.spv_flow.proofs.statement_rules.WayLemmas.{tested_stops, tested_comes}
use Rattle.spv_flow.proofs.statement_rules.ways.tested_ways.Goals as goal

pub returns-in_err-uses-clause-made : goal.returns-in_err-uses-clause-made
returns-in_err-uses-clause-made g c =
    λ w is. tested_stops c.args.body.now.here c.args.test.now w sort.Bool (conditions_of c.args.terms.now c.args.first.items) (conditions_of c.args.terms.now c.args.second.items) c.args.terms.now c.both_ways.new.terms is c.from_residual.result c.in_err-uses.field-0.0 c.from_residual.ensures.1 c.in_err-uses.ensures

pub returns-clause-made : goal.returns-clause-made
returns-clause-made g c =
    λ w is. tested_comes c.args.body.now.here c.args.test.now w sort.Bool (conditions_of c.args.terms.now c.args.first.items) (conditions_of c.args.terms.now c.args.second.items) c.args.terms.now c.both_ways.new.terms is c.before_test.result c.in_ok-uses.uses c.in_ok-uses.ensures c.before_test.ensures.made
