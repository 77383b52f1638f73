use Rattle.spv_flow.proofs.statement_rules.ForLemmas.{last_calls_stop, both_calls_come}
use Rattle.spv_flow.proofs.statement_rules.counting.behind_ends.Goals as goal

pub returns-in_err-behind-clause-made : goal.returns-in_err-behind-clause-made
returns-in_err-behind-clause-made g c =
    last_calls_stop c.from_residual.result c.in_err-behind.field-0.0 c.args.body.now.here c.args.t.now c.args.rest.items c.from_residual.ensures.1 c.in_err-behind.ensures.made

pub returns-clause-made : goal.returns-clause-made
returns-clause-made g c =
    both_calls_come c.before_test-2.result c.in_ok-behind.behind c.args.body.now.here c.args.t.now c.args.rest.items c.in_ok-behind.ensures.made c.before_test-2.ensures.made
