use Rattle.spv_rule_files.proofs.NewVariables.{variables_read}
use Rattle.spv_rule_files.proofs.variables.variables_walk.Goals as goal

pub returns-clause-ok : goal.returns-clause-ok
returns-clause-ok c =
    variables_read c.args.known.now c.args.vars.now c.put_names.new.self c.args.tree.now c.in_ok-names.names c.in_ok-sort.sort c.in_ok-names.ensures.ok c.in_ok-sort.ensures.ok
    c.in_ok-put_names.ensures
