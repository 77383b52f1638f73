use Rattle.spv_typing.specs.TypeWalk.{all_names}
use Rattle.spv_rule_files.proofs.NewVariables.{new_if_ok}
use Rattle.spv_rule_files.proofs.variables.names_of.Goals as goal

pub returns-clause-new : goal.returns-clause-new
returns-clause-new c = new_if_ok c.args.known.now c.args.vars.now (all_names c.args.tree.now) c.new_names.result c.new_names.ensures.ok
