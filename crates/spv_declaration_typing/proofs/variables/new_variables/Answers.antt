use Rattle.spv_declaration_typing.proofs.Varying.{new_if_ok}
use Rattle.spv_declaration_typing.proofs.variables.new_variables.Goals as goal

pub returns-clause-missing : goal.returns-clause-missing
returns-clause-missing c = new_if_ok c.args.known.now c.args.names.now c.new_names.result c.new_names.ensures.ok
