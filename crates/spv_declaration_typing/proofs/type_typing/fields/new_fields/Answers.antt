use Rattle.spv_declaration_typing.proofs.type_typing.NewFields.{fresh_if_ok}
use Rattle.spv_declaration_typing.proofs.type_typing.fields.new_fields.Goals as goal

pub returns-clause-missing : goal.returns-clause-missing
returns-clause-missing c = fresh_if_ok c.args.fields.now c.args.names.now c.new_names.result c.new_names.ensures.ok
