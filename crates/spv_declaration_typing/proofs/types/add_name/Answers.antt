use Rattle.spv_declaration_typing.proofs.Part.{name_put}
use Rattle.spv_declaration_typing.proofs.types.add_name.Goals as goal

pub returns : goal.returns
returns c = name_put c.args.names.now c.insert.new.self c.args.x.symbol c.args.x.line c.in_ok-insert.ensures.ok
