use Rattle.spv_declaration_typing.specs.type_typing.Names.{only_names}
use Rattle.spv_declaration_typing.proofs.Varying.{vars_done}
use Rattle.spv_declaration_typing.proofs.variables.vars_walk.Goals as goal

pub returns-clause-ok : goal.returns-clause-ok
returns-clause-ok c =
    vars_done c.args.known.now c.args.tree.now (only_names c.in_ok-names.names) c.in_ok-names.ensures.ok c.in_ok-read.read c.settle.new.known c.add_variables.new.known c.in_ok-t.t
    c.in_ok-read.ensures.ok c.in_ok-t.ensures.known c.in_ok-t.ensures.of c.in_ok-add_variables.ensures
