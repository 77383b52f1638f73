use Rattle.spv_declaration_typing.specs.canonical_types.Types.{settled}
use Rattle.spv_routine_typing.specs.local_typing.Locals.{names_of}
use Rattle.spv_routine_typing.proofs.local_typing.Steps.{vars_done}
use Rattle.spv_routine_typing.proofs.local_typing.declaring.variables.Goals as goal

pub returns-clause-ok : goal.returns-clause-ok
returns-clause-ok c =
    vars_done c.args.known.now c.settle.new.known c.args.local c.in_ok-put_variables.field-0 c.args.routine c.args.listed.now c.args.tree.now (names_of c.in_ok-names.names)
    (settled c.args.known.now c.in_ok-read.read) c.in_ok-t.t c.in_ok-names.ensures.ok c.in_ok-read.ensures.ok c.in_ok-t.ensures.known c.in_ok-t.ensures.of
    (c.in_ok-put_variables.ensures c.settle.new.known)
