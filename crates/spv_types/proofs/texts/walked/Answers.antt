use Rattle.spv_typing.specs.Known.{known_in}
use Rattle.spv_program.specs.typed.ProgramViews.{main_of}
use Rattle.spv_types.proofs.Whole.{program_made, program_stops}
use Rattle.spv_types.proofs.texts.walked.Goals as goal

pub returns-in_ok-into_program-in-Ok-clause-ok : goal.returns-in_ok-into_program-in-Ok-clause-ok
returns-in_ok-into_program-in-Ok-clause-ok c =
    program_made c.args.tree.now (known_in c.args.names.now) c.in_ok-known.known c.ends.new.known (main_of c.in-Ok.main) c.in_ok-into_program-in-Ok.field-0
    c.in_ok-known.ensures c.in-Ok.ensures.ok c.in-Ok.titles c.in-Ok.ensures.titles c.in_ok-into_program-in-Ok.ensures

pub returns-in-Err-clause-err : goal.returns-in-Err-clause-err
returns-in-Err-clause-err c = program_stops c.args.tree.now (known_in c.args.names.now) c.in_ok-known.known c.in-Err.fault c.in_ok-known.ensures c.in-Err.ensures.err
