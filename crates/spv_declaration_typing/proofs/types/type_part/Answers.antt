use Rattle.std.proofs.Common.{rules}
use Rattle.spv_typing.specs.DeclarationWalk as spec
use Rattle.spv_environments.specs.Answers.{Stops}
use Rattle.spv_declaration_typing.proofs.Part.{part_done, part_stops}
use Rattle.spv_declaration_typing.proofs.types.type_part.Goals as goal

pub returns-in_err-typedefs-clause-err : goal.returns-in_err-typedefs-clause-err
returns-in_err-typedefs-clause-err c =
    let stopped : Stops c.in_err-typedefs.field-0.0 (spec.type_part_walk c.args.known.now c.args.items.now) =
    part_stops c.args.known.now c.args.items.now c.in_ok-names.names c.in_ok-names.ensures c.new-new.result.items c.new-new.ensures.items c.in_err-typedefs.field-0.0 c.in_err-typedefs.ensures.err in
    search rules

pub returns-clause-ok : goal.returns-clause-ok
returns-clause-ok c =
    part_done c.args.known.now c.args.items.now c.in_ok-names.names c.in_ok-names.ensures c.new-new.result.items c.new-new.ensures.items
    c.typedefs.new.known c.typedefs.new.new.items c.put_together.new.known c.in_ok-typedefs.ensures.ok c.in_ok-put_together.ensures
