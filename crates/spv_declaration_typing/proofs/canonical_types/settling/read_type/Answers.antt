use Rattle.std.proofs.Common.{rules}
use Rattle.spv_typing.specs.DeclarationWalk as spec
use Rattle.spv_environments.specs.Answers.{Stops}
use Rattle.spv_environments.specs.Scopes.{scope_of}
use Rattle.spv_declaration_typing.proofs.canonical_types.Settled.{read_settled, read_stops}
use Rattle.spv_declaration_typing.proofs.canonical_types.settling.read_type.Goals as goal

pub returns-in_err-of-clause-err : goal.returns-in_err-of-clause-err
returns-in_err-of-clause-err c =
    let stopped : Stops c.in_err-of.field-0.0 (spec.type_walk (scope_of c.args.scope.now) c.args.tree.now) =
    read_stops c.args.scope.now c.args.tree.now c.new-new.result.items c.in_err-of.field-0.0 c.new-new.ensures.items c.in_err-of.ensures.err in
    search rules

pub returns-clause-ok : goal.returns-clause-ok
returns-clause-ok c =
    read_settled c.args.scope.now c.args.tree.now c.new-new.result.items c.denoted.new.new.items c.in_ok-of.of c.new-new.ensures.items c.in_ok-of.ensures.ok
