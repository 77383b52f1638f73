use Rattle.std.proofs.Common.{◌≤◌, ◌<◌, ◌+◌, ◌*◌, rules, sym, subst, arith}
use Rattle.spv_tree.specs.syntax.Types.{TypeDenoter, Field}
use Rattle.spv_tree.specs.syntax.Model.TypeSizes.{more_types_of, more_fields_of, type_size, more_types_size, field_size, more_fields_size}
use Rattle.spv_environments.specs.Answers.{Stops}
use Rattle.spv_declaration_typing.specs.type_typing.Names.{only_names}
use Rattle.spv_declaration_typing.specs.type_typing.Walks.{names_walk}
use Rattle.spv_declaration_typing.proofs.type_typing.NamedFields.{names_stopped, names_done}
use Rattle.spv_declaration_typing.proofs.type_typing.Sizes.{type_within, field_within}
use Rattle.spv_declaration_typing.proofs.type_typing.types.+types.Goals as goal

pub more_types-denoted-requires : goal.more_types-denoted-requires
more_types-denoted-requires t c =
    let within : type_size c.next-item.result ≤ more_types_size (more_types_of c.args.more.now) =
    subst (λ (t : TypeDenoter). type_size t ≤ more_types_size (more_types_of c.args.more.now)) (sym c.next-item.is)
    (type_within c.args.more.now c.loop-next.next-index c.next-item.result c.loop-next-test.true) in
    let falls : 4 * type_size c.next-item.result < 4 * more_types_size (more_types_of c.args.more.now) + 1 = omega (arith, within) in
    search rules

pub more_fields-field-requires : goal.more_fields-field-requires
more_fields-field-requires t c =
    let within : field_size c.next-item.result ≤ more_fields_size (more_fields_of c.args.more.now) =
    subst (λ (f : Field). field_size f ≤ more_fields_size (more_fields_of c.args.more.now)) (sym c.next-item.is)
    (field_within c.args.more.now c.loop-next.next-index c.next-item.result c.loop-next-test.true) in
    let falls : 4 * field_size c.next-item.result < 4 * more_fields_size (more_fields_of c.args.more.now) + 1 = omega (arith, within) in
    search rules

pub named_fields-returns-in_err-t-clause-err : goal.named_fields-returns-in_err-t-clause-err
named_fields-returns-in_err-t-clause-err t c =
    let stopped : Stops c.in_err-t.field-0.0 (names_walk c.args.scope.now c.args.targets c.args.new.now.items c.args.fields.now c.args.names.now c.args.of.now) =
    names_stopped c.args.scope.now c.args.targets c.args.new.now.items c.args.fields.now c.args.names.now c.args.of.now (only_names c.in_ok-named.named) c.in_ok-named.ensures.ok
    c.in_err-t.field-0.0 c.in_err-t.ensures.err in
    search rules

pub named_fields-returns-clause-ok : goal.named_fields-returns-clause-ok
named_fields-returns-clause-ok t c =
    names_done c.args.scope.now c.args.targets c.args.new.now.items c.args.fields.now c.args.names.now c.args.of.now (only_names c.in_ok-named.named) c.in_ok-named.ensures.ok
    c.denoted.new.new.items c.in_ok-t.t c.add_fields.new.fields c.in_ok-t.ensures.ok c.in_ok-add_fields.ensures
