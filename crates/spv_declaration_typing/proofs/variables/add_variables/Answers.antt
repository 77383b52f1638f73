use Rattle.std.proofs.Common.{◌≡◌, length, arith}
use Rattle.std.proofs.lemmas.List.{length-map}
use Rattle.spv_declaration_typing.specs.type_typing.Names.{only_names}
use Rattle.spv_declaration_typing.proofs.type_typing.Entries.{name_at}
use Rattle.spv_declaration_typing.proofs.Varying.{none_varied, next_is_missing, one_varied, all_varied}
use Rattle.spv_declaration_typing.proofs.variables.add_variables.Goals as goal

pub loop-place-init : goal.loop-place-init
loop-place-init c = none_varied c.args.known.now c.args.t (only_names c.args.names.now)

pub add_variable-requires : goal.add_variable-requires
add_variable-requires c =
    next_is_missing c.args.known.now c.args.t (only_names c.args.names.now) c.loop-place.known c.loop-place.place c.unwrap.result.0 c.requires
    (name_at c.args.names.now c.loop-place.place c.entry.result c.unwrap.result c.entry.ensures.entry c.unwrap.ensures) c.loop-place.invariant

pub loop-place-preserved : goal.loop-place-preserved
loop-place-preserved c =
    one_varied c.args.known.now c.args.t (only_names c.args.names.now) c.loop-place.known c.add_variable.new.self c.loop-place.place c.unwrap.result.0
    (name_at c.args.names.now c.loop-place.place c.entry.result c.unwrap.result c.entry.ensures.entry c.unwrap.ensures) c.loop-place.invariant c.in_ok-add_variable.ensures

pub returns : goal.returns
returns c =
    let many : length (only_names c.args.names.now) ≡ length c.args.names.now = length-map c.args.names.now _ in
    all_varied c.args.known.now c.args.t (only_names c.args.names.now) c.loop-place.known c.loop-place.place (omega (arith, many, c.len-place-end.ensures)) c.loop-place.invariant
