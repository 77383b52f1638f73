use Rattle.std.proofs.Common.{length, arith, ◌≡◌}
use Rattle.std.proofs.lemmas.List.{length-map}
use Rattle.spv_declaration_typing.specs.type_typing.Names.{only_names}
use Rattle.spv_declaration_typing.proofs.type_typing.Entries.{name_at}
use Rattle.spv_declaration_typing.proofs.type_typing.NewFields.{next_missing, one_under, under_all}
use Rattle.spv_declaration_typing.proofs.type_typing.fields.add_fields.Goals as goal

pub insert-requires : goal.insert-requires
insert-requires c = record {
  new =
      next_missing c.args.fields.now c.loop-place.fields (only_names c.args.names.now) c.args.t c.loop-place.place c.unwrap.result.0 c.requires
      (name_at c.args.names.now c.loop-place.place c.entry.result c.unwrap.result c.entry.ensures.entry c.unwrap.ensures) c.loop-place.invariant;
}

pub loop-place-preserved : goal.loop-place-preserved
loop-place-preserved c =
    one_under c.args.fields.now c.loop-place.fields c.insert.new.self (only_names c.args.names.now) c.args.t c.loop-place.place c.unwrap.result.0
    (name_at c.args.names.now c.loop-place.place c.entry.result c.unwrap.result c.entry.ensures.entry c.unwrap.ensures) c.loop-place.invariant c.in_ok-insert.ensures.ok

pub returns : goal.returns
returns c =
    let many : length (only_names c.args.names.now) ≡ length c.args.names.now = length-map c.args.names.now _ in
    under_all c.args.fields.now c.loop-place.fields (only_names c.args.names.now) c.args.t c.loop-place.place (omega (arith, many, c.len-place-end.ensures)) c.loop-place.invariant
