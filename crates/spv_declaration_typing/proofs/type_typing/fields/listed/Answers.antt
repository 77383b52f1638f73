use Rattle.spv_declaration_typing.proofs.type_typing.Entries.{entry_at}
use Rattle.spv_declaration_typing.proofs.type_typing.NewFields.{one_listed}
use Rattle.spv_declaration_typing.proofs.type_typing.fields.listed.Goals as goal

pub loop-place-preserved : goal.loop-place-preserved
loop-place-preserved c =
    one_listed c.args.fields.now c.loop-place.made.items c.push.new.items.items c.loop-place.place c.unwrap.result.0 c.unwrap.result.1.now
    (entry_at c.args.fields.now c.loop-place.place c.entry.result c.unwrap.result c.entry.ensures.entry c.unwrap.ensures) c.loop-place.invariant c.in_ok-push.ensures
