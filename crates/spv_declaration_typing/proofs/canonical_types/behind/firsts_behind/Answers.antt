use Rattle.std.proofs.Common.{length}
use Rattle.spv_declaration_typing.proofs.canonical_types.Seeing.{told_more}
use Rattle.spv_declaration_typing.proofs.canonical_types.behind.firsts_behind.Goals as goal

pub loop-place-preserved : goal.loop-place-preserved
loop-place-preserved c =
    told_more c.args.pointers.now (length c.args.pointers.now) c.args.targets.now c.loop-place.place c.loop-place.seen.entries c.first_told.new.seen.entries c.loop-place.firsts.items
    c.push.new.items.items c.in_ok-first.first c.loop-place-test.true c.in_ok-first.ensures.first c.in_ok-first.ensures.entries c.in_ok-push.ensures c.loop-place.invariant
