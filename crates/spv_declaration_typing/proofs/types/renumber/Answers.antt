use Rattle.std.proofs.Common.{◌≡◌, length, ap, arith}
use Rattle.spv_typing.specs.Merging.{renumbered}
use Rattle.spv_declaration_typing.specs.pointer_types.Counting.{all_firsts}
use Rattle.spv_declaration_typing.proofs.type_typing.Entries.{entry_at}
use Rattle.spv_declaration_typing.proofs.Renumbered.{many_names, one_renamed, all_renamed}
use Rattle.spv_declaration_typing.proofs.types.renumber.Goals as goal

pub unwrap-requires : goal.unwrap-requires
unwrap-requires c =
    let many : length c.loop-place.known.program.types ≡ length c.args.known.now.program.types =
    many_names c.args.known.now (renumbered (all_firsts c.args.numbers.now)) c.loop-place.known c.loop-place.place c.loop-place.invariant in
    let here : length c.types-in-loop-place.result.now ≡ length c.loop-place.known.program.types = ap length c.types-in-loop-place.ensures in
    let before : length c.types.result.now ≡ length c.args.known.now.program.types = ap length c.types.ensures in
    c.entry.ensures.within.1 (omega (arith, many, here, before, c.len-place-end.ensures))

pub loop-place-preserved : goal.loop-place-preserved
loop-place-preserved c =
    one_renamed c.args.known.now (renumbered (all_firsts c.args.numbers.now)) c.loop-place.known c.set_type.new.self c.loop-place.place c.unwrap.result.0 c.unwrap.result.1.now c.number-new.result
    c.types-in-loop-place.result.now c.loop-place.invariant c.types-in-loop-place.ensures
    (entry_at c.types-in-loop-place.result.now c.loop-place.place c.entry.result c.unwrap.result c.entry.ensures.entry c.unwrap.ensures) c.number-new.ensures c.set_type.ensures

pub returns : goal.returns
returns c =
    let before : length c.types.result.now ≡ length c.args.known.now.program.types = ap length c.types.ensures in
    all_renamed c.args.known.now (renumbered (all_firsts c.args.numbers.now)) c.loop-place.known c.loop-place.place (omega (arith, before, c.len-place-end.ensures)) c.loop-place.invariant
