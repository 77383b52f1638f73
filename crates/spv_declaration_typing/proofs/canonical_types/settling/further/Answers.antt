use Rattle.std.proofs.Common.{◌≡◌, true, length, sym, ap, ◌∙◌}
use Rattle.std.specs.List.{list_all}
use Rattle.spv_declaration_typing.specs.canonical_types.Behind.{is_low}
use Rattle.spv_declaration_typing.proofs.canonical_types.Further.{many_led, told_further}
use Rattle.spv_declaration_typing.proofs.canonical_types.settling.further.Goals as goal

pub merge_behind-requires : goal.merge_behind-requires
merge_behind-requires c =
    many_led c.types.result.now c.args.new.now c.in-Some.pointers.now c.as_slice-2.result.now (length c.in-Some.pointers.now) c.in_ok-firsts.firsts.items
    (c.as_slice-2.ensures.value ∙ c.in_ok-led.ensures) c.in_ok-firsts.ensures

pub returns : goal.returns
returns c =
    let low : list_all (is_low (length c.in-Some.pointers.now)) c.as_slice-2.result.now ≡ true =
    ap (list_all (is_low (length c.in-Some.pointers.now))) (c.as_slice-2.ensures.value ∙ sym c.as_slice.ensures.value) ∙ (sym c.all_low.ensures ∙ c.if-not-all_low.false) in
    told_further c.args.known.now c.args.new.now c.in-Some.pointers.now c.as_slice-2.result.now c.types.result.now c.types-2.result.now c.in_ok-firsts.firsts.items c.in_ok-made.made
    c.in-Some.ensures c.types.ensures c.types-2.ensures (c.as_slice-2.ensures.value ∙ c.in_ok-led.ensures) low c.in_ok-firsts.ensures c.in_ok-made.ensures.numbers c.in_ok-made.ensures.forms
