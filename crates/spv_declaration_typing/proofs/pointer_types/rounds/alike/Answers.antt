use Rattle.std.proofs.Common.{Option, List, map, None, ℕ, length, get_or, sym, ap, ◌∙◌, subst}
use Rattle.spv_declaration_typing.specs.pointer_types.Rounds.{Below, IsLed, next_of, target_first}
use Rattle.spv_declaration_typing.proofs.pointer_types.Alike.{alike_more, next_is, next_below}
use Rattle.spv_declaration_typing.proofs.pointer_types.rounds.alike.Goals as goal

pub next_first-first-requires : goal.next_first-first-requires
next_first-first-requires c =
    let led : IsLed (map (target_first c.args.firsts.now) c.args.targets.now) c.as_slice-led.result.now =
    subst (λ (ls : List ℕ). IsLed (map (target_first c.args.firsts.now) c.args.targets.now) ls) (sym c.as_slice-led.ensures.value)
    (subst (λ (xs : List (Option ℕ)). IsLed xs c.in_ok-leaders.leaders.items) (c.as_slice.ensures.value ∙ c.in_ok-seen.ensures) c.in_ok-leaders.ensures) in
    subst (Below (length c.as_slice-led.result.now)) (sym c.first_of_target.ensures)
    (next_below c.args.targets.now c.args.firsts.now c.as_slice-led.result.now led c.requires (get_or c.args.targets.now c.loop-place.place None))

pub loop-place-preserved : goal.loop-place-preserved
loop-place-preserved c =
    let led : IsLed (map (target_first c.args.firsts.now) c.args.targets.now) c.as_slice-led.result.now =
    subst (λ (ls : List ℕ). IsLed (map (target_first c.args.firsts.now) c.args.targets.now) ls) (sym c.as_slice-led.ensures.value)
    (subst (λ (xs : List (Option ℕ)). IsLed xs c.in_ok-leaders.leaders.items) (c.as_slice.ensures.value ∙ c.in_ok-seen.ensures) c.in_ok-leaders.ensures) in
    let target = get_or c.args.targets.now c.loop-place.place None in
    alike_more c.args.targets.now c.args.firsts.now c.loop-place.place c.loop-place.next.items c.push.new.items.items c.next_first-first.result _ c.loop-place-test.true
    (c.next_first-first.ensures
    ∙ (ap (next_of c.as_slice-led.result.now c.loop-place.place target) c.first_of_target.ensures
    ∙ next_is c.args.targets.now c.args.firsts.now c.as_slice-led.result.now led c.requires c.loop-place.place target))
    c.in_ok-push.ensures c.loop-place.invariant
