use Rattle.std.proofs.Common.{◌≡◌, ◌<◌, ◌-◌, suc, None, List, ℕ, length, get_or, refl, sym, subst, arith}
use Rattle.spv_declaration_typing.proofs.pointer_types.Leading.{LedFrom, led_before}
use Rattle.spv_declaration_typing.proofs.pointer_types.rounds.leaders.Goals as goal

pub loop-place-preserved : goal.loop-place-preserved
loop-place-preserved c =
    let place = c.loop-place.place - 1 in
    let within : place < length c.args.seen.now = omega arith in
    let next : c.loop-place.place ≡ suc place = omega arith in
    subst (λ (ls : List ℕ). LedFrom c.args.seen.now place ls) (sym c.mark.ensures)
    (led_before c.args.seen.now place c.loop-place.leaders.items (get_or c.args.seen.now place None) within refl
    (subst (λ n. LedFrom c.args.seen.now n c.loop-place.leaders.items) next c.loop-place.invariant))
