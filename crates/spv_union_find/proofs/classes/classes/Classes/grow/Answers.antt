use Rattle.std.proofs.Common.{arith, ap, length, sym, ◌∙◌}
use Rattle.std.proofs.lemmas.List.{length_push}
use Rattle.spv_union_find.proofs.classes.Growing.{grown}
use Rattle.spv_union_find.proofs.classes.classes.Classes.grow.Goals as goal

pub invariant_of-self-2 : goal.invariant_of-self-2
invariant_of-self-2 c =
    let g = grown _ _ _ _ _ c.in_ok-reserve.ensures.items c.in_ok-push.ensures.items c.self.invariant.points c.self.invariant.joins (ap length c.as_slice-count.ensures.value) in
    let e = ap length c.in_ok-push.ensures.items ∙ length_push _ _ in
    let v = ap length c.as_slice-count.ensures.value in
    record { points = g.points; joins = g.joins; room = omega (arith, e, v, c.in_ok-reserve.ensures.ok, c.in_ok-reserve.ensures.len, c.saturating_sub-room.ensures, c.as_slice.ensures.len) }
