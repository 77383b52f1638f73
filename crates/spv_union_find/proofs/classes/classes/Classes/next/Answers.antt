use Rattle.std.proofs.Common.{length, ap, arith}
use Rattle.spv_union_find.specs.classes.Classes as spec
use Rattle.spv_union_find.proofs.classes.Steps.{nexts_in}
use Rattle.spv_union_find.proofs.classes.classes.Classes.next.Goals as goal

pub returns-clause-within : goal.returns-clause-within
returns-clause-within c =
    let v = ap (λ (s : spec.Classes). s.count) c.self.view_is in
    let n = ap length c.as_slice.ensures.value in
    let h = nexts_in _ _ _ c.self.invariant.points c.self.invariant.joins c.as_slice.ensures.value c.args.x (omega (arith, c.requires, v, n)) in
    let e = ap (λ p. p.next) c.point.ensures in
    omega (arith, h, e, n, v)
