use Rattle.std.proofs.Common.{ap, arith}
use Rattle.spv_union_find.proofs.classes.Labels.{label_in}
use Rattle.spv_congruence.specs.Keep.{Kept}
use Rattle.spv_congruence.proofs.kept.Kept.class_size.Goals as goal

pub size-requires : goal.size-requires
size-requires c =
    let l = label_in _ _ c.law_joins.ensures c.args.s.0 c.requires in
    let e = ap (λ (k : Kept). k.classes.count) c.self.view_is in
    let f = c.label.ensures in
    omega (arith, l, e, f)
