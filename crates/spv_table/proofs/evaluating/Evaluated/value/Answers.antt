use Rattle.std.proofs.Common.{List, sym, ap, ◌∙◌}
use Rattle.std.specs.Prelude.{slice_get}
use Rattle.spv_table.specs.declared.kept.Kept.{Kept}
use Rattle.spv_table.proofs.Keeping.{placed, looked_up}
use Rattle.spv_table.proofs.evaluating.Evaluated.value.Goals as goal

pub returns-in-Some-get : goal.returns-in-Some-get
returns-in-Some-get c a listed e =
    let kept = c.in-Some-get.kept.now in
    c.value_in.ensures
    ∙ (e.kept.each c.in-Some.place c.args.t kept (placed c.args.t c.args.self.now.order c.place.result c.in-Some.place c.place.ensures c.in-Some.is)
    (ap (λ (ks : List Kept). slice_get ks c.in-Some.place) (sym c.as_slice.ensures.value) ∙ looked_up c.as_slice.result.now c.in-Some.place kept c.in-Some-get.ensures.lookup.3.0 (c.in-Some-get.ensures.lookup.3.1 kept))).value
