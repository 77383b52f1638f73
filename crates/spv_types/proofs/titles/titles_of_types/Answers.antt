use Rattle.std.proofs.Common.{◌≡◌, ◌-◌, Some, IfSome, ◌∙◌, subst, slice_get, arith}
use Rattle.spv_types.proofs.Entitling.{titles_begin, titles_next}
use Rattle.spv_types.proofs.titles.titles_of_types.Goals as goal

pub loop-place-init : goal.loop-place-init
loop-place-init c = titles_begin c.args.types.now c.args.forms.now c.in_ok-titles.titles.items c.len-place.result c.len-place.ensures c.in_ok-titles.ensures

pub loop-place-preserved : goal.loop-place-preserved
loop-place-preserved c =
    c.entitle.ensures
    ∙ titles_next c.args.types.now c.args.forms.now c.loop-place.titles.items c.loop-place.place (c.loop-place.place - 1) c.unwrap.result.0 c.unwrap.result.1.now
    (omega (arith, c.loop-place-test.true))
    (subst (λ o. IfSome o (λ e. slice_get c.args.types.now (c.loop-place.place - 1) ≡ Some (e.0, e.1.now))) c.unwrap.ensures c.entry.ensures.entry)
    c.loop-place.invariant
