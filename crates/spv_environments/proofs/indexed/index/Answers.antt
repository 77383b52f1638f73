use Rattle.std.proofs.Common.{length, refl}
use Rattle.spv_environments.proofs.Noting.{noted_next}
use Rattle.spv_environments.proofs.indexed.index.Goals as goal

pub loop-place-preserved : goal.loop-place-preserved
loop-place-preserved c =
    noted_next c.loop-place.place c.args.forms.now c.loop-place.pointers.items c.loop-place.invariant c.index-forms-place.result c.index-forms-place.result c.note.new.pointers.items
    (length c.args.forms.now) c.loop-place-test.true c.index-forms-place.is refl (c.if-not-note.ensures.below refl) (c.if-not-note.ensures.alone refl) (c.if-not-note.ensures.noted refl)
