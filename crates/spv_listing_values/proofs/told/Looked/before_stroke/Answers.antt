use Rattle.std.proofs.Common.{sym, ◌∙◌}
use Rattle.spv_listing_values.specs.Told.{term_in}
use Rattle.spv_listing_values.proofs.Telling.{none_more, stroke_there}
use Rattle.spv_listing_values.proofs.told.Looked.before_stroke.Goals as goal

pub returns-then-is_stroke-clause-front : goal.returns-then-is_stroke-clause-front
returns-then-is_stroke-clause-front c =
    stroke_there (term_in c.args.self.now) c.args.items.now c.loop-place.place _ c.loop-place.invariant c.loop-place-test.true (sym c.is_stroke.ensures ∙ c.if-is_stroke.true)

pub loop-place-preserved : goal.loop-place-preserved
loop-place-preserved c =
    none_more (term_in c.args.self.now) c.args.items.now c.loop-place.place _ c.loop-place.invariant c.loop-place-test.true (sym c.is_stroke.ensures ∙ c.if-is_stroke.false)
