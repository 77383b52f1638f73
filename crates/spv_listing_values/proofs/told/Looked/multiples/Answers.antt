use Rattle.spv_listing_values.specs.Told.{term_in}
use Rattle.spv_listing_values.proofs.Telling.{multiples_more, multiples_none, multiples_odd}
use Rattle.spv_listing_values.proofs.told.Looked.multiples.Goals as goal

pub returns-in-None : goal.returns-in-None
returns-in-None c = multiples_none (term_in c.args.self.now) c.args.items.now c.loop-at.at c.loop-at.multiples.items _ _ c.loop-at.invariant c.loop-at-test.true c.in-None.ensures

pub loop-at-preserved : goal.loop-at-preserved
loop-at-preserved c =
    rw c.in_ok-push-in-Some.ensures.items
    (multiples_more (term_in c.args.self.now) c.args.items.now c.loop-at.at c.loop-at.multiples.items _ _ c.in-Some.multiple c.loop-at.invariant c.loop-at-test.true c.in-Some.ensures)

pub returns : goal.returns
returns c = multiples_odd (term_in c.args.self.now) c.args.items.now c.loop-at.at c.loop-at.multiples.items c.loop-at.invariant c.loop-at-test.false c.if-at-items.false
