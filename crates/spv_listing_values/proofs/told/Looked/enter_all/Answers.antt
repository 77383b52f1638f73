use Rattle.spv_listing_values.specs.Interned.{flats_at}
use Rattle.spv_listing_values.specs.Told.{term_in}
use Rattle.spv_listing_values.proofs.Enters.{enters_more}
use Rattle.spv_listing_values.proofs.told.Looked.enter_all.Goals as goal

pub loop-item-preserved : goal.loop-item-preserved
loop-item-preserved c = record {
  ready = c.in_ok-text.ensures.ready;
  entered = enters_more (term_in c.args.self.now) c.args.items.now c.loop-item.item-index _ (flats_at c.args.table.now) (flats_at c.loop-item.table) (flats_at c.enter.new.table) c.loop-item.texts.items
      c.push.new.self.items c.in_ok-text.text c.in_ok-text.ensures.ready.sound.texts.table c.loop-item-test.true c.loop-item.invariant.entered c.in_ok-text.ensures.entered c.in_ok-push.ensures.items;
}
