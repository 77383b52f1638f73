use Rattle.spv_listing_values.specs.Interned.{flats_at}
use Rattle.spv_listing_values.specs.Told.{term_in}
use Rattle.spv_listing_values.proofs.Enters.{enters_one}
use Rattle.spv_listing_values.proofs.told.Looked.enter.Goals as goal

pub returns-clause-entered : goal.returns-clause-entered
returns-clause-entered c =
    enters_one (flats_at c.args.table.now) (flats_at c.enter.new.self) (term_in c.args.self.now c.args.item) c.in_ok-text.text c.requires.ready.sound.texts.table c.in_ok-text.ensures.entered
