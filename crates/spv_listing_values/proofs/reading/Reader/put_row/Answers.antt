use Rattle.std.proofs.Common.{◌∙◌, refl, sym}
use Rattle.spv_listing_values.specs.Told.{term_in}
use Rattle.spv_listing_values.proofs.Turns.{row_stays, row_turn}
use Rattle.spv_listing_values.proofs.reading.Reader.put_row.Goals as goal

pub returns-then-not-takes_row : goal.returns-then-not-takes_row
returns-then-not-takes_row c = row_stays c.args.self.now c.requires.reading (term_in c.args.looked.now c.args.item, c.args.value) (sym c.takes_row.ensures ∙ c.if-not-takes_row.true)

pub returns : goal.returns
returns c =
    row_turn c.args.self.now _ (term_in c.args.looked.now c.args.item) c.in_ok-t.t c.args.value (sym c.takes_row.ensures ∙ c.if-not-takes_row.false)
    (record { reading = c.requires.reading; ready = c.in_ok-t.ensures.ready; enters = c.in_ok-t.ensures.entered; same = refl; now = c.in_ok-put_row.ensures })
