use Rattle.std.proofs.Common.{◌∙◌, refl, sym}
use Rattle.spv_listing_values.specs.Told.{term_in}
use Rattle.spv_listing_values.proofs.Turns.{split_stays, split_turn}
use Rattle.spv_listing_values.proofs.reading.Reader.put_split.Goals as goal

pub returns-then-not-takes_step : goal.returns-then-not-takes_step
returns-then-not-takes_step c = split_stays c.args.self.now c.requires.reading c.args.cases (term_in c.args.looked.now c.args.item) (sym c.takes_step.ensures ∙ c.if-not-takes_step.true)

pub returns : goal.returns
returns c =
    split_turn c.args.self.now _ c.args.cases (term_in c.args.looked.now c.args.item) c.in_ok-atom.atom (sym c.takes_step.ensures ∙ c.if-not-takes_step.false)
    (record { reading = c.requires.reading; ready = c.in_ok-atom.ensures.ready; enters = c.in_ok-atom.ensures.entered; same = refl; now = c.put_split.ensures })
