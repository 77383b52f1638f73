use Rattle.std.proofs.Common.{◌∙◌, refl, sym}
use Rattle.spv_listing_values.specs.Told.{terms_in}
use Rattle.spv_listing_values.proofs.Turns.{instance_stays, instance_turn}
use Rattle.spv_listing_values.proofs.reading.Reader.put_instance.Goals as goal

pub returns-then-not-takes_instance : goal.returns-then-not-takes_instance
returns-then-not-takes_instance c = instance_stays c.args.self.now c.requires.reading (record { rule = c.args.rule; values = terms_in c.args.looked.now c.args.items.now }) (sym c.takes_instance.ensures ∙ c.if-not-takes_instance.true)

pub returns : goal.returns
returns c =
    instance_turn c.args.self.now _ c.args.rule (terms_in c.args.looked.now c.args.items.now) c.in_ok-values.values (sym c.takes_instance.ensures ∙ c.if-not-takes_instance.false)
    (record { reading = c.requires.reading; ready = c.in_ok-values.ensures.ready; enters = c.in_ok-values.ensures.entered; same = refl; now = c.in_ok-put_instance.ensures })
