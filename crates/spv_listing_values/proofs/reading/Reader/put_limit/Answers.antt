use Rattle.std.proofs.Common.{◌∙◌, refl, sym}
use Rattle.spv_listing_values.specs.Reading.{limit_of}
use Rattle.spv_listing_values.specs.Told.{terms_in}
use Rattle.spv_listing_values.proofs.Turns.{limit_turn, limit_stays}
use Rattle.spv_listing_values.proofs.reading.Reader.put_limit.Goals as goal

pub returns-then-not-takes_verdict : goal.returns-then-not-takes_verdict
returns-then-not-takes_verdict c = limit_stays c.args.self.now c.requires.reading (limit_of (terms_in c.args.looked.now c.args.items.now)) (sym c.takes_verdict.ensures ∙ c.if-not-takes_verdict.true)

pub returns-in-Some : goal.returns-in-Some
returns-in-Some c =
    limit_turn c.args.self.now _ (limit_of (terms_in c.args.looked.now c.args.items.now)) c.in_ok-limit.field-0 c.in-Some.limit (sym c.takes_verdict.ensures ∙ c.if-not-takes_verdict.false) c.in-Some.is
    c.in_ok-limit.ensures.says c.requires.reading c.in_ok-limit.ensures.ready refl c.put_verdict.ensures
