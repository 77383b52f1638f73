use Rattle.std.proofs.Common.{◌∙◌, sym, ap, Some, option_map}
use Rattle.spv_listing_values.specs.declared.data.Step.TheVariants as step
use Rattle.spv_listing_values.specs.Interned.{flats_at}
use Rattle.spv_listing_values.specs.Told.{term_in}
use Rattle.spv_listing_values.proofs.Enters.{two_entered}
use Rattle.spv_listing_values.proofs.told.Looked.cong_of.Goals as goal

pub returns-in_ok-u-in-Some-clause-says : goal.returns-in_ok-u-in-Some-clause-says
returns-in_ok-u-in-Some-clause-says c =
    let two = two_entered (flats_at c.args.table.now) (flats_at c.enter.new.table) (flats_at c.enter-in-Some.new.table) (term_in c.args.self.now c.args.t) (term_in c.args.self.now c.args.u) c.in_ok-t-in-Some.t c.in_ok-u-in-Some.u
    c.in_ok-u-in-Some.ensures.ready.sound.texts.table c.in_ok-t-in-Some.ensures.entered c.in_ok-u-in-Some.ensures.entered in
    (ap (option_map (step.Cong (term_in c.args.self.now c.args.t) (term_in c.args.self.now c.args.u))) (sym c.in_ok-facts.ensures ∙ c.in-Some.is) ∙ (λ i. Some (step.Cong (two.first i) (two.second i) c.in-Some.facts)), two.both)
