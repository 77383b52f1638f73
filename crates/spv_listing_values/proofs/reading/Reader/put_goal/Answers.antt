use Rattle.std.proofs.Common.{◌∙◌, refl, sym}
use Rattle.spv_listing_values.specs.Told.{term_in}
use Rattle.spv_listing_values.proofs.Turns.{goal_stays, goal_turn}
use Rattle.spv_listing_values.proofs.reading.Reader.put_goal.Goals as goal

pub returns-then-not-takes_goal : goal.returns-then-not-takes_goal
returns-then-not-takes_goal c = goal_stays c.args.self.now c.requires.reading (term_in c.args.looked.now c.args.item) (sym c.takes_goal.ensures ∙ c.if-not-takes_goal.true)

pub returns : goal.returns
returns c =
    goal_turn c.args.self.now _ (term_in c.args.looked.now c.args.item) c.in_ok-t.t (sym c.takes_goal.ensures ∙ c.if-not-takes_goal.false)
    (record { reading = c.requires.reading; ready = c.in_ok-t.ensures.ready; enters = c.in_ok-t.ensures.entered; same = refl; now = c.put_goal.ensures })
