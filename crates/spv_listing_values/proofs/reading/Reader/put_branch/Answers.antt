use Rattle.std.proofs.Common.{◌∙◌, refl, sym}
use Rattle.spv_listing_values.specs.Told.{term_in}
use Rattle.spv_listing_values.proofs.Turns.{branch_stays, branch_turn}
use Rattle.spv_listing_values.proofs.reading.Reader.put_branch.Goals as goal

pub returns-then-not-takes_branch : goal.returns-then-not-takes_branch
returns-then-not-takes_branch c = branch_stays c.args.self.now c.requires.reading (term_in c.args.looked.now c.args.item) (sym c.takes_branch.ensures ∙ c.if-not-takes_branch.true)

pub returns : goal.returns
returns c =
    branch_turn c.args.self.now _ (term_in c.args.looked.now c.args.item) c.in_ok-t.t (sym c.takes_branch.ensures ∙ c.if-not-takes_branch.false)
    (record { reading = c.requires.reading; ready = c.in_ok-t.ensures.ready; enters = c.in_ok-t.ensures.entered; same = refl; now = c.in_ok-put_branch.ensures })
