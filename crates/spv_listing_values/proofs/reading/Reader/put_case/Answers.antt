use Rattle.std.proofs.Common.{◌∙◌, refl, sym}
use Rattle.spv_listing_values.proofs.Turns.{case_stays, case_turn, turns_bare}
use Rattle.spv_listing_values.proofs.reading.Reader.put_case.Goals as goal

pub returns-then-not-takes_case : goal.returns-then-not-takes_case
returns-then-not-takes_case c = case_stays c.args.self.now c.requires (sym c.takes_case.ensures ∙ c.if-not-takes_case.true)

pub returns : goal.returns
returns c = case_turn c.args.self.now _ (sym c.takes_case.ensures ∙ c.if-not-takes_case.false) (turns_bare c.args.self.now _ _ c.requires c.requires.ready refl refl c.in_ok-put_case.ensures)
