use Rattle.std.proofs.Common.{◌∙◌, refl, sym}
use Rattle.spv_listing_values.proofs.Turns.{verdict_turn, turns_bare}
use Rattle.spv_listing_values.proofs.reading.Reader.put_verdict.Goals as goal

pub returns-then-takes_verdict : goal.returns-then-takes_verdict
returns-then-takes_verdict c =
    verdict_turn c.args.self.now _ c.args.showing (sym c.takes_verdict.ensures ∙ c.if-takes_verdict.true) c.requires.no_terms
    (turns_bare c.args.self.now _ _ c.requires.reading c.requires.reading.ready refl refl c.put_verdict.ensures)
