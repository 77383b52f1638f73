use Rattle.spv_share.proofs.Giving.{at_place}
use Rattle.spv_share.proofs.Goings.{goes_same}
use Rattle.spv_share.proofs.Settling.{if_noted, none_noted, noted_claimed}
use Rattle.spv_share.proofs.both.Both.give_noted.Goals as goal

pub give_claim-requires-clause-claimed : goal.give_claim-requires-clause-claimed
give_claim-requires-clause-claimed c =
    noted_claimed c.args.terms.now c.args.self.now c.requires.both c.args.place c.index-noted.result.now c.in-Some.claim (at_place c.args.self.now.claims.items c.args.place c.index-noted.result.now c.requires.place c.index-noted.ensures) c.in-Some.is

pub returns-in-Some-clause-stands : goal.returns-in-Some-clause-stands
returns-in-Some-clause-stands c =
    if_noted c.args.self.now c.give_claim.new.self c.args.place c.index-noted.result.now c.in-Some.claim c.give_claim.result (at_place c.args.self.now.claims.items c.args.place c.index-noted.result.now c.requires.place c.index-noted.ensures) c.in-Some.is
    c.give_claim.ensures.stands

pub returns-in-None-clause-goes : goal.returns-in-None-clause-goes
returns-in-None-clause-goes c = goes_same c.args.terms.now c.args.self.now c.requires.both.sound

pub returns-in-None-clause-stands : goal.returns-in-None-clause-stands
returns-in-None-clause-stands c =
    none_noted c.args.self.now c.args.place c.index-noted.result.now (at_place c.args.self.now.claims.items c.args.place c.index-noted.result.now c.requires.place c.index-noted.ensures) c.in-None.is
