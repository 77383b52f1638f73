use Rattle.std.proofs.Common.{inl, inr}
use Rattle.spv_share.specs.Relations.{sayable}
use Rattle.spv_share.proofs.Goings.{goes_back}
use Rattle.spv_share.proofs.Seeking.{answered_as, limit_now}
use Rattle.spv_share.proofs.both.Both.check.Goals as goal

pub end-requires-clause-sound : goal.end-requires-clause-sound
end-requires-clause-sound c =
    (goes_back c.args.terms.now c.args.self.now c.check.new.self c.requires.sound c.check.ensures.standing c.check.ensures.back (c.check.ensures.asserted (sayable c.args.self.now.relations.items c.args.self.now.standing.tableau.forms) c.requires.sound.asserted)).sound

pub returns-in-Feasible-clause-goes : goal.returns-in-Feasible-clause-goes
returns-in-Feasible-clause-goes c =
    goes_back c.args.terms.now c.args.self.now c.check.new.self c.requires.sound c.check.ensures.standing c.check.ensures.back (c.check.ensures.asserted (sayable c.args.self.now.relations.items c.args.self.now.standing.tableau.forms) c.requires.sound.asserted)

pub returns-in-Wide-clause-goes : goal.returns-in-Wide-clause-goes
returns-in-Wide-clause-goes c =
    goes_back c.args.terms.now c.args.self.now c.check.new.self c.requires.sound c.check.ensures.standing c.check.ensures.back (c.check.ensures.asserted (sayable c.args.self.now.relations.items c.args.self.now.standing.tableau.forms) c.requires.sound.asserted)

pub returns-in-Wide-clause-outcome : goal.returns-in-Wide-clause-outcome
returns-in-Wide-clause-outcome c =
    limit_now c.args.self.now c.check.new.self c.check.ensures.back (inl (answered_as c.check.new.self c.check.result _ c.check.ensures.checked.answered c.in-Wide.is))
    (c.check.ensures.evidence (sayable c.args.self.now.relations.items c.args.self.now.standing.tableau.forms) c.requires.sound.asserted (inl c.in-Wide.is))

pub returns-in-Pivots-clause-goes : goal.returns-in-Pivots-clause-goes
returns-in-Pivots-clause-goes c =
    goes_back c.args.terms.now c.args.self.now c.check.new.self c.requires.sound c.check.ensures.standing c.check.ensures.back (c.check.ensures.asserted (sayable c.args.self.now.relations.items c.args.self.now.standing.tableau.forms) c.requires.sound.asserted)

pub returns-in-Pivots-clause-outcome : goal.returns-in-Pivots-clause-outcome
returns-in-Pivots-clause-outcome c =
    limit_now c.args.self.now c.check.new.self c.check.ensures.back (inr (answered_as c.check.new.self c.check.result _ c.check.ensures.checked.answered c.in-Pivots.is))
    (c.check.ensures.evidence (sayable c.args.self.now.relations.items c.args.self.now.standing.tableau.forms) c.requires.sound.asserted (inr c.in-Pivots.is))
