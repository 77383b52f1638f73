use Rattle.spv_share.proofs.Giving.{joined_equality, joined_same}
use Rattle.spv_share.proofs.Goings.{goes_then, goes_trail}
use Rattle.spv_share.proofs.Rowed.{equality_claimed}
use Rattle.spv_share.proofs.Sound.{sound_trail}
use Rattle.spv_share.proofs.both.Both.give.Goals as goal

pub equation-requires-clause-same : goal.equation-requires-clause-same
equation-requires-clause-same c = joined_same c.args.terms.now c.args.self.now c.requires.sound c.args.related.row c.args.related c.requires.there c.requires.joined

pub returns-in_err-number-clause-goes : goal.returns-in_err-number-clause-goes
returns-in_err-number-clause-goes c = goes_trail c.args.terms.now c.args.self.now c.equation.new.self c.requires.sound c.equation.ensures.holds c.equation.ensures.grows c.equation.ensures.literals c.equation.ensures.graph

pub give_claim-requires-clause-sound : goal.give_claim-requires-clause-sound
give_claim-requires-clause-sound c = sound_trail c.args.terms.now c.args.self.now c.equation.new.self c.requires.sound c.equation.ensures.holds c.equation.ensures.grows

pub give_claim-requires-clause-claimed : goal.give_claim-requires-clause-claimed
give_claim-requires-clause-claimed c =
    equality_claimed c.args.terms.now (record c.args.self.now { trail = c.equation.new.self })
    (sound_trail c.args.terms.now c.args.self.now c.equation.new.self c.requires.sound c.equation.ensures.holds c.equation.ensures.grows) c.args.related c.in_ok-number.number c.requires.there
    (joined_equality c.args.terms.now c.args.self.now c.requires.sound c.args.related.row c.args.related c.requires.there c.requires.joined) c.in_ok-number.ensures.fact

pub returns-clause-goes : goal.returns-clause-goes
returns-clause-goes c =
    goes_then c.args.terms.now c.args.self.now (record c.args.self.now { trail = c.equation.new.self }) c.give_claim.new.self
    (goes_trail c.args.terms.now c.args.self.now c.equation.new.self c.requires.sound c.equation.ensures.holds c.equation.ensures.grows c.equation.ensures.literals c.equation.ensures.graph) c.give_claim.ensures.goes
