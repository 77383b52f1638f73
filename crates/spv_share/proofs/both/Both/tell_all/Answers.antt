use Rattle.std.proofs.Common.{refl}
use Rattle.spv_derivations.proofs.derivation.Bridges.{on_ok}
use Rattle.spv_share.proofs.Claiming.{both_told, claimed_some, stays_grows, stays_told}
use Rattle.spv_share.proofs.Sound.{sound_trail}
use Rattle.spv_share.proofs.both.Both.tell_all.Goals as goal

pub returns-in_err-number-clause-sound : goal.returns-in_err-number-clause-sound
returns-in_err-number-clause-sound c = sound_trail c.args.terms.now c.args.self.now c.tell.new.self c.requires.both.sound c.tell.ensures.holds c.tell.ensures.grows

pub say_literal-requires-clause-sound : goal.say_literal-requires-clause-sound
say_literal-requires-clause-sound c = sound_trail c.args.terms.now c.args.self.now c.tell.new.self c.requires.both.sound c.tell.ensures.holds c.tell.ensures.grows

pub say_literal-requires-clause-claimed : goal.say_literal-requires-clause-claimed
say_literal-requires-clause-claimed c =
    claimed_some c.args.terms.now (record c.args.self.now { trail = c.tell.new.self }) (sound_trail c.args.terms.now c.args.self.now c.tell.new.self c.requires.both.sound c.tell.ensures.holds c.tell.ensures.grows)
    c.args.atom c.args.part c.in_ok-number.number c.as_slice.result.now c.claim_of-claim.result c.as_slice.ensures.value c.claim_of-claim.ensures c.in_ok-number.ensures.fact

pub returns-in_err-number-clause-stays : goal.returns-in_err-number-clause-stays
returns-in_err-number-clause-stays c = stays_grows c.args.self.now c.tell.new.self c.tell.ensures.grows

pub returns-clause-stays : goal.returns-clause-stays
returns-clause-stays c =
    stays_told c.args.terms.now c.args.self.now c.tell.new.self c.say_literal.new.self (record c.say_literal.new.self { claims = c.push_claim.new.claims }) c.tell.ensures.grows c.say_literal.ensures.adds c.say_literal.ensures.trail
    c.say_literal.ensures.relations refl refl refl

pub returns-clause-both : goal.returns-clause-both
returns-clause-both c =
    on_ok c.push_claim.result c.push_claim.ensures.ok
    (λ pushed.
    both_told c.args.terms.now c.args.self.now c.say_literal.new.self c.tell.new.self c.as_slice.result.now c.args.atom c.args.part c.args.why c.in_ok-number.number c.claim_of-claim.result c.push_claim.new.claims c.requires.both c.requires.may
    c.say_literal.ensures.sound c.tell.ensures.grows c.say_literal.ensures.trail c.say_literal.ensures.relations c.say_literal.ensures.claims c.as_slice.ensures.value c.claim_of-claim.ensures pushed c.in_ok-number.ensures.fact
    c.in_ok-number.ensures.literals c.in_ok-number.ensures.told)
