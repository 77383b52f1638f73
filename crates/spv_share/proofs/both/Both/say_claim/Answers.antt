use Rattle.std.proofs.Common.{ap}
use Rattle.spv_arithmetic_side.specs.declared.constraint_rows.standing.Standing.{Standing}
use Rattle.spv_arithmetic_side.specs.constraint_rows.Standing.{readings}
use Rattle.spv_arithmetic_side.proofs.constraint_rows.Given.{given_stands, says_still}
use Rattle.spv_share.specs.declared.both.Both.{Both}
use Rattle.spv_share.specs.Relations.{sayable}
use Rattle.spv_share.proofs.Allowed.{may_claim}
use Rattle.spv_share.proofs.RowConstraint.{said_on}
use Rattle.spv_share.proofs.Sound.{sound_standing}
use Rattle.spv_share.proofs.both.Both.say_claim.Goals as goal

pub say-requires-clause-may : goal.say-requires-clause-may
say-requires-clause-may c = may_claim c.args.terms.now c.args.self.now c.requires.sound c.args.claim c.args.fact c.requires.claimed

pub returns-clause-sound : goal.returns-clause-sound
returns-clause-sound c =
    sound_standing c.args.terms.now c.args.self.now c.say.new.self c.requires.sound c.say.ensures.standing c.say.ensures.adds.adds.forms
    (c.say.ensures.sourced c.args.terms.now (readings c.args.terms.now c.args.self.now.trail.derivation) c.requires.sound.sourced c.requires.claimed.said)
    (c.say.ensures.asserted (sayable c.args.self.now.relations.items c.args.self.now.standing.tableau.forms) c.requires.claimed.among c.requires.sound.asserted)
    (said_on c.args.self.now.relations.items c.args.self.now.standing c.say.new.self c.args.claim.row c.args.claim.saying c.say.ensures.adds.adds.forms c.requires.claimed.may
    (says_still c.args.self.now.standing c.say.new.self c.args.claim.row c.args.claim.saying c.say.result c.requires.claimed.row_in c.say.ensures.given c.say.ensures.same) c.requires.sound.said)

pub returns-clause-stands : goal.returns-clause-stands
returns-clause-stands c = λ sure. given_stands c.args.self.now.standing c.say.new.self c.args.claim.row c.args.claim.saying c.requires.claimed.row_in c.say.ensures.adds.adds.forms (c.say.ensures.given sure)

pub returns-clause-same : goal.returns-clause-same
returns-clause-same c = λ none. let old : Both = c.args.self.now in ap (λ (s : Standing). record old { standing = s }) (c.say.ensures.same none)
