use Rattle.spv_share.proofs.Goings.{goes_then}
use Rattle.spv_share.proofs.Settling.{no_outcome, then_all}
use Rattle.spv_share.proofs.both.Both.give_both.Goals as goal

pub returns-clause-goes : goal.returns-clause-goes
returns-clause-goes c = goes_then c.args.terms.now c.args.self.now c.give_literals.new.self c.give_all.new.self c.give_literals.ensures.goes c.give_all.ensures.goes

pub returns-clause-stand : goal.returns-clause-stand
returns-clause-stand c =
    then_all c.give_literals.new.self c.give_all.new.self c.give_all.result c.give_all.ensures.goes.standing c.give_all.ensures.goes.claims (no_outcome _ c.in_ok-outcome.field-0 c.in_ok-outcome.ensures.stands c.in_default.is)
    c.give_all.ensures.stands
