use Rattle.spv_share.proofs.Goings.{goes_then}
use Rattle.spv_share.proofs.Settling.{all_then, no_outcome}
use Rattle.spv_share.proofs.both.Both.check_given.Goals as goal

pub returns-clause-goes : goal.returns-clause-goes
returns-clause-goes c = goes_then c.args.terms.now c.args.self.now c.give_both.new.self c.check.new.self c.give_both.ensures.goes c.check.ensures.goes

pub returns-clause-stand : goal.returns-clause-stand
returns-clause-stand c =
    all_then c.give_both.new.self c.check.new.self c.check.result c.check.ensures.still (no_outcome _ c.in_ok-outcome.field-0 c.in_ok-outcome.ensures.stand c.in_default.is)
