use Rattle.spv_share.proofs.Goings.{goes_both, goes_levels, goes_stays}
use Rattle.spv_share.proofs.both.Both.state.Goals as goal

pub returns-in_err-outcome-clause-both : goal.returns-in_err-outcome-clause-both
returns-in_err-outcome-clause-both c = goes_both c.args.terms.now c.args.self.now c.rounds.new.self c.requires.both c.rounds.ensures.goes

pub returns-in_err-outcome-clause-levels : goal.returns-in_err-outcome-clause-levels
returns-in_err-outcome-clause-levels c = goes_levels c.args.terms.now c.args.self.now c.rounds.new.self c.rounds.ensures.goes

pub answer-requires-clause-both : goal.answer-requires-clause-both
answer-requires-clause-both c = goes_both c.args.terms.now c.args.self.now c.rounds.new.self c.requires.both c.rounds.ensures.goes

pub returns-clause-both : goal.returns-clause-both
returns-clause-both c = goes_both c.args.terms.now c.args.self.now c.rounds.new.self c.requires.both c.rounds.ensures.goes

pub returns-clause-levels : goal.returns-clause-levels
returns-clause-levels c = goes_levels c.args.terms.now c.args.self.now c.rounds.new.self c.rounds.ensures.goes

pub returns-in_err-outcome-clause-stays : goal.returns-in_err-outcome-clause-stays
returns-in_err-outcome-clause-stays c = goes_stays c.args.terms.now c.args.self.now c.rounds.new.self c.rounds.ensures.goes

pub returns-clause-stays : goal.returns-clause-stays
returns-clause-stays c = goes_stays c.args.terms.now c.args.self.now c.rounds.new.self c.rounds.ensures.goes
