use Rattle.spv_share.proofs.Goings.{goes_both, goes_same, goes_then}
use Rattle.spv_share.proofs.Rounds.{fewer_open, none_closed}
use Rattle.spv_share.proofs.both.Both.rounds.Goals as goal

pub loop-outcome-init : goal.loop-outcome-init
loop-outcome-init c = goes_same c.args.terms.now c.args.self.now c.requires.both.sound

pub round-requires : goal.round-requires
round-requires c = record { both = goes_both c.args.terms.now c.args.self.now c.loop-outcome.self c.requires.both c.loop-outcome.invariant }

pub returns-in_err-outcome-clause-goes : goal.returns-in_err-outcome-clause-goes
returns-in_err-outcome-clause-goes c = goes_then c.args.terms.now c.args.self.now c.loop-outcome.self c.round.new.self c.loop-outcome.invariant c.round.ensures.goes

pub returns-in-Some-clause-goes : goal.returns-in-Some-clause-goes
returns-in-Some-clause-goes c = goes_then c.args.terms.now c.args.self.now c.loop-outcome.self c.round.new.self c.loop-outcome.invariant c.round.ensures.goes

pub loop-outcome-preserved : goal.loop-outcome-preserved
loop-outcome-preserved c = goes_then c.args.terms.now c.args.self.now c.loop-outcome.self c.round.new.self c.loop-outcome.invariant c.round.ensures.goes

pub loop-outcome-smaller : goal.loop-outcome-smaller
loop-outcome-smaller c = fewer_open c.args.terms.now c.loop-outcome.self c.round.new.self c.round.ensures.goes (none_closed c.loop-outcome.self c.round.new.self c.in_ok-outcome.field-0 c.in_ok-outcome.ensures.none c.in-None.is)
