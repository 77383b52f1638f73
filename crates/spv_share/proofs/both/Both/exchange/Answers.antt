use Rattle.spv_share.proofs.Goings.{goes_then}
use Rattle.spv_share.proofs.both.Both.exchange.Goals as goal

pub returns-clause-goes : goal.returns-clause-goes
returns-clause-goes c = goes_then c.args.terms.now c.args.self.now c.check_given.new.self c.search.new.self c.check_given.ensures.goes c.search.ensures.goes
