use Rattle.spv_share.proofs.Ended.{end_goes}
use Rattle.spv_share.proofs.both.Both.end.Goals as goal

pub returns-in_err-number-clause-goes : goal.returns-in_err-number-clause-goes
returns-in_err-number-clause-goes c = end_goes c.args.terms.now c.law_arena.ensures c.args.self.now c.end.new.derivation c.end.result c.requires.sound c.requires.infeasible c.end.ensures.gains c.end.ensures.err c.end.ensures.literals

pub returns-clause-goes : goal.returns-clause-goes
returns-clause-goes c = end_goes c.args.terms.now c.law_arena.ensures c.args.self.now c.end.new.derivation c.end.result c.requires.sound c.requires.infeasible c.end.ensures.gains c.end.ensures.err c.end.ensures.literals
