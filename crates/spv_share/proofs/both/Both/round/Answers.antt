use Rattle.std.proofs.Common.{refl}
use Rattle.spv_share.proofs.Goings.{goes_both, goes_then, goes_trail}
use Rattle.spv_share.proofs.Rounds.{closed_none}
use Rattle.spv_share.proofs.both.Both.round.Goals as goal

pub returns-in_err-first-clause-goes : goal.returns-in_err-first-clause-goes
returns-in_err-first-clause-goes c = goes_trail c.args.terms.now c.args.self.now c.clash.new.self c.requires.both.sound c.clash.ensures.holds c.clash.ensures.grows c.clash.ensures.literals c.clash.ensures.graph

pub returns-in-Some-clause-goes : goal.returns-in-Some-clause-goes
returns-in-Some-clause-goes c = goes_trail c.args.terms.now c.args.self.now c.clash.new.self c.requires.both.sound c.clash.ensures.holds c.clash.ensures.grows c.clash.ensures.literals c.clash.ensures.graph

pub exchange-requires-clause-both : goal.exchange-requires-clause-both
exchange-requires-clause-both c = goes_both c.args.terms.now c.args.self.now (record c.args.self.now { trail = c.clash.new.self }) c.requires.both (goes_trail c.args.terms.now c.args.self.now c.clash.new.self c.requires.both.sound c.clash.ensures.holds c.clash.ensures.grows c.clash.ensures.literals c.clash.ensures.graph)

pub returns-clause-goes : goal.returns-clause-goes
returns-clause-goes c = goes_then c.args.terms.now c.args.self.now (record c.args.self.now { trail = c.clash.new.self }) c.exchange.new.self (goes_trail c.args.terms.now c.args.self.now c.clash.new.self c.requires.both.sound c.clash.ensures.holds c.clash.ensures.grows c.clash.ensures.literals c.clash.ensures.graph) c.exchange.ensures.goes

pub returns-clause-none : goal.returns-clause-none
returns-clause-none c = closed_none c.args.self.now (record c.args.self.now { trail = c.clash.new.self }) c.exchange.new.self c.exchange.result c.clash.ensures.graph refl c.exchange.ensures.none
