use Rattle.spv_rules.proofs.making.Applying.{make-all, make-fault}
use Rattle.spv_rules.proofs.making.building.make.Goals as goal

pub returns-clause-all : goal.returns-clause-all
returns-clause-all c = make-all c.args.terms.now c.law_arena.ensures c.args.head c.args.args.now c.requires.args c.make.new.self c.make.result c.make.ensures.full c.make.ensures.arena

pub returns-clause-fault : goal.returns-clause-fault
returns-clause-fault c = make-fault c.args.terms.now c.law_arena.ensures c.args.head c.args.args.now c.requires.args c.make.new.self c.make.result c.make.ensures.size c.make.ensures.unchanged
