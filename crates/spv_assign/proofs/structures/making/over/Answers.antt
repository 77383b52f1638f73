use Rattle.spv_assign.proofs.structures.MakeLemmas.{sorts_fit, makes}
use Rattle.spv_assign.proofs.structures.making.over.Goals as goal

pub make-requires-clause-sorts : goal.make-requires-clause-sorts
make-requires-clause-sorts c = sorts_fit c.args.terms.now c.args.terms.now c.law_arena.ensures c.args.head c.args.args.now c.requires.args c.requires.sorts

pub returns : goal.returns
returns c =
    makes c.args.terms.now c.make.new.self c.law_arena.ensures c.args.head c.args.args.now c.requires.args c.make.result
    c.make.ensures.id c.make.ensures.arena c.make.ensures.in_range c.make.ensures.tree c.make.ensures.sort c.make.ensures.grows c.make.ensures.size c.make.ensures.unchanged
