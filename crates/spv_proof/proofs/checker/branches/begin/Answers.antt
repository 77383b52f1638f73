use Rattle.std.proofs.Common.{length}
use Rattle.spv_proof.proofs.checker.Stacks.{AllBelow-cut, begun-none}
use Rattle.spv_proof.proofs.checker.branches.begin.Goals as goal

pub add-requires-clause-facts : goal.add-requires-clause-facts
add-requires-clause-facts c = AllBelow-cut (length c.args.terms.now.nodes) c.args.branch.mark c.args.facts.now.items c.truncate.new.self.items c.truncate.ensures.items c.requires.facts

pub returns-in-None-clause-begun : goal.returns-in-None-clause-begun
returns-in-None-clause-begun c = begun-none c.args.terms.now c.args.facts.now.items c.truncate.new.self.items c.args.branch c.in-None.is c.truncate.ensures.items c.requires.facts c.requires.mark
