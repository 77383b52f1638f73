use Rattle.std.proofs.Common.{drop}
use Rattle.spv_assign.specs.supply.Numbers.{supply_of}
use Rattle.spv_flow_parts.proofs.Pairs.{RenamedSoFar}
use Rattle.spv_flow_parts.proofs.renaming.renamed.Given as goal

abbrev pub invariant-loop-head : goal.invariant-loop-head
invariant-loop-head l = RenamedSoFar l.fn.terms l.terms (supply_of l.fn.supply) (supply_of l.supply) l.heads (drop l.head-index l.heads) l.pairs.items
