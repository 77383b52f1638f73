use Rattle.std.proofs.Common.{take}
use Rattle.spv_share.specs.Relations.{IsGathered}
use Rattle.spv_share.proofs.relations.gather.Given as goal

abbrev pub invariant-loop-atom : goal.invariant-loop-atom
invariant-loop-atom l = IsGathered l.terms l.trail (take l.atom-index l.atoms) l.relations.items
