use Rattle.std.proofs.Common.{drop}
use Rattle.spv_explanations.proofs.equalities.Ways.{Chained}
use Rattle.spv_explanations.proofs.equalities.links.chain.Given as goal

abbrev pub invariant-loop-link : goal.invariant-loop-link
invariant-loop-link l = Chained l.terms l.initial.derivation l.derivation l.known l.s l.fn.t l.way (drop l.link-index l.links)
