use Rattle.std.proofs.Common.{drop}
use Rattle.spv_explanations.specs.equalities.Links.{AllKnown}
use Rattle.spv_explanations.proofs.equalities.links.first_unknown.Given as goal

abbrev pub invariant-loop-link : goal.invariant-loop-link
invariant-loop-link l = AllKnown l.known (drop l.link-index l.links) → AllKnown l.known l.links
