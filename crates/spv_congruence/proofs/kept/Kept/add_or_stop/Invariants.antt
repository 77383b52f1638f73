use Rattle.std.proofs.Common.{◌≡◌, ◌+◌, ◌*◌, ◌⊎◌, Some, length, slice_get}
use Rattle.spv_congruence.specs.Graph.{IsGraph}
use Rattle.spv_congruence.specs.Keep.{graph, Fits, HasGrown, IsNode}
use Rattle.spv_congruence.specs.Told.{AddsParts, IsOf}
use Rattle.spv_congruence.specs.Walk.{IsPath, missing_in, last_of}
use Rattle.spv_congruence.proofs.kept.Kept.add_or_stop.Given as goal

abbrev pub invariant-loop-x : goal.invariant-loop-x
invariant-loop-x l = record {
  fits : Fits l.self;
  graph_is : IsGraph (graph l.self);
  of : IsOf l.terms (graph l.self);
  grown : HasGrown (graph l.fn.self) (graph l.self);
  parts : AddsParts l.terms l.fn.t (graph l.fn.self) (graph l.self);
  path : IsPath l.terms l.fn.t l.self.nodes (length l.terms.nodes) l.path.items;
  first : (slice_get l.path.items 0 ≡ Some l.fn.t) ⊎ IsNode l.self.nodes l.fn.t;
}

abbrev pub decreases-loop-x : goal.decreases-loop-x
decreases-loop-x l = missing_in l.self.nodes (length l.terms.nodes) * (length l.terms.nodes + 2) + last_of l.path.items
