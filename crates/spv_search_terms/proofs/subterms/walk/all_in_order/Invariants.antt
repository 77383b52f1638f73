use Rattle.std.proofs.Common.{◌≡◌, [], length, map}
use Rattle.spv_term.specs.Arena.{AllBelow, tree, trees}
use Rattle.spv_atoms.specs.Order.{order_all}
use Rattle.spv_models.specs.leaf_models.Subterms.{enters_each}
use Rattle.spv_search_terms.specs.subterms.Walk.{after, weights, WorksIn}
use Rattle.spv_search_terms.proofs.subterms.walk.all_in_order.Given as goal

abbrev pub invariant-loop-work : goal.invariant-loop-work
invariant-loop-work l = record {
  same : after l.terms l.works.items (map (tree l.terms) l.done) ≡ order_all enters_each (trees l.terms l.roots) [];
  works_in : WorksIn l.terms l.works.items;
  done_in : AllBelow (length l.terms.nodes) l.done;
}

abbrev pub decreases-loop-work : goal.decreases-loop-work
decreases-loop-work l = weights l.terms l.works.items
