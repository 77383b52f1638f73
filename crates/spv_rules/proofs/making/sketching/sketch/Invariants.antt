use Rattle.std.proofs.Common.{◌≡◌, ◌++◌, map}
use Rattle.spv_term.specs.Arena.{tree}
use Rattle.spv_term.specs.substitution.Images.{head_at}
use Rattle.spv_rules.specs.making.Sketching as spec
use Rattle.spv_rules.specs.making.Sketching.{WorksIn, awaited, weights, pieces_of}
use Rattle.spv_rules.proofs.making.sketching.sketch.Given as goal

abbrev pub invariant-loop-work : goal.invariant-loop-work
invariant-loop-work l = record {
  same : l.out.items ++ awaited (spec.id_for (map (head_at l.from) l.variables) l.values) l.from l.works.items ≡ pieces_of (spec.id_for (map (head_at l.from) l.variables) l.values) (tree l.from l.fn.t);
  works_in : WorksIn l.from l.works.items;
}

abbrev pub decreases-loop-work : goal.decreases-loop-work
decreases-loop-work l = weights l.from l.works.items
