use Rattle.std.proofs.Common.{◌≡◌, length, map, drop}
use Rattle.spv_term.specs.Arena.{AllBelow}
use Rattle.spv_term.specs.substitution.Images.{head_at}
use Rattle.spv_rules.specs.making.Sketching as spec
use Rattle.spv_rules.proofs.making.sketching.id_for.Given as goal

abbrev pub invariant-loop-k : goal.invariant-loop-k
invariant-loop-k l = record {
  variables_in : AllBelow (length l.from.nodes) (drop l.k l.variables);
  same : spec.id_for (map (head_at l.from) (drop l.k l.variables)) (drop l.k l.values) l.head ≡ spec.id_for (map (head_at l.from) l.variables) l.values l.head;
}
