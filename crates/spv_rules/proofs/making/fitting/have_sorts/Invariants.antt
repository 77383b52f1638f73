use Rattle.std.proofs.Common.{◌≡◌, length, map, drop}
use Rattle.spv_term.specs.Arena.{AllBelow, tree}
use Rattle.spv_term.specs.substitution.Images.{head_at}
use Rattle.spv_proof_rules.specs.Rules.{have_sorts}
use Rattle.spv_rules.proofs.making.fitting.have_sorts.Given as goal

abbrev pub invariant-loop-k : goal.invariant-loop-k
invariant-loop-k l = record {
  variables_in : AllBelow (length l.from.nodes) (drop l.k l.variables);
  values_in : AllBelow (length l.terms.nodes) (drop l.k l.values);
  same : have_sorts l.terms.shapes l.terms.decls (map (head_at l.from) (drop l.k l.variables)) (map (tree l.terms) (drop l.k l.values)) ≡ have_sorts l.terms.shapes l.terms.decls (map (head_at l.from) l.variables) (map (tree l.terms) l.values);
}
