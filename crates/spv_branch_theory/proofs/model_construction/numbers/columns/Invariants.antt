use Rattle.std.proofs.Common.{take}
use Rattle.spv_atoms.specs.Order.{SameMembers}
use Rattle.spv_tableau_rules.specs.tableaux.Forms.{part_ids}
use Rattle.spv_branch_theory.proofs.model_construction.numbers.columns.Given as goal

abbrev pub invariant-loop-t : goal.invariant-loop-t
invariant-loop-t l = record {
  same : SameMembers l.set (take l.t-index (part_ids l.both.standing.tableau.forms));
}
