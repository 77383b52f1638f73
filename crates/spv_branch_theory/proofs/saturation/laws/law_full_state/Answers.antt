use Rattle.spv_branch_theory.proofs.saturation.Full.{is_shown, never_not_shown, survives}
use Rattle.spv_branch_theory.proofs.saturation.Nodes.{listed_nodes}
use Rattle.spv_branch_theory.proofs.saturation.laws.law_full_state.Goals as goal

pub returns-clause-nodes : goal.returns-clause-nodes
returns-clause-nodes c = listed_nodes

pub returns-clause-shown : goal.returns-clause-shown
returns-clause-shown c = is_shown c.law_full_table.ensures

pub returns-clause-never : goal.returns-clause-never
returns-clause-never c = never_not_shown c.law_full_table.ensures

pub returns-clause-unproved : goal.returns-clause-unproved
returns-clause-unproved c = survives c.law_full_table.ensures
