use Rattle.spv_conditions.proofs.leaves.ProgramLeavesLeaves.leaf.Given as goal

-- the rules do not look at the line
abbrev pub ghost-before_new : goal.ghost-before_new
ghost-before_new a = 0
