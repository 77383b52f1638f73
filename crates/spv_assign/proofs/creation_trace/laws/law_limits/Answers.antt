use Rattle.spv_assign.proofs.creation_trace.Parts.{has_the_parts, full_means_more}
use Rattle.spv_assign.proofs.creation_trace.laws.law_limits.Goals as goal

pub returns-clause-parts : goal.returns-clause-parts
returns-clause-parts c = has_the_parts

pub returns-clause-full : goal.returns-clause-full
returns-clause-full c = full_means_more
