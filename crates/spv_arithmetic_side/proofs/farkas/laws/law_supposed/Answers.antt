use Rattle.spv_arithmetic_side.proofs.farkas.Readings.{above_is_sourced, below_is_sourced}
use Rattle.spv_arithmetic_side.proofs.farkas.laws.law_supposed.Goals as goal

pub returns-clause-above : goal.returns-clause-above
returns-clause-above c = above_is_sourced

pub returns-clause-below : goal.returns-clause-below
returns-clause-below c = below_is_sourced
