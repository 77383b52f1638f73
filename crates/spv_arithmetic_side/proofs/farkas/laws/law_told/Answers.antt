use Rattle.spv_arithmetic_side.proofs.farkas.Readings.{told_is_read, told_is_sourced, sourced_stays}
use Rattle.spv_arithmetic_side.proofs.farkas.laws.law_told.Goals as goal

pub returns-clause-read : goal.returns-clause-read
returns-clause-read c = λ is_number t s u p x e says. told_is_read is_number s u p x t e says

pub returns-clause-sourced : goal.returns-clause-sourced
returns-clause-sourced c = told_is_sourced

pub returns-clause-stays : goal.returns-clause-stays
returns-clause-stays c = sourced_stays
