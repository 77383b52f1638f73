use Rattle.spv_writes.proofs.Kept.{grows, class_stays}
use Rattle.spv_writes.proofs.Steps.{new_class}
use Rattle.spv_writes.proofs.Classes.{new_extends, one_cell_written, put_in_cell}
use Rattle.spv_writes.proofs.laws.law_written_classes.Goals as goal

pub returns-clause-types : goal.returns-clause-types
returns-clause-types c = λ p areas s t w. (grows p areas s t w).keeps

pub returns-clause-untouched : goal.returns-clause-untouched
returns-clause-untouched c = class_stays

pub returns-clause-one_cell : goal.returns-clause-one_cell
returns-clause-one_cell c = λ p ok types areas s t w right u cell type below symbols v. one_cell_written p ok types areas s t w right u cell type below

pub returns-clause-put : goal.returns-clause-put
returns-clause-put c = λ p ok types s right u cell type path e w place fit symbols v. put_in_cell p ok types s right u cell type path e w place fit

pub returns-clause-new : goal.returns-clause-new
returns-clause-new c = λ p s cell u w new symbols v. new_extends p s cell u w new

pub returns-clause-others : goal.returns-clause-others
returns-clause-others c = new_class
