use Rattle.spv_branch_theory.proofs.saturation.Filling.{filled_leaf, filled_survives}
use Rattle.spv_branch_theory.proofs.saturation.laws.law_filled_path.Goals as goal

pub returns-clause-leaf : goal.returns-clause-leaf
returns-clause-leaf c = λ q are fs same shows given full. filled_leaf q fs same shows given full are

pub returns-clause-survives : goal.returns-clause-survives
returns-clause-survives c = λ q are cases same shows given full fits. filled_survives q are cases same shows given full fits
