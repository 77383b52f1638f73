use Rattle.spv_models.proofs.leaf_models.Covering.{atoms-there, atoms-are, atoms-over}
use Rattle.spv_models.proofs.leaf_models.Standing.{uncomputed-in-atoms}
use Rattle.spv_models.proofs.leaf_models.laws.law_atoms.Goals as goal

pub returns-clause-there : goal.returns-clause-there
returns-clause-there c = atoms-there

pub returns-clause-are_atoms : goal.returns-clause-are_atoms
returns-clause-are_atoms c = atoms-are

pub returns-clause-add_nothing : goal.returns-clause-add_nothing
returns-clause-add_nothing c = atoms-over

pub returns-clause-cover : goal.returns-clause-cover
returns-clause-cover c = uncomputed-in-atoms
