use Rattle.spv_atoms.proofs.Worth.{worth_is}
use Rattle.spv_atoms.proofs.laws.law_form.Goals as goal

pub returns : goal.returns
returns c = worth_is
