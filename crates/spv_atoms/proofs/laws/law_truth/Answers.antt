use Rattle.spv_atoms.proofs.Truths.{truth_known}
use Rattle.spv_atoms.proofs.laws.law_truth.Goals as goal

pub returns : goal.returns
returns c shapes ok decls world v typed known agrees t b e = (truth_known shapes ok decls world v typed known t agrees).tells b e
