use Rattle.spv_verdicts.proofs.translation.ReplacementLemmas.{all-replaced}
use Rattle.spv_verdicts.proofs.translation.laws.law_replacements.Goals as goal

pub returns : goal.returns
returns c = all-replaced
