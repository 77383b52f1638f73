use Rattle.spv_term.proofs.RangeLemmas.{NamesTypes-arena}
use Rattle.spv_term.proofs.laws.law_types.Goals as goal

pub returns : goal.returns
returns c = NamesTypes-arena
