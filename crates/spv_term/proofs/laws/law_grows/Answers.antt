use Rattle.spv_term.proofs.ArenaLemmas.{KeepsOld-Extends}
use Rattle.spv_term.proofs.laws.law_grows.Goals as goal

pub returns : goal.returns
returns c old new more = KeepsOld-Extends more
