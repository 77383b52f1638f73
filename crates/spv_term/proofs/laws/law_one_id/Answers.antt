use Rattle.spv_term.proofs.ArenaLemmas.{HasOneId-arena}
use Rattle.spv_term.proofs.laws.law_one_id.Goals as goal

pub returns : goal.returns
returns c = HasOneId-arena
