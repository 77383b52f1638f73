use Rattle.spv_term.proofs.ArenaLemmas.{IsWorthOfHeads-arena}
use Rattle.spv_term.proofs.laws.law_worth.Goals as goal

pub returns : goal.returns
returns c = IsWorthOfHeads-arena
