use Rattle.spv_term.proofs.ArenaLemmas.{IsWellSorted-arena}
use Rattle.spv_term.proofs.laws.law_sorted.Goals as goal

pub returns : goal.returns
returns c = IsWellSorted-arena
