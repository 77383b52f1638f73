use Rattle.spv_meaning.proofs.Turns.{more_turns}
use Rattle.spv_meaning.proofs.laws.law_turns.Goals as goal

pub returns : goal.returns
returns c = more_turns
