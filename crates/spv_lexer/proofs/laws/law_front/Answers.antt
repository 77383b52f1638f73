use Rattle.spv_lexer.proofs.Readings.{reading-front}
use Rattle.spv_lexer.proofs.laws.law_front.Goals as goal

pub returns : goal.returns
returns c = reading-front
