use Rattle.spv_meaning.proofs.Puts.{look_elsewhere}
use Rattle.spv_meaning.proofs.laws.law_put.Goals as goal

pub returns : goal.returns
returns c = look_elsewhere
