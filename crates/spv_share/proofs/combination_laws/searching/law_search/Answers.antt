use Rattle.spv_share.proofs.combination_laws.Enough.{search_enough}
use Rattle.spv_share.proofs.combination_laws.searching.law_search.Goals as goal

pub returns : goal.returns
returns c = λ a ok b h ts fs over is. search_enough a ok b h ts fs over is
