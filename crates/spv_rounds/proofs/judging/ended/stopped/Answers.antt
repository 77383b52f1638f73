use Rattle.spv_rounds.proofs.judging.EndLemmas.{limit-decides}
use Rattle.spv_rounds.proofs.judging.ended.stopped.Goals as goal

pub told_limit-requires : goal.told_limit-requires
told_limit-requires c = c.requires.is.falsity

pub returns : goal.returns
returns c = λ rules a d limits is few found. limit-decides rules a d limits c.args.s c.args.limit c.in_ok-told.told is few found (c.in_ok-told.ensures rules limits is.rounds)
