use Rattle.spv_rounds.proofs.judging.EndLemmas.{proved-decides}
use Rattle.spv_rounds.proofs.judging.ended.accepted.Goals as goal

pub proved-requires : goal.proved-requires
proved-requires c = c.requires.is.falsity

pub returns : goal.returns
returns c = λ rules a d limits is there h. proved-decides rules a d limits c.args.s c.args.proof.now c.in_ok-told.told is (c.in_ok-told.ensures rules is.rounds) there h
