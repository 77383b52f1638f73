use Rattle.spv_trail.proofs.backtracking.Following.{says_question}
use Rattle.spv_trail.proofs.backtracking.path.BranchTrail.grow_once.Goals as goal

pub follow-requires-clause-follows : goal.follow-requires-clause-follows
follow-requires-clause-follows c =
    says_question c.args.terms.now c.args.self.now.known.items c.as_slice.result.now c.as_slice-2.result.now c.as_slice.ensures.value c.in_ok-found.found c.in-Question.t c.in-Question.truth c.in-Question.is c.in_ok-found.ensures
