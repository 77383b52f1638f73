use Rattle.std.proofs.Common.{length, subst}
use Rattle.spv_logic.specs.Terms.{Term}
use Rattle.spv_assignments.specs.declared.partial_assignment.following.Following.{Following}
use Rattle.spv_assignments.specs.partial_assignment.Says.{FollowsAmong}
use Rattle.spv_assignments.proofs.partial_assignment.Turns.{below_take, below_behind, behind_follows, before_answers}
use Rattle.spv_assignments.proofs.partial_assignment.following.question_from.Goals as goal

pub first_question-requires-clause-questions : goal.first_question-requires-clause-questions
first_question-requires-clause-questions c = below_behind (length c.args.terms.now.nodes) c.if-place-count.middle _ c.args.questions.now c.requires.questions

pub first_question-requires-in-Nothing-clause-questions : goal.first_question-requires-in-Nothing-clause-questions
first_question-requires-in-Nothing-clause-questions c = below_take (length c.args.terms.now.nodes) c.if-place-count.middle c.args.questions.now c.requires.questions

pub returns-in-Nothing : goal.returns-in-Nothing
returns-in-Nothing c =
    before_answers c.args.terms.now c.args.lists.now.direct.items c.args.lists.now.cores.items c.args.lists.now.all.items c.args.questions.now c.if-place-count.middle
    (λ facts is lists quiet. rw c.in-Nothing.is at (c.in_ok-found.ensures facts is lists quiet)) c.first_question-in-Nothing.result c.first_question-in-Nothing.ensures

pub returns-in_default : goal.returns-in_default
returns-in_default c = λ facts is lists quiet. behind_follows c.args.terms.now facts c.args.questions.now c.if-place-count.middle c.in_ok-found.found c.in_default.not-Nothing (c.in_ok-found.ensures facts is lists quiet)
