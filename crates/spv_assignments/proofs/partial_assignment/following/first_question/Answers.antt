use Rattle.std.proofs.Common.{Bool, Option, length, slice_index_or, subst, arith}
use Rattle.std.proofs.lemmas.Option.{slice_get-get_or}
use Rattle.spv_term.proofs.TreeLemmas.{AllBelow-at}
use Rattle.spv_assignments.specs.partial_assignment.Answers.{Say}
use Rattle.spv_assignments.proofs.partial_assignment.Turns.{more_either, all_either}
use Rattle.spv_assignments.proofs.partial_assignment.following.first_question.Goals as goal

pub answer-requires-clause-t : goal.answer-requires-clause-t
answer-requires-clause-t c =
    AllBelow-at (length c.args.terms.now.nodes) c.args.questions.now c.loop-t.t-index _ c.requires.questions
    (slice_get-get_or c.args.questions.now c.loop-t.t-index (record { 0 = 0 }) (omega (arith, c.loop-t-test.true)))

pub returns-in-Some : goal.returns-in-Some
returns-in-Some c = λ facts is lists quiet. (
  record { place = c.loop-t.t-index; is = slice_get-get_or c.args.questions.now c.loop-t.t-index (record { 0 = 0 }) (omega (arith, c.loop-t-test.true)) },
  subst (λ (o : Option Bool). Say c.args.terms.now facts (slice_index_or c.args.questions.now c.loop-t.t-index (record { 0 = 0 })) o) c.in-Some.is (c.in_ok-found.ensures facts is lists quiet),
)

pub loop-t-preserved : goal.loop-t-preserved
loop-t-preserved c =
    more_either c.args.terms.now c.args.lists.now.direct.items c.args.lists.now.cores.items c.args.lists.now.all.items c.args.questions.now c.loop-t.t-index (record { 0 = 0 }) c.loop-t.invariant (omega (arith, c.loop-t-test.true))
    (λ facts is lists quiet.
    subst (λ (o : Option Bool). Say c.args.terms.now facts (slice_index_or c.args.questions.now c.loop-t.t-index (record { 0 = 0 })) o) c.in_default.is (c.in_ok-found.ensures facts is lists quiet))

pub returns : goal.returns
returns c =
    all_either c.args.terms.now c.args.lists.now.direct.items c.args.lists.now.cores.items c.args.lists.now.all.items c.args.questions.now c.loop-t.t-index c.loop-t.invariant (omega (arith, c.loop-t-test.false))
