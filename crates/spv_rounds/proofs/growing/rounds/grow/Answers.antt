use Rattle.std.proofs.Common.{List, ◌++◌, ◌∙◌, ap, subst}
use Rattle.spv_logic.specs.declared.conditions.TermId.{TermId}
use Rattle.spv_rules.specs.RuleSets.{rules_in}
use Rattle.spv_verdicts.specs.declared.answers.verdicts.Instance.{Instance}
use Rattle.spv_rounds.specs.growing.Growth.{AreSaid}
use Rattle.spv_rounds.proofs.growing.GrowLemmas.{known-grows}
use Rattle.spv_rounds.proofs.growing.rounds.grow.Goals as goal

pub returns : goal.returns
returns c = λ a d limits is is_round few.
    known-grows (rules_in c.args.rules.now) a d limits c.args.known.now _ c.args.from.now c.args.table.now c.args.members.now c.in_ok-round.round c.in_ok-said.said.items is
    (c.in_ok-round.ensures c.args.from.now c.args.known.now.terms c.requires.moves) c.in_ok-said.ensures.grows
    (subst (λ (ms : List Instance). AreSaid (rules_in c.args.rules.now) c.args.known.now.terms ms c.say.new.terms c.in_ok-said.said.items) c.as_slice.ensures c.in_ok-said.ensures.said)
    (c.in_ok-add_all.ensures.given ∙ ap (λ (ts : List TermId). c.args.known.now.claim.given ++ ts) c.as_slice-2.ensures.value) c.in_ok-add_all.ensures.goal c.in_ok-add_all.ensures.origin c.in_ok-push.ensures is_round few
