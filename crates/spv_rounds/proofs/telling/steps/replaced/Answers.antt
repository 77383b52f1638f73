use Rattle.std.proofs.Common.{List, ◌∙◌, ap, map}
use Rattle.spv_verdicts.specs.declared.answers.verdicts.Round.{Round}
use Rattle.spv_rounds.specs.telling.Told.{rule_step, all_members}
use Rattle.spv_rounds.proofs.telling.ToldLemmas.{steps-in}
use Rattle.spv_rounds.proofs.telling.steps.replaced.Goals as goal

pub returns-clause-in_range : goal.returns-clause-in_range
returns-clause-in_range c = λ falsity there.
    c.in_ok-replacements_of.ensures.terms c.args.s.now.terms falsity.there
    (steps-in c.args.s.now.terms c.args.s.now.rounds c.in_ok-steps.steps.items (c.in_ok-steps.ensures ∙ ap (λ (rs : List Round). map rule_step (all_members rs)) c.as_slice.ensures) there)
