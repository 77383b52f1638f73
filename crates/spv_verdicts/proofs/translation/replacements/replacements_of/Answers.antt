use Rattle.std.proofs.Common.{sym, subst, arith}
use Rattle.std.proofs.lemmas.Grind.{common_steps}
use Rattle.spv_proof_rules.specs.Stand.{StepsIn}
use Rattle.spv_verdicts.proofs.translation.ReplacementLemmas.{table-more}
use Rattle.spv_verdicts.proofs.translation.StandLemmas.{replacements-in}
use Rattle.spv_verdicts.proofs.translation.replacements.replacements_of.Goals as goal

pub loop-place-preserved : goal.loop-place-preserved
loop-place-preserved c =
    table-more c.args.falsity c.loop-place.place c.in_ok-number_of.field-0 c.loop-place.steps.items c.push-in-loop-place.new.self.items c.loop-place.invariant c.in_ok-number_of.ensures c.in_ok-push-2.ensures.items

pub returns-clause-steps : goal.returns-clause-steps
returns-clause-steps c = grind (arith, common_steps)

pub returns-clause-terms : goal.returns-clause-terms
returns-clause-terms c =
    λ a there h. subst (StepsIn a) (sym (returns-clause-steps c)) (replacements-in a c.args.hypotheses c.args.falsity c.args.facts.items there h)
