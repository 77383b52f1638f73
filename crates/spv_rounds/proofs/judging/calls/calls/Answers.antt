use Rattle.std.proofs.Common.{List, ◌∙◌, subst, Result}
use Rattle.spv_rules.specs.RuleSets.{rules_in}
use Rattle.spv_rules.specs.matching.Matches.{Wide}
use Rattle.spv_rules.specs.matching.Matches as matching
use Rattle.spv_rules.specs.matching.Views.{IsMatchFault}
use Rattle.spv_rounds.specs.calling.Calling.{fresh}
use Rattle.spv_rounds.proofs.judging.CallLemmas.{same-outcome, table-calls, handed-on}
use Rattle.spv_rounds.proofs.judging.calls.calls.Goals as goal

pub returns-in_err-found-clause-wide : goal.returns-in_err-found-clause-wide
returns-in_err-found-clause-wide c =
    handed-on c.from_residual.result c.in_err-found.field-0.0 _ c.from_residual.ensures.1
    (λ a d is. subst (λ (r : Result (List matching.Instance) Wide). IsMatchFault c.args.s.now.terms r c.in_err-found.field-0.0) (same-outcome (rules_in c.args.rules.now) a d c.args.s.now is c.args.table.now) c.in_err-found.ensures.fault)

pub returns-in-Ok-clause-called : goal.returns-in-Ok-clause-called
returns-in-Ok-clause-called c = λ a d is.
    table-calls (rules_in c.args.rules.now) a d c.args.s.now is c.args.table.now c.law_arena.ensures c.law_found.ensures.say c.in_ok-found.found.items c.in_ok-found.ensures.in_range c.in_ok-found.ensures.found c.in-Ok.members.items
    (c.in-Ok.ensures ∙ (λ i. fresh (c.as_slice.ensures i) (c.as_slice-2.ensures.value i)))
