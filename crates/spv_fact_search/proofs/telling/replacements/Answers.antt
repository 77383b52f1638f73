use Rattle.std.proofs.Common.{map, length, sym, ap, ◌∙◌, subst}
use Rattle.spv_schemas.specs.Instances.{schemas}
use Rattle.spv_term.specs.Arena.{tree}
use Rattle.spv_proof_rules.specs.Stand.{StepsIn}
use Rattle.spv_verdicts.specs.translation.Replacements.{replacements}
use Rattle.spv_fact_search.specs.Telling.{schema_step}
use Rattle.spv_fact_search.proofs.Stating.{steps-exchange, steps-in}
use Rattle.spv_fact_search.proofs.telling.replacements.Goals as goal

pub returns-clause-exchanges : goal.returns-clause-exchanges
returns-clause-exchanges c =
    let a = c.args.terms.now in
    steps-exchange a c.law_kinds.ensures.numbers c.law_replacements.ensures c.args.condition.now c.in_ok-found.found
    (c.in_ok-found.ensures.list ∙ ap (schemas a.shapes a.decls) (ap (map (tree a)) c.as_slice.ensures ∙ c.in_ok-used.ensures.used))
    c.args.falsity c.requires.falsity.is c.in_ok-replacements_of.field-0.items
    (c.in_ok-replacements_of.ensures.steps
    ∙ (λ i. replacements (length (c.as_slice-3.ensures i)) c.args.falsity ((c.in_ok-facts.ensures ∙ ap (map schema_step) c.as_slice-2.ensures) i)))

pub returns-clause-in_range : goal.returns-clause-in_range
returns-clause-in_range c =
    let a = c.args.terms.now in
    c.in_ok-replacements_of.ensures.terms a c.requires.falsity.there
    (subst (StepsIn a) (sym (c.in_ok-facts.ensures ∙ ap (map schema_step) c.as_slice-2.ensures)) (steps-in a c.law_kinds.ensures.numbers c.in_ok-found.found c.in_ok-found.ensures.in_range))
