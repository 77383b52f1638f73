use Rattle.std.proofs.Common.{◌≡◌, List, IfSome, map, ap, subst, ◌∙◌}
use Rattle.std.specs.List.{filter_map}
use Rattle.spv_logic.specs.Terms.{Term}
use Rattle.spv_schemas.specs.Instances.{instance_fact, schemas}
use Rattle.spv_term.specs.Arena.{tree}
use Rattle.spv_proof.specs.schema_facts.Instances.{instance_in}
use Rattle.spv_fact_search.specs.Enlarging.{GainsParts}
use Rattle.spv_fact_search.proofs.enlarging.further_facts.Goals as goal

pub returns-clause-facts : goal.returns-clause-facts
returns-clause-facts c =
    let a = c.args.terms.now in
    subst (λ (fs : List Term). IfSome c.in_ok-facts_of.field-0 (λ made. map (tree c.facts_of.new.terms) made.items ≡ fs))
    (ap (filter_map (instance_fact a.shapes a.decls))
    (ap (map (instance_in a)) c.as_slice-2.ensures
    ∙ c.in_ok-found.ensures.list
    ∙ ap (schemas a.shapes a.decls) (ap (map (tree a)) c.as_slice.ensures ∙ c.in_ok-used.ensures.used)))
    c.in_ok-facts_of.ensures.facts

pub returns-clause-parts : goal.returns-clause-parts
returns-clause-parts c =
    let a = c.args.terms.now in
    subst (λ (fs : List Term). GainsParts a fs c.facts_of.new.terms)
    (ap (filter_map (instance_fact a.shapes a.decls))
    (ap (map (instance_in a)) c.as_slice-2.ensures
    ∙ c.in_ok-found.ensures.list
    ∙ ap (schemas a.shapes a.decls) (ap (map (tree a)) c.as_slice.ensures ∙ c.in_ok-used.ensures.used)))
    c.in_ok-facts_of.ensures.parts
