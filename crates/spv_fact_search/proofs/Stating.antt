-- Steps that add facts of schemas.
use Rattle.std.proofs.Common.{◌≡◌, List, [], ◌∷◌, map, length, Option, Some, refl, sym, ap, ◌∙◌, subst}
use Rattle.std.proofs.lemmas.List.{length-map}
use Rattle.spv_logic.specs.declared.conditions.TermId.{TermId}
use Rattle.spv_logic.specs.declared.operators.Head.TheVariants.{False}
use Rattle.spv_logic.specs.Terms.{term, no_terms}
use Rattle.spv_schemas.specs.declared.kinds.SchemaKind.{SchemaKind}
use Rattle.spv_schemas.specs.Instances.{schemas}
use Rattle.spv_schemas.specs.Laws.{NumbersTellKinds}
use Rattle.spv_term.specs.declared.nodes.Condition.{Condition}
use Rattle.spv_term.specs.Arena.{Arena, tree}
use Rattle.spv_atoms.specs.declared.proofs.Step.{Step}
use Rattle.spv_proof_rules.specs.Stand.{question, StepsIn}
use Rattle.spv_verdicts.specs.Schemas.{enlarged, used}
use Rattle.spv_verdicts.specs.translation.Exchanged.{Exchanges}
use Rattle.spv_verdicts.specs.translation.Laws.{ReplacementsExchange}
use Rattle.spv_verdicts.specs.translation.Replacements.{instance_by, replacements, stated_instance}
use Rattle.spv_proof.specs.declared.schema_facts.listing.Instance.{Instance}
use Rattle.spv_proof.specs.schema_facts.Instances.{AllIn, instance_in}
use Rattle.spv_fact_search.specs.Telling.{schema_step}

module _ (a : Arena) (tell : NumbersTellKinds) where
  stated : (found : List Instance) → map (stated_instance (tree a)) (map schema_step found) ≡ map Some (map (instance_in a) found)
  stated [] = refl
  stated (i ∷ found) =
      let one = ap (λ (o : Option SchemaKind). instance_by o (map (tree a) i.about) i.field) (tell i.kind) in
      let others = stated found in
      λ k. one k ∷ others k

  pub steps-in : (found : List Instance) → AllIn a found → StepsIn a (map schema_step found)
  steps-in [] h = tt
  steps-in (i ∷ found) h = (h.0, steps-in found h.1)

  -- they add the facts of the instances of a condition
  pub steps-exchange : ReplacementsExchange → (c : Condition) (found : List Instance) → map (instance_in a) found ≡ schemas a.shapes a.decls (used (question a c))
      → (falsity : TermId) → tree a falsity ≡ term False no_terms → (steps : List Step) → steps ≡ replacements (length c.given) falsity (map schema_step found)
      → Exchanges (enlarged (question a c)) (question a c) steps
  steps-exchange law c found is falsity f steps e =
      let q = question a c in
      let many : length q.sequent.given ≡ length c.given = length-map c.given (tree a) in
      subst (Exchanges (enlarged q) q) (ap (λ n. replacements n falsity (map schema_step found)) many ∙ sym e)
      (law q falsity (map schema_step found) f (record { instances = stated found ∙ ap (map Some) is }))
