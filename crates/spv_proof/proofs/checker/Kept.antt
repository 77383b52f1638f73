-- Facts that are put into an arena, over plain variables.
use Rattle.std.proofs.Common.{◌≡◌, ◌<◌, List, [], ◌∷◌, ◌++◌, map, length, ap, ◌∙◌, Some}
use Rattle.std.proofs.lemmas.List.{map-append}
use Rattle.spv_logic.specs.declared.conditions.TermId.{TermId}
use Rattle.spv_logic.specs.Terms.{Term}
use Rattle.spv_term.specs.Arena.{Arena, IsArena, AllBelow, tree, trees_of, Extends}
use Rattle.spv_term.proofs.ArenaLemmas.{map_tree-Extends, AllBelow-Extends}
use Rattle.spv_proof_rules.specs.Stops.{kept}
use Rattle.spv_proof_steps.specs.declared.facts.Fact.{Fact}
use Rattle.spv_proof_steps.specs.declared.facts.Fact.TheVariants.{Known, Negation, Equation, Below, AtMost}
use Rattle.spv_proof_steps.specs.Steps.{fact_of, FactStands}
use Rattle.spv_proof_steps.proofs.StepLemmas.{AllBelow-pushed}
use Rattle.spv_rules.proofs.making.Kept.{kept_known}

-- ---- facts by their heads

module _ (a : Arena) (fact : Fact) (stands : FactStands a fact) where
  pub fact_known : (ok : IsArena a) (t : TermId) → fact ≡ Known t → kept a.most (trees_of a.nodes) (fact_of a fact) ≡ Some (trees_of a.nodes)
  fact_known ok t e = rw e (kept_known a ok t (rw e at stands))

  pub negation_below : (t : TermId) → fact ≡ Negation t → AllBelow (length a.nodes) (t ∷ [])
  negation_below t e = let k = (rw e at stands) in (k.0, tt)

  pub equation_below : (s t : TermId) → fact ≡ Equation s t → AllBelow (length a.nodes) (s ∷ t ∷ [])
  equation_below s t e = let k = (rw e at stands) in (k.0, (k.1, tt))

  pub below_below : (s t : TermId) → fact ≡ Below s t → AllBelow (length a.nodes) (s ∷ t ∷ [])
  below_below s t e = let k = (rw e at stands) in (k.0, (k.1, tt))

  pub at_most_below : (s t : TermId) → fact ≡ AtMost s t → AllBelow (length a.nodes) (s ∷ t ∷ [])
  at_most_below s t e = let k = (rw e at stands) in (k.0, (k.1, tt))

-- ---- a fact more

module _ (old new : Arena) (more : Extends old new) (facts after : List TermId) (t : TermId) (below : AllBelow (length old.nodes) facts) (pushed : after ≡ facts ++ t ∷ []) where
  pub map-added : (f : Term) → tree new t ≡ f → map (tree new) after ≡ map (tree old) facts ++ f ∷ []
  map-added f e = ap (map (tree new)) pushed ∙ (map-append (tree new) facts (t ∷ []) ∙ (λ i. map_tree-Extends more facts below i ++ e i ∷ []))

  pub below-added : t.0 < length new.nodes → AllBelow (length new.nodes) after
  below-added h = AllBelow-pushed (length new.nodes) facts after t (AllBelow-Extends more facts below) h pushed
