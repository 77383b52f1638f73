-- Facts of instances that are made one after the other.
use Rattle.std.proofs.Common.{◌≡◌, ◌<◌, true, List, [], ◌∷◌, ◌++◌, map, length, Option, Some, None, Ok, refl, sym, ap, ◌∙◌, subst}
use Rattle.std.specs.List.{cons_option, filter_map}
use Rattle.std.specs.Option.{option_map}
use Rattle.std.proofs.lemmas.Bool.{false≢true}
use Rattle.std.proofs.lemmas.List.{append_assoc, append-nil, map_push}
use Rattle.spv_logic.specs.declared.conditions.TermId.{TermId}
use Rattle.spv_logic.specs.Terms.{Term, term_eq}
use Rattle.spv_logic.proofs.Equality.{term_eq-refl}
use Rattle.spv_schemas.specs.Facts.{schema_fact}
use Rattle.spv_schemas.specs.Instances.{instance_fact}
use Rattle.spv_term.specs.Arena.{Arena, AllBelow, Extends, tree, trees_of}
use Rattle.spv_term.proofs.ArenaLemmas.{Extends-refl, Extends-trans, AllBelow-Extends, map_tree-Extends}
use Rattle.spv_term.proofs.TreeLemmas.{AllBelow-append}
use Rattle.spv_atoms.proofs.Members.{has-right, or_left}
use Rattle.spv_proof_rules.specs.Stops.{all_kept, layers, layers_if}
use Rattle.spv_models.specs.leaf_models.Subterms.{is_among}
use Rattle.spv_fact_search.specs.Enlarging.{GainsParts}
use Rattle.spv_fact_search.proofs.Counting.{all_kept-among, layers-among}
use Rattle.spv_proof.specs.declared.schema_facts.listing.Instance.{Instance}
use Rattle.spv_proof.specs.schema_facts.Instances.{AllIn, instance_in}

abbrev pub facts_in : Arena → List Instance → List Term
facts_in a found = filter_map (instance_fact a.shapes a.decls) (map (instance_in a) found)

-- what was made, and what is left of the instances, come to all of them
pub record Making (start now : Arena) (found : List Instance) (made : List TermId) (rest : List Instance) : Type 0 where
  pub grows : Extends start now
  pub in_range : AllBelow (length now.nodes) made
  pub facts : map (tree now) made ++ facts_in start rest ≡ facts_in start found
  pub rest_in : AllIn start rest
  pub parts : GainsParts start (facts_in start found) now

pub making-starts : (start : Arena) (found : List Instance) → AllIn start found → Making start start found [] found
making-starts start found h = record { grows = Extends-refl start; in_range = tt; facts = refl; rest_in = h; parts = λ all inside there facts. there }

module _ (start now : Arena) (found : List Instance) (made : List TermId) (rest : List Instance) (x : Instance) (others : List Instance) (is : rest ≡ x ∷ others) (m : Making start now found made rest) where
  next : Making start now found made (x ∷ others)
  next = subst (Making start now found made) is m

  pub next-about : AllBelow (length now.nodes) x.about
  next-about = AllBelow-Extends next.grows x.about next.rest_in.0

  module _ (new : Arena) (more : Extends now new) (r : Option TermId) (said : option_map (tree new) r ≡ schema_fact now.shapes now.decls x.kind (map (tree now) x.about) x.field)
      (gained : all_kept now.most (trees_of now.nodes) (layers_if (schema_fact now.shapes now.decls x.kind (map (tree now) x.about) x.field)) ≡ Ok (trees_of new.nodes)) where
    -- the fact is that of the instance where the making began
    fact_there : option_map (tree new) r ≡ instance_fact start.shapes start.decls (instance_in start x)
    fact_there = said ∙ (λ i. schema_fact (next.grows.shapes i) (next.grows.decls i) x.kind (map_tree-Extends next.grows x.about next.rest_in.0 i) x.field)

    kept : map (tree new) made ≡ map (tree now) made
    kept = map_tree-Extends more made next.in_range

    gained_there : all_kept now.most (trees_of now.nodes) (layers_if (option_map (tree new) r)) ≡ Ok (trees_of new.nodes)
    gained_there = ap (λ (o : Option Term). all_kept now.most (trees_of now.nodes) (layers_if o)) said ∙ gained

    pub none-made : r ≡ None → Making start new found made others
    none-made none = record {
      grows = Extends-trans next.grows more;
      in_range = AllBelow-Extends more made next.in_range;
      facts =
          let nothing : instance_fact start.shapes start.decls (instance_in start x) ≡ None = sym fact_there ∙ ap (option_map (tree new)) none in
          let left : facts_in start (x ∷ others) ≡ facts_in start others = ap (λ (o : Option Term). cons_option o (facts_in start others)) nothing in
          (λ i. kept i ++ sym left i) ∙ next.facts;
      rest_in = next.rest_in.1;
      parts = λ all inside there facts.
          all_kept-among now.most all (trees_of now.nodes) [] (trees_of new.nodes) (next.parts all inside there facts) (λ u h. absurd (false≢true h))
          (ap (λ (o : Option TermId). all_kept now.most (trees_of now.nodes) (layers_if (option_map (tree new) o))) (sym none) ∙ gained_there);
    }

    pub one-made : (t : TermId) → r ≡ Some t → t.0 < length new.nodes → Making start new found (made ++ t ∷ []) others
    one-made t some within = record {
      grows = Extends-trans next.grows more;
      in_range = AllBelow-append (length new.nodes) made (t ∷ []) (AllBelow-Extends more made next.in_range) (within, tt);
      facts =
          let there : instance_fact start.shapes start.decls (instance_in start x) ≡ Some (tree new t) = sym fact_there ∙ ap (option_map (tree new)) some in
          let left : facts_in start (x ∷ others) ≡ tree new t ∷ facts_in start others = ap (λ (o : Option Term). cons_option o (facts_in start others)) there in
          ap (λ ts. ts ++ facts_in start others) (map_push (tree new) made t)
          ∙ append_assoc (map (tree new) made) (tree new t ∷ []) (facts_in start others)
          ∙ (λ i. kept i ++ sym left i) ∙ next.facts;
      rest_in = next.rest_in.1;
      parts = λ all inside there facts.
          let here : facts_in start (x ∷ others) ≡ tree new t ∷ facts_in start others = ap (λ (o : Option Term). cons_option o (facts_in start others)) (sym fact_there ∙ ap (option_map (tree new)) some) in
          let first : is_among (tree new t ∷ facts_in start others) (tree new t) ≡ true = or_left (term_eq (tree new t) (tree new t)) (is_among (facts_in start others) (tree new t)) (term_eq-refl (tree new t)) in
          let own : is_among all (tree new t) ≡ true =
          facts (tree new t) (subst (λ (fs : List Term). is_among fs (tree new t) ≡ true) next.facts
          (has-right (map (tree now) made) (facts_in start (x ∷ others)) (tree new t) (ap (λ (fs : List Term). is_among fs (tree new t)) here ∙ first))) in
          all_kept-among now.most all (trees_of now.nodes) (layers (tree new t)) (trees_of new.nodes) (next.parts all inside there facts) (layers-among all inside (tree new t) own)
          (ap (λ (o : Option TermId). all_kept now.most (trees_of now.nodes) (layers_if (option_map (tree new) o))) (sym some) ∙ gained_there);
    }

-- nothing is left
pub making-ends : (start now : Arena) (found : List Instance) (made : List TermId) (rest : List Instance) → rest ≡ [] → Making start now found made rest → map (tree now) made ≡ facts_in start found
making-ends start now found made rest none m =
    let last : Making start now found made [] = subst (Making start now found made) none m in
    sym (append-nil (map (tree now) made)) ∙ last.facts
