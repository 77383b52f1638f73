-- The subterms, the atoms and the questions of a search, over plain variables.
use Rattle.std.proofs.Common.{◌≡◌, ℕ, ◌<◌, Bool, List, [], ◌∷◌, ◌++◌, map, length, refl, sym, ap, ◌∙◌, subst}
use Rattle.std.specs.List.{flat_map}
use Rattle.std.proofs.lemmas.List.{map-append}
use Rattle.spv_logic.specs.declared.conditions.TermId.{TermId}
use Rattle.spv_logic.specs.Terms.{Term}
use Rattle.spv_term.specs.declared.nodes.Condition.{Condition}
use Rattle.spv_term.specs.Arena.{Arena, AllBelow, tree, trees_of, Extends}
use Rattle.spv_term.proofs.ArenaLemmas.{map_tree-Extends, tree-Extends, AllBelow-Extends}
use Rattle.spv_atoms.specs.Atoms.{is_truth, is_atom, with_terms}
use Rattle.spv_atoms.specs.Order.{passing}
use Rattle.spv_models.specs.leaf_models.Atoms as search
use Rattle.spv_models.specs.leaf_models.Atoms.{all_equations, is_open}
use Rattle.spv_models.specs.leaf_models.Subterms.{subterms, is_listed}
use Rattle.spv_search_terms.specs.subterms.Gaining.{Stops}
use Rattle.spv_search_terms.specs.head_index.Chains.{heads, AreChained}
use Rattle.spv_search_terms.specs.declared.split_candidates.asking.Questions.{Questions}
use Rattle.spv_search_terms.specs.declared.split_candidates.asking.Gathered.{Gathered}
use Rattle.spv_search_terms.specs.split_candidates.Equating.{GainsAtoms}
use Rattle.spv_search_terms.specs.split_candidates.Adding.{asked_of}
use Rattle.spv_search_terms.specs.split_candidates.Asking.{formulas, IsAsked, IsGathered, AreEquated, IsCompleted}
use Rattle.spv_search_terms.proofs.split_candidates.AddLemmas.{asked-is, passing-alone}

-- ---- the whole

module _ (a : Arena) (c : Condition) where
  abbrev parts : List Term
  parts = subterms (formulas a c)

  pub roots_in : (n : ℕ) (roots slice : List TermId) → roots ≡ c.given ++ c.goal ∷ [] → slice ≡ roots → AllBelow n c.given → c.goal.0 < n → AllBelow n slice
  roots_in n roots slice e f h k = subst (AllBelow n) (sym (f ∙ e)) (behind n c.given h)
    where
      behind : (m : ℕ) (ts : List TermId) → AllBelow n ts → AllBelow n (ts ++ c.goal ∷ [])
      behind m [] g = (k, tt)
      behind m (t ∷ ts) g = (g.0, behind m ts g.1)

  pub gathered : (roots slice ids items : List TermId) (listed : List Bool) (next : List ℕ) (g : Gathered) → roots ≡ c.given ++ c.goal ∷ [] → slice ≡ roots → map (tree a) ids ≡ subterms (map (tree a) slice) → AllBelow (length a.nodes) ids
      → listed ≡ map (λ t. is_listed (tree a t)) ids → items ≡ ids → AreChained (heads a items) next → g.subterms ≡ ids → g.listed.items ≡ listed → g.next.items ≡ next → IsGathered a c g
  gathered roots slice ids items listed next g e f order inside flags same chained is_ids is_listed_too is_next =
      let subs : map (tree a) ids ≡ parts = order ∙ ap subterms (ap (map (tree a)) (f ∙ e) ∙ map-append (tree a) c.given (c.goal ∷ [])) in
      record {
        subterms = ap (map (tree a)) is_ids ∙ subs;
        in_range = subst (AllBelow (length a.nodes)) (sym is_ids) inside;
        listed = is_listed_too ∙ (flags ∙ ap (map (λ t. is_listed (tree a t))) (sym is_ids));
        next = subst (λ (us : List TermId). AreChained (heads a us) g.next.items) (same ∙ sym is_ids) (subst (AreChained (heads a items)) (sym is_next) chained);
      }

  pub are_equated : (b : Arena) (g : Gathered) (slice out first last : List TermId) → IsGathered a c g → slice ≡ g.subterms → out ≡ [] → map (tree a) first ≡ with_terms (map (tree a) out) (passing (is_atom (is_truth a.shapes a.decls)) (map (tree a) slice))
      → GainsAtoms a first b last (all_equations a.shapes a.decls (map (tree a) slice)) → AreEquated a c b last
  are_equated b g slice out first last gath same empty added gains =
      let subs : map (tree a) slice ≡ parts = ap (map (tree a)) same ∙ gath.subterms in
      let first_are : map (tree a) first ≡ passing (is_atom (is_truth a.shapes a.decls)) parts =
      added ∙ ((λ i. with_terms (map (tree a) (empty i)) (passing (is_atom (is_truth a.shapes a.decls)) (subs i))) ∙ passing-alone (is_atom (is_truth a.shapes a.decls)) (formulas a c)) in
      record {
        atoms = gains.atoms ∙ (λ i. with_terms (first_are i) (all_equations a.shapes a.decls (subs i)));
        in_range = gains.in_range;
        terms = gains.gains.terms ∙ ap (λ xs. with_terms (trees_of a.nodes) (all_equations a.shapes a.decls xs)) subs;
      }

  pub equated_stops : (g : Gathered) (slice : List TermId) → IsGathered a c g → slice ≡ g.subterms → Stops a (all_equations a.shapes a.decls (map (tree a) slice)) → Stops a (all_equations a.shapes a.decls parts)
  equated_stops g slice gath same s = subst (λ xs. Stops a (all_equations a.shapes a.decls xs)) (ap (map (tree a)) same ∙ gath.subterms) s

  pub are_asked : (b : Arena) (g : Gathered) (ids : List TermId) (q : Questions) → Extends a b → IsGathered a c g → AreEquated a c b ids → IsCompleted b g ids q → IsAsked a c b q
  are_asked b g ids q more gath eq done =
      let subs : map (tree b) g.subterms ≡ parts = map_tree-Extends more g.subterms gath.in_range ∙ gath.subterms in
      record {
        subterms = ap (map (tree b)) done.subterms ∙ subs;
        subterms_in = subst (AllBelow (length b.nodes)) (sym done.subterms) (AllBelow-Extends more g.subterms gath.in_range);
        listed = done.listed ∙ (gath.listed ∙ (listed_on g.subterms gath.in_range ∙ ap (map (λ t. is_listed (tree b t))) (sym done.subterms)));
        atoms = ap (map (tree b)) done.are_atoms ∙ eq.atoms;
        atoms_in = subst (AllBelow (length b.nodes)) (sym done.are_atoms) eq.in_range;
        questions =
            done.questions
            ∙ ((λ i. with_terms (eq.atoms i) (flat_map (asked_of (is_truth (more.shapes i) (more.decls i))) (subs i)))
            ∙ ap (with_terms (search.atoms a.shapes a.decls (formulas a c))) (asked-is (is_truth a.shapes a.decls) parts));
        questions_in = done.in_range;
        terms = eq.terms;
      }
    where
      listed_on : (ts : List TermId) → AllBelow (length a.nodes) ts → map (λ t. is_listed (tree a t)) ts ≡ map (λ t. is_listed (tree b t)) ts
      listed_on [] h = refl
      listed_on (t ∷ ts) h =
          let first = ap is_listed (sym (tree-Extends more t h.0)) in
          let others = listed_on ts h.1 in
          λ i. first i ∷ others i
