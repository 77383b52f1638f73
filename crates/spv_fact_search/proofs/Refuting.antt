-- A condition in an arena of its own, with what is refuted with it.
use Rattle.std.proofs.Common.{◌≡◌, ◌<◌, true, ◌||◌, List, [], ◌∷◌, ◌++◌, map, length, is_some, IsSome, sym, ap, ◌∙◌, subst, arith}
use Rattle.std.proofs.lemmas.List.{map-append}
use Rattle.spv_logic.specs.declared.conditions.TermId.{TermId}
use Rattle.spv_logic.specs.declared.types.Sort.TheVariants as sort
use Rattle.spv_logic.specs.declared.types.Sort.{Sort}
use Rattle.spv_logic.specs.declared.operators.Head.TheVariants.{False, Not}
use Rattle.spv_logic.specs.Terms.{Term, term, no_terms, term_eq}
use Rattle.spv_logic.specs.Formulas.{negation}
use Rattle.spv_logic.specs.Conditions.{Sequent}
use Rattle.spv_logic.specs.Sorts.{result_sort}
use Rattle.spv_logic.proofs.Equality.{sort_eq-true, term_eq-refl}
use Rattle.spv_schemas.specs.Instances.{schema_facts}
use Rattle.spv_term.specs.declared.nodes.Condition.{Condition}
use Rattle.spv_term.specs.Arena.{Arena, IsArena, AllBelow, Extends, tree, trees, sort_at, sorts_at}
use Rattle.spv_term.proofs.ArenaLemmas.{IsWellSorted-arena, Extends-trans, AllBelow-Extends, map_tree-Extends, tree-Extends, length-Extends}
use Rattle.spv_term.proofs.TreeLemmas.{AllBelow-append}
use Rattle.spv_atoms.specs.Atoms.{has_sort, is_truth}
use Rattle.spv_atoms.proofs.Members.{or_right}
use Rattle.spv_proof_rules.specs.Stand.{question}
use Rattle.spv_models.specs.leaf_models.Laws.{AreFormulas}
use Rattle.spv_models.specs.leaf_models.Subterms.{is_among, subterms}
use Rattle.spv_models.specs.leaf_models.Tables.{formulas_of}
use Rattle.spv_search_terms.specs.condition_copy.Copies.{IsSameClaim, StandsFor}
use Rattle.spv_verdicts.specs.Schemas.{further_facts}
use Rattle.spv_fact_search.specs.Enlarging.{IsEnlarged}

-- ---- that the goal is false

among-last : (ts : List Term) (t : Term) → is_among (ts ++ t ∷ []) t ≡ true
among-last [] t = ap (λ b. b || is_among [] t) (term_eq-refl t)
among-last (s ∷ ts) t = or_right (term_eq t s) (is_among (ts ++ t ∷ []) t) (among-last ts t)

-- the negation of a formula is well sorted
pub may-deny : (a : Arena) → IsArena a → (t : TermId) → t.0 < length a.nodes → is_truth a.shapes a.decls (tree a t) ≡ true → IsSome (result_sort a.shapes a.decls Not (sorts_at a (t ∷ [])))
may-deny a ok t h truth =
    let s : sort_at a t ≡ sort.Bool = sort_eq-true (sort_at a t) sort.Bool (sym (ap (has_sort sort.Bool) (IsWellSorted-arena a ok t h)) ∙ truth) in
    ap (λ (x : Sort). is_some (result_sort a.shapes a.decls Not (x ∷ []))) s

module _ (a : Arena) (c : Condition) (k : Arena) (d : Condition) (same : IsSameClaim a c k d) (same_shapes : k.shapes ≡ a.shapes) (same_decls : k.decls ≡ a.decls) (b : Arena) (grows : Extends k b) where
  goal_there : tree b d.goal ≡ tree a c.goal
  goal_there = tree-Extends grows d.goal same.goal_in ∙ ap (λ (s : Sequent). s.goal) same.claim

  pub goal-denied : IsArena b → AreFormulas a.shapes a.decls (formulas_of (question a c).sequent) → IsSome (result_sort b.shapes b.decls Not (sorts_at b (d.goal ∷ [])))
  goal-denied ok formulas =
      may-deny b ok d.goal (omega (arith, same.goal_in, length-Extends grows))
      ((λ i. is_truth ((grows.shapes ∙ same_shapes) i) ((grows.decls ∙ same_decls) i) (goal_there i)) ∙ formulas (tree a c.goal) (among-last (map (tree a) c.given) (tree a c.goal)))

  -- ---- all that is refuted

  module _ (facts : List TermId) (facts_are : map (tree b) facts ≡ further_facts (question k d)) (facts_in : AllBelow (length b.nodes) facts)
      (n : Arena) (more : Extends b n) (x : TermId) (x_in : x.0 < length n.nodes) (x_is : tree n x ≡ term Not (trees b (d.goal ∷ [])))
      (f : TermId) (falsity : StandsFor k f (term False no_terms)) (given : List TermId) (given_is : given ≡ d.given ++ x ∷ facts) where
    all : Extends k n
    all = Extends-trans grows more

    hypotheses : map (tree n) d.given ≡ map (tree a) c.given
    hypotheses = map_tree-Extends all d.given same.given_in ∙ ap (λ (s : Sequent). s.given) same.claim

    denied : tree n x ≡ negation (tree a c.goal)
    denied = x_is ∙ ap (λ (t : Term). negation t) goal_there

    further : map (tree n) facts ≡ further_facts (question a c)
    further = map_tree-Extends more facts facts_in ∙ facts_are ∙ (λ i. schema_facts (same_shapes i) (same_decls i) (subterms (formulas_of (same.claim i))))

    pub enlarges : IsEnlarged a c n (record { given = given; goal = f; origin = d.origin })
    enlarges = record {
      given_in = subst (AllBelow (length n.nodes)) (sym given_is) (AllBelow-append (length n.nodes) d.given (x ∷ facts) (AllBelow-Extends all d.given same.given_in) (x_in, AllBelow-Extends more facts facts_in));
      goal_in = omega (arith, falsity.there, length-Extends all);
      claim =
          let its : map (tree n) given ≡ map (tree a) c.given ++ negation (tree a c.goal) ∷ further_facts (question a c) =
          ap (map (tree n)) given_is ∙ map-append (tree n) d.given (x ∷ facts) ∙ (λ i. hypotheses i ++ denied i ∷ further i) in
          λ i. record { given = its i; goal = (tree-Extends all f falsity.there ∙ falsity.is) i };
      origin = same.origin;
      shapes = all.shapes ∙ same_shapes;
      decls = all.decls ∙ same_decls;
    }
