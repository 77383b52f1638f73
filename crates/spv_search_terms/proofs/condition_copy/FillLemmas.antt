-- A condition with its terms, and four more, over plain variables.
use Rattle.std.proofs.Common.{◌≡◌, ℕ, ◌<◌, List, [], ◌∷◌, ◌++◌, map, take, length, sym, ap, ◌∙◌, subst, pos, arith}
use Rattle.std.proofs.lemmas.List.{length-map, map-append, take_all}
use Rattle.spv_logic.specs.declared.conditions.TermId.{TermId}
use Rattle.spv_logic.specs.declared.operators.Head.TheVariants.{Num, True, False}
use Rattle.spv_logic.specs.Terms.{Term, term, no_terms}
use Rattle.spv_term.specs.declared.nodes.Condition.{Condition}
use Rattle.spv_term.specs.Arena.{Arena, AllBelow, tree, trees_of, sequent, Extends}
use Rattle.spv_term.proofs.ArenaLemmas.{length-Extends, tree-Extends, Extends-trans}
use Rattle.spv_term.proofs.TreeLemmas.{AllBelow-append}
use Rattle.spv_atoms.specs.Atoms.{with_terms}
use Rattle.spv_atoms.specs.Found.{IsReady, AreReady}
use Rattle.spv_atoms.proofs.Members.{with_terms-append}
use Rattle.spv_models.specs.leaf_models.Subterms.{subterms}
use Rattle.spv_models.specs.leaf_models.Tables.{formulas_of}
use Rattle.spv_search_terms.specs.subterms.Gaining.{Gains, Stops}
use Rattle.spv_search_terms.proofs.subterms.GainLemmas.{Gains-trans, Stops-left, Stops-behind}
use Rattle.spv_search_terms.specs.declared.condition_copy.filling.Base.{Base}
use Rattle.spv_search_terms.specs.declared.condition_copy.filling.Filled.{Filled}
use Rattle.spv_search_terms.specs.condition_copy.Copies.{base_terms, all_terms, StandsFor, IsBase, IsSameClaim, IsCopy, IsFilled, IsEmptyOver, image_in, AreImages}
use Rattle.spv_search_terms.proofs.condition_copy.CopyLemmas.{images-below, images-map}

-- ---- 0, 1, TRUE and FALSE

abbrev zero_term : Term
zero_term = term (Num (pos 0)) no_terms

abbrev one_term : Term
one_term = term (Num (pos 1)) no_terms

abbrev true_term : Term
true_term = term True no_terms

abbrev false_term : Term
false_term = term False no_terms

stands_on : (a b : Arena) → Extends a b → (t : TermId) (x : Term) → StandsFor a t x → StandsFor b t x
stands_on a b more t x s =
    let longer = length-Extends more in
    let there = s.there in
    record { there = omega (arith, longer, there); is = tree-Extends more t there ∙ s.is }

pub base_on : (a b : Arena) (e : Base) → Extends a b → IsBase a e → IsBase b e
base_on a b e more s = record {
  zero = stands_on a b more e.zero zero_term s.zero;
  one = stands_on a b more e.one one_term s.one;
  truth = stands_on a b more e.truth true_term s.truth;
  falsity = stands_on a b more e.falsity false_term s.falsity;
}

pub base_made : (b c d e : Arena) → Extends b c → Extends c d → Extends d e → (z o t s : TermId) → z.0 < length b.nodes → tree b z ≡ zero_term → o.0 < length c.nodes → tree c o ≡ one_term → t.0 < length d.nodes → tree d t ≡ true_term
    → s.0 < length e.nodes → tree e s ≡ false_term → IsBase e (record { zero = z; one = o; truth = t; falsity = s })
base_made b c d e g h k z o t s zi zt oi ot ti tt si st = record {
  zero = stands_on b e (Extends-trans g (Extends-trans h k)) z zero_term (record { there = zi; is = zt });
  one = stands_on c e (Extends-trans h k) o one_term (record { there = oi; is = ot });
  truth = stands_on d e k t true_term (record { there = ti; is = tt });
  falsity = record { there = si; is = st };
}

-- ---- the condition

pub roots_in : (n : ℕ) (c : Condition) (roots slice : List TermId) → roots ≡ c.given ++ c.goal ∷ [] → slice ≡ roots → AllBelow n c.given → c.goal.0 < n → AllBelow n slice
roots_in n c roots slice e f h k = subst (AllBelow n) (sym (f ∙ e)) (AllBelow-append n c.given (c.goal ∷ []) h (k, tt))

module _ (a : Arena) (c : Condition) where
  abbrev formulas : List Term
  formulas = formulas_of (sequent a c)

  pub order_is : (roots slice ids : List TermId) → roots ≡ c.given ++ c.goal ∷ [] → slice ≡ roots → map (tree a) ids ≡ subterms (map (tree a) slice) → map (tree a) ids ≡ subterms formulas
  order_is roots slice ids e f g = g ∙ ap subterms (ap (map (tree a)) (f ∙ e) ∙ map-append (tree a) c.given (c.goal ∷ []))

  pub fill_gained : (n0 n1 n2 : Arena) (ids : List TermId) → map (tree a) ids ≡ subterms formulas → Gains n0 n1 base_terms → Gains n1 n2 (map (tree a) ids) → Gains n0 n2 (base_terms ++ subterms formulas)
  fill_gained n0 n1 n2 ids e f g = Gains-trans n0 n1 n2 base_terms (subterms formulas) f (subst (Gains n1 n2) e g)

  pub fill_stops_first : (n0 : Arena) → Stops n0 base_terms → Stops n0 (base_terms ++ subterms formulas)
  fill_stops_first n0 s = Stops-left n0 base_terms (subterms formulas) s

  pub fill_stops : (n0 n1 : Arena) (ids : List TermId) → map (tree a) ids ≡ subterms formulas → Gains n0 n1 base_terms → Stops n1 (map (tree a) ids) → Stops n0 (base_terms ++ subterms formulas)
  fill_stops n0 n1 ids e f s = Stops-behind n0 n1 base_terms (subterms formulas) f (subst (Stops n1) e s)

  ready_given : (ids : List TermId) (k : ℕ) (ts : List TermId) (t : TermId) → AreReady ids k (ts ++ t ∷ []) → AreReady ids k ts × IsReady ids k t
  ready_given ids k [] t r = (tt, r.0)
  ready_given ids k (u ∷ ts) t r = let others = ready_given ids k ts t r.1 in ((r.0, others.0), others.1)

  pub as_many : (b : Arena) (ids images : List TermId) → AreImages a ids b images (length ids) → length ids ≡ length images
  as_many b ids images im =
      sym (sym (length-map images (tree b)) ∙ (ap length im.trees ∙ (length-map (take (length ids) ids) (tree a) ∙ ap length (take_all (length ids) ids (omega arith)))))

  pub claim_same : (b : Arena) (d : Condition) (roots slice ids images given_images : List TermId) → roots ≡ c.given ++ c.goal ∷ [] → slice ≡ roots → given_images ≡ images → AreReady ids (length ids) slice → AreImages a ids b images (length ids)
      → d.given ≡ map (image_in ids given_images) c.given → d.goal ≡ image_in ids given_images c.goal → d.origin ≡ c.origin → IsSameClaim a c b d
  claim_same b d roots slice ids images given_images e f same ready im given goal origin =
      let many = as_many b ids images im in
      let all : AreImages a ids b images (length images) = subst (AreImages a ids b images) many im in
      let r = ready_given ids (length images) c.given c.goal (subst (λ k. AreReady ids k (c.given ++ c.goal ∷ [])) many (subst (AreReady ids (length ids)) (f ∙ e) ready)) in
      let given_is : d.given ≡ map (image_in ids images) c.given = given ∙ ap (λ (us : List TermId). map (image_in ids us) c.given) same in
      let goal_is : d.goal ≡ image_in ids images c.goal = goal ∙ ap (λ (us : List TermId). image_in ids us c.goal) same in
      let one = images-map a b ids images all (c.goal ∷ []) (r.1, tt) in
      let below = images-below a b ids images all (c.goal ∷ []) (r.1, tt) in
      let givens : map (tree b) d.given ≡ map (tree a) c.given = ap (map (tree b)) given_is ∙ images-map a b ids images all c.given r.0 in
      let goals : tree b d.goal ≡ tree a c.goal = ap (tree b) goal_is ∙ first_same (tree b (image_in ids images c.goal)) (tree a c.goal) one in
      record {
        given_in = subst (AllBelow (length b.nodes)) (sym given_is) (images-below a b ids images all c.given r.0);
        goal_in = subst (λ (t : TermId). t.0 < length b.nodes) (sym goal_is) below.0;
        claim = λ i. record { given = givens i; goal = goals i };
        origin = origin;
      }
    where
      first_same : (x y : Term) → x ∷ [] ≡ y ∷ [] → x ≡ y
      first_same x y e = cc

-- ---- the copy

module _ (a : Arena) (c : Condition) (most : ℕ) (n0 : Arena) (bare : IsEmptyOver a most n0) where
  abbrev wanted : List Term
  wanted = subterms (formulas_of (sequent a c))

  terms_are : with_terms (trees_of n0.nodes) (base_terms ++ wanted) ≡ all_terms (sequent a c)
  terms_are = ap (λ ns. with_terms (trees_of ns) (base_terms ++ wanted)) bare.nodes ∙ with_terms-append [] base_terms wanted

  pub copy_made : (b : Arena) (f : Filled) → Gains n0 b (base_terms ++ wanted) → IsFilled a c b f → IsCopy a c most (record { terms = b; condition = f.condition; base = f.base })
  copy_made b f g filled = record {
    terms = g.terms ∙ terms_are;
    condition = filled.condition;
    base = filled.base;
    most = g.grows.most ∙ bare.most;
    shapes = g.grows.shapes ∙ bare.shapes;
    decls = g.grows.decls ∙ bare.decls;
  }

  pub copy_stops : Stops n0 (base_terms ++ wanted) → most < length (all_terms (sequent a c))
  copy_stops s =
      let more = s.more in
      let same : length (with_terms (trees_of n0.nodes) (base_terms ++ wanted)) ≡ length (all_terms (sequent a c)) = ap length terms_are in
      let limit : n0.most ≡ most = bare.most in
      omega (arith, more, same, limit)
