-- What is told by a literal.
use Rattle.std.proofs.Common.{◌≡◌, ℕ, Bool, true, false, cond, ◌&&◌, List, [], ◌∷◌, ◌++◌, refl, ap, ◌∙◌, Option, Some, None, append_assoc, inl, inr}
use Rattle.std.specs.Prelude.{slice_get}
use Rattle.spv_logic.specs.declared.conditions.TermId.{TermId}
use Rattle.spv_logic.specs.declared.operators.Head.{Head}
use Rattle.spv_logic.specs.declared.operators.Head.TheVariants.{Eq}
use Rattle.spv_logic.specs.Formulas.{negation, equation, below}
use Rattle.spv_logic.specs.Terms.{Term, Terms, term, no_terms, terms}
use Rattle.spv_term.specs.declared.nodes.Node.{Node}
use Rattle.spv_term.specs.Arena.{Arena, IsArena, tree, trees}
use Rattle.spv_term.proofs.ArenaLemmas.{tree-node}
use Rattle.spv_congruence.specs.declared.facts.Fact.{Fact}
use Rattle.spv_congruence.specs.Graph.{Graph, AreTerms}
use Rattle.spv_congruence.specs.Keep.{IsNode}
use Rattle.spv_congruence.specs.Told.{IsOf}
use Rattle.spv_proof_rules.specs.Sums.{pair}
use Rattle.spv_proof_rules.specs.Evaluation.{sides}
use Rattle.spv_derivations.specs.declared.derivation.entries.Part.{Part}
use Rattle.spv_derivations.specs.declared.derivation.entries.Part.TheVariants.{True, False, Below, Above}
use Rattle.spv_derivations.specs.declared.derivation.entries.Entry.{Entry}
use Rattle.spv_derivations.specs.derivation.Derivation as derivation
use Rattle.spv_atoms.specs.Atoms as atoms
use Rattle.spv_derivations.specs.derivation.Derivation.{PartFits, fact_at, literal, are_numbers}
use Rattle.spv_derivations.specs.derivation.Derived.{IsApart, IsFormula, is_truth}
use Rattle.spv_derivations.specs.derivation.Sides.{Pair, node_sides, sides_under, two_of}
use Rattle.spv_explanations.specs.congruence_side.Telling.{Tie, equation_sides, ties, tie_of, unless_truths}
use Rattle.std.proofs.lemmas.Bool.{false≢true}
use Rattle.spv_explanations.specs.congruence_side.Holding.{IsBackedFact, IsOrder}

pub ties_push : (old new : List Fact) (x : Fact) → new ≡ old ++ x ∷ [] → ties new ≡ ties old ++ tie_of x ∷ []
ties_push old new x e = ap ties e ∙ push old x
  where
    push : (xs : List Fact) (x : Fact) → ties (xs ++ x ∷ []) ≡ ties xs ++ tie_of x ∷ []
    push [] x = refl
    push (y ∷ xs) x = ap (λ ts. tie_of y ∷ ts) (push xs x)

pub ties_then : (old mid new first more : List Tie) → mid ≡ old ++ first → new ≡ mid ++ more → new ≡ old ++ (first ++ more)
ties_then old mid new first more e f = f ∙ (ap (λ ts. ts ++ more) e ∙ append_assoc old first more)

-- ---- sides

module _ (a : Arena) where
  some_sides : (o : Option Pair) (p : Pair) → unless_truths a o ≡ Some p → o ≡ Some p
  some_sides None p e = absurd (cc)
  some_sides (Some st) p e = by_case (is_truth a (tree a st.0) && is_truth a (tree a st.1)) e
    where
      by_case : (b : Bool) → cond b None (Some st) ≡ Some p → Some st ≡ Some p
      by_case true f = absurd (cc)
      by_case false f = f

  -- the sides of an equation are those of its node
  pub sides-node : (t : TermId) (p : Pair) → equation_sides a t ≡ Some p → node_sides (slice_get a.nodes t.0) ≡ Some p
  sides-node t p e = some_sides (node_sides (slice_get a.nodes t.0)) p e

  two_are : (ts : List TermId) (p : Pair) → two_of ts ≡ Some p → ts ≡ p.0 ∷ p.1 ∷ []
  two_are [] p e = absurd (cc)
  two_are (s ∷ []) p e = absurd (cc)
  two_are (s ∷ t ∷ []) p e = let first : s ≡ p.0 = cc in let second : t ≡ p.1 = cc in ap (λ x. x ∷ t ∷ []) first ∙ ap (λ x. p.0 ∷ x ∷ []) second
  two_are (s ∷ t ∷ u ∷ ts) p e = absurd (cc)

  under_is : (h : Head) (ts : List TermId) (p : Pair) → sides_under h ts ≡ Some p → (h ≡ Eq) × (ts ≡ p.0 ∷ p.1 ∷ [])
  under_is Eq ts p e = (refl, two_are ts p e)
  under_is _ ts p e = absurd (cc)

  -- a node that is an equation
  pub record HasSides (t : TermId) (p : Pair) : Type 0 where
    pub node : Node
    pub at : slice_get a.nodes t.0 ≡ Some node
    pub head : node.head ≡ Eq
    pub args : node.args ≡ p.0 ∷ p.1 ∷ []

  pub has-sides : (t : TermId) (p : Pair) → node_sides (slice_get a.nodes t.0) ≡ Some p → HasSides t p
  has-sides t p e = by_option (slice_get a.nodes t.0) refl e
    where
      by_option : (o : Option Node) → slice_get a.nodes t.0 ≡ o → node_sides o ≡ Some p → HasSides t p
      by_option None at f = absurd (cc)
      by_option (Some n) at f = let is = under_is n.head n.args p f in record { node = n; at = at; head = is.0; args = is.1 }

  pub sides-tree : IsArena a → (t : TermId) (p : Pair) → node_sides (slice_get a.nodes t.0) ≡ Some p → tree a t ≡ equation (tree a p.0) (tree a p.1)
  sides-tree ok t p e =
      let h = has-sides t p e in
      tree-node a ok t h.node h.at ∙ (ap (λ k. term k (trees a h.node.args)) h.head ∙ ap (λ ts. term Eq (trees a ts)) h.args)

  -- the sides of an equation of the graph are in it
  pub sides-nodes : (g : Graph) → IsOf a g → AreTerms g.nodes g.added → (t : TermId) (p : Pair) → IsNode g.nodes t → node_sides (slice_get a.nodes t.0) ≡ Some p → IsNode g.nodes p.0 × IsNode g.nodes p.1
  sides-nodes g of are t p k e =
      let h = has-sides t p e in
      let same : k.0 ≡ h.node = node_same (of.node t k.0 k.1) h.at in
      let early = are.listed t k.0 k.1 in
      let args : k.0.args ≡ p.0 ∷ p.1 ∷ [] = ap (λ (n : Node). n.args) same ∙ h.args in
      let first = are.args early.place t k.0 early.there k.1 0 p.0 (ap (λ ts. slice_get ts 0) args) in
      let second = are.args early.place t k.0 early.there k.1 1 p.1 (ap (λ ts. slice_get ts 1) args) in
      (are.noded first.place p.0 first.there, are.noded second.place p.1 second.there)
    where
      node_same : {m n : Node} {o : Option Node} → o ≡ Some m → o ≡ Some n → m ≡ n
      node_same at other = cc

  -- a fact that denies an equation backs that its sides are separate
  pub backed_apart : IsArena a → (es : List Entry) (t : TermId) (k : ℕ) (p : Pair) → fact_at a es k ≡ Some (negation (tree a t)) → equation_sides a t ≡ Some p → IsBackedFact a es (record { left = p.0; right = p.1; why = k; equal = false })
  backed_apart ok es t k p fact e = record {
    equal = λ f. absurd (false≢true f);
    apart = λ f. fact ∙ ap (λ x. Some (negation x)) (sides-tree ok t p (sides-node t p e));
  }

  -- ---- orders

  pair_is : (ts : Terms) (st : Term × Term) → pair ts ≡ Some st → ts ≡ terms st.0 (terms st.1 no_terms)
  pair_is no_terms st e = absurd (cc)
  pair_is (terms s no_terms) st e = absurd (cc)
  pair_is (terms s (terms t no_terms)) st e =
      let first : s ≡ st.0 = cc in
      let second : t ≡ st.1 = cc in
      ap (λ x. terms x (terms t no_terms)) first ∙ ap (λ x. terms st.0 (terms x no_terms)) second
  pair_is (terms s (terms t (terms u ts))) st e = absurd (cc)

  sides-equation : (t : Term) (st : Term × Term) → sides t ≡ Some st → t ≡ equation st.0 st.1
  sides-equation (term Eq ts) st e = ap (term Eq) (pair_is ts st e)
  sides-equation (term _ ts) st e = absurd (cc)

  -- a fact that puts one side below the other
  pub order-apart : (es : List Entry) (t : TermId) (part : Part) (k : ℕ) → IsFormula a t → IsOrder part → PartFits a t part → fact_at a es k ≡ Some (literal (tree a t) part) → IsApart a es t k
  order-apart es t True k f o fits at = absurd o
  order-apart es t False k f o fits at = absurd o
  order-apart es t Below k f o fits at = by_sides (sides (tree a t)) refl fits
    where
      by_sides : (x : Option (Term × Term)) → sides (tree a t) ≡ x → are_numbers (λ u. atoms.is_number a.shapes a.decls u) x ≡ true → IsApart a es t k
      by_sides None e n = absurd (cc)
      by_sides (Some st) e n = record {
        formula = f;
        left = st.0;
        right = st.1;
        is = sides-equation (tree a t) st e;
        order = inl (at ∙ ap (λ y. Some (derivation.by_sides below y (tree a t))) e);
      }
  order-apart es t Above k f o fits at = by_sides (sides (tree a t)) refl fits
    where
      by_sides : (x : Option (Term × Term)) → sides (tree a t) ≡ x → are_numbers (λ u. atoms.is_number a.shapes a.decls u) x ≡ true → IsApart a es t k
      by_sides None e n = absurd (cc)
      by_sides (Some st) e n = record {
        formula = f;
        left = st.0;
        right = st.1;
        is = sides-equation (tree a t) st e;
        order = inr (at ∙ ap (λ y. Some (derivation.by_sides (λ v w. below w v) y (tree a t))) e);
      }
