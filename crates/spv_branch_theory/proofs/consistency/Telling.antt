-- What was told joins and separates.
use Rattle.std.proofs.Common.{◌≡◌, ℕ, ◌<◌, Bool, true, false, cond, ◌&&◌, List, [], ◌∷◌, length, not, nat_eq, ℤ, refl, sym, ap, ◌∙◌, Some, None, inl, inr}
use mathlib.Core.Path.{ap₂}
use Rattle.std.specs.Prelude.{slice_get}
use Rattle.std.specs.Ordering.{int_eq}
use Rattle.std.proofs.lemmas.Bool.{false≢true}
use Rattle.spv_logic.specs.declared.conditions.TermId.{TermId}
use Rattle.spv_logic.specs.declared.operators.Head.{Head}
use Rattle.spv_logic.specs.declared.operators.Head.TheVariants.{Eq, Num, True, False}
use Rattle.spv_logic.specs.Formulas.{equation}
use Rattle.spv_logic.specs.Terms.{Term, Terms, term, no_terms, terms}
use Rattle.spv_logic.proofs.Equality.{int_eq-true, int_eq-refl}
use Rattle.spv_term.specs.declared.nodes.Node.{Node}
use Rattle.spv_term.specs.Arena.{Arena, IsArena, tree, trees}
use Rattle.spv_term.proofs.ArenaLemmas.{node_of, tree-node}
use Rattle.spv_term.specs.closure.Joined as joined
use Rattle.spv_congruence.specs.Clashes.{opposed}
use Rattle.spv_congruence.specs.Graph.{AreTerms, are_same, HasNode}
use Rattle.spv_congruence.specs.Keep.{IsNode}
use Rattle.spv_congruence.specs.Told.{IsExact}
use Rattle.spv_derivations.specs.declared.derivation.entries.Part.{Part}
use Rattle.spv_derivations.specs.declared.derivation.entries.Part.TheVariants as part
use Rattle.spv_derivations.specs.derivation.Sides.{Pair, node_sides, sides_under}
use Rattle.spv_derivations.specs.derivation.Derived.{is_truth}
use Rattle.spv_tableau_rules.proofs.pivots.Algebra.{false_of}
use Rattle.spv_explanations.specs.congruence_side.Holding.{HasNoClash}
use Rattle.spv_explanations.specs.congruence_side.Telling.{Tie, tie_of, literal_ties, equation_sides, unless_truths, value_tie, sides_tie}
use Rattle.spv_share.specs.declared.both.Both.{Both}
use Rattle.spv_share.specs.Both.{IsBoth}
use Rattle.spv_share.proofs.Closing.{tie_fact}
use Rattle.spv_share.proofs.Ties.{told_inside}
use Rattle.spv_congruence.specs.declared.facts.Fact.{Fact}
use Rattle.spv_models.specs.leaf_models.Labels.{HasId}
use Rattle.spv_models.specs.leaf_models.Leaves.{truth_term}
use Rattle.spv_models.specs.split_trees.Paths.{numeral}
use Rattle.spv_share.proofs.combination_laws.Exact.{derived_same, node_listed}
use Rattle.spv_branch_theory.specs.consistency.States.{same_in, IsToldAs, IsDenied, by_itself, by_below, by_above}
use Rattle.spv_branch_theory.proofs.consistency.Sameness.{joined_same, same_joined, same_is, tree_label, IsSame, one, labelled}

-- ---- sides of equations

-- a node whose tree is an equation has its sides
pub record HasTrees (a : Arena) (t : TermId) (x y : Term) : Type 0 where
  pub sides : Pair
  pub node : node_sides (slice_get a.nodes t.0) ≡ Some sides
  pub left : tree a sides.0 ≡ x
  pub right : tree a sides.1 ≡ y

equation_node : (a : Arena) → IsArena a → (t : TermId) → (x y : Term) → t.0 < length a.nodes → tree a t ≡ equation x y → HasTrees a t x y
equation_node a ok t x y inside is =
    let n = node_of a ok t inside in
    by_args n.0.head n.0.args n.0 n.1 refl refl (sym (tree-node a ok t n.0 n.1) ∙ is)
  where
    heads : (h k : Head) (ss us : Terms) → term h ss ≡ term k us → h ≡ k
    heads h k ss us e = cc

    rests : (h k : Head) (ss us : Terms) → term h ss ≡ term k us → ss ≡ us
    rests h k ss us e = cc

    by_args : (h : Head) (ts : List TermId) (n : Node) → slice_get a.nodes t.0 ≡ Some n → n.head ≡ h → n.args ≡ ts → term n.head (trees a n.args) ≡ equation x y → HasTrees a t x y
    by_args h (u ∷ v ∷ []) n at head args e =
        let k : n.head ≡ Eq = heads n.head Eq (trees a n.args) (terms x (terms y no_terms)) e in
        let both : terms (tree a u) (terms (tree a v) no_terms) ≡ terms x (terms y no_terms) = ap (trees a) (sym args) ∙ rests n.head Eq (trees a n.args) (terms x (terms y no_terms)) e in
        record {
          sides = (u, v);
          node = ap node_sides at ∙ ap₂ sides_under k args;
          left = first (tree a u) (tree a v) x y both;
          right = second (tree a u) (tree a v) x y both;
        }
      where
        first : (p q r s : Term) → terms p (terms q no_terms) ≡ terms r (terms s no_terms) → p ≡ r
        first p q r s f = cc

        second : (p q r s : Term) → terms p (terms q no_terms) ≡ terms r (terms s no_terms) → q ≡ s
        second p q r s f = cc
    by_args h [] n at head args e = absurd (none (ap (trees a) (sym args) ∙ rests n.head Eq (trees a n.args) (terms x (terms y no_terms)) e))
      where
        none : no_terms ≡ terms x (terms y no_terms) → ⊥
        none f = cc
    by_args h (u ∷ []) n at head args e = absurd (none (ap (trees a) (sym args) ∙ rests n.head Eq (trees a n.args) (terms x (terms y no_terms)) e))
      where
        none : terms (tree a u) no_terms ≡ terms x (terms y no_terms) → ⊥
        none f = cc
    by_args h (u ∷ v ∷ w ∷ ts) n at head args e = absurd (none (ap (trees a) (sym args) ∙ rests n.head Eq (trees a n.args) (terms x (terms y no_terms)) e))
      where
        none : terms (tree a u) (terms (tree a v) (terms (tree a w) (trees a ts))) ≡ terms x (terms y no_terms) → ⊥
        none f = cc

-- an equation that is no connective has sides that are told
pub sides_told : (a : Arena) (t : TermId) (x y : Term) → (k : HasTrees a t x y) → (is_truth a x && is_truth a y) ≡ false → equation_sides a t ≡ Some k.sides
sides_told a t x y k e =
    ap (unless_truths a) k.node
    ∙ ap (λ c. cond c None (Some k.sides)) (ap₂ (λ p q. is_truth a p && is_truth a q) k.left k.right ∙ e)

-- ---- ties

-- a tie is one of those of the graph's facts
record IsTied (b : Both) (x : Tie) : Type 0 where
  place : ℕ
  fact : Fact
  there : slice_get b.trail.graph.told place ≡ Some fact
  is : tie_of fact ≡ x

module _ (a : Arena) (ok : IsArena a) (b : Both) (h : IsBoth a b) (exact : IsExact b.trail.graph) (terms_are : AreTerms b.trail.graph.nodes b.trail.graph.added) (clash : HasNoClash b.trail.graph) where
  tie_same : (x : Tie) → IsTied b x → x.equal ≡ true → same_in a b (tree a x.left) (tree a x.right) ≡ true
  tie_same x k e =
      let nodes = h.sound.trail.ends.each k.place k.fact k.there in
      let equal : k.fact.equal ≡ true = ap (λ (y : Tie). y.equal) k.is ∙ e in
      let same = derived_same a ok b.trail.graph h.sound.trail.of exact terms_are k.fact.left k.fact.right nodes.0 nodes.1
      (joined.told (tree a k.fact.left) (tree a k.fact.right) (record { left = k.fact.left; right = k.fact.right; told = (k.place, record { fact = k.fact; there = k.there; equal = equal; left = refl; right = refl }); left_is = refl; right_is = refl })) in
      ap₂ (λ u v. same_in a b (tree a u) (tree a v)) (sym (ap (λ (y : Tie). y.left) k.is)) (sym (ap (λ (y : Tie). y.right) k.is)) ∙ joined_same a ok b h exact terms_are k.fact.left k.fact.right nodes.0 nodes.1 same

  tie_apart : (x : Tie) → IsTied b x → x.equal ≡ false → same_in a b (tree a x.left) (tree a x.right) ≡ false
  tie_apart x k e =
      let nodes = h.sound.trail.ends.each k.place k.fact k.there in
      let separate : k.fact.equal ≡ false = ap (λ (y : Tie). y.equal) k.is ∙ e in
      ap₂ (λ u v. same_in a b (tree a u) (tree a v)) (sym (ap (λ (y : Tie). y.left) k.is)) (sym (ap (λ (y : Tie). y.right) k.is))
      ∙ false_of (same_in a b (tree a k.fact.left) (tree a k.fact.right))
      (λ same.
      clash k.fact.left k.fact.right
      (record { same = same_joined a ok b h exact terms_are k.fact.left k.fact.right nodes.0 nodes.1 same; why = inl (record { place = k.place; fact = k.fact; there = k.there; separate = separate; left = refl; right = refl }) }))

  -- the tie of a literal at a place, where it has this part
  tie_at : (t : Term) (p : Part) (k : IsToldAs a b t p) (i : ℕ) (x : Tie) → slice_get (literal_ties a b.trail.truth b.trail.falsity k.told_one.atom p) i ≡ Some x → IsTied b x
  tie_at t p k i x at =
      let z = h.tied.each k.place k.told_one i x k.there (ap (λ r. slice_get (literal_ties a b.trail.truth b.trail.falsity k.told_one.atom r) i) k.part_is ∙ at) in
      let f = tie_fact b.trail.graph.told z.place x z.there in
      record { place = z.place; fact = f.fact; there = f.there; is = f.is }

  -- ---- truths

  pub true_same : (t : Term) → IsToldAs a b t part.True → same_in a b t (truth_term true) ≡ true
  true_same t k = ap₂ (same_in a b) (sym k.atom) (sym h.sound.trail.truth.is) ∙ tie_same (value_tie k.told_one.atom b.trail.truth) (tie_at t part.True k 0 (value_tie k.told_one.atom b.trail.truth) refl) refl

  false_by : (t : Term) (p : Part) (k : IsToldAs a b t p) → slice_get (literal_ties a b.trail.truth b.trail.falsity k.told_one.atom p) 0 ≡ Some (value_tie k.told_one.atom b.trail.falsity) → same_in a b t (truth_term false) ≡ true
  false_by t p k at = ap₂ (same_in a b) (sym k.atom) (sym h.sound.trail.falsity.is) ∙ tie_same (value_tie k.told_one.atom b.trail.falsity) (tie_at t p k 0 (value_tie k.told_one.atom b.trail.falsity) at) refl

  pub false_same : (t : Term) → IsDenied a b t → same_in a b t (truth_term false) ≡ true
  false_same t (by_itself k) = false_by t part.False k refl
  false_same t (by_below x y e k) = false_by t part.Below k refl
  false_same t (by_above x y e k) = false_by t part.Above k refl

  -- ---- sides

  node_trees : (x y : Term) (p : Part) (k : IsToldAs a b (equation x y) p) → HasTrees a k.told_one.atom x y
  node_trees x y p k = equation_node a ok k.told_one.atom x y (told_inside a b.relations.items b.trail.derivation b.claims.items h.claims k.place k.told_one k.there) k.atom

  pub sides_same : (x y : Term) → (k : IsToldAs a b (equation x y) part.True) → (is_truth a x && is_truth a y) ≡ false → same_in a b x y ≡ true
  sides_same x y k e =
      let n = node_trees x y part.True k in
      let sides = sides_told a k.told_one.atom x y n e in
      ap₂ (same_in a b) (sym n.left) (sym n.right)
      ∙ tie_same (record { left = n.sides.0; right = n.sides.1; equal = true })
      (tie_at (equation x y) part.True k 1 (record { left = n.sides.0; right = n.sides.1; equal = true }) (ap (λ o. slice_get (value_tie k.told_one.atom b.trail.truth ∷ sides_tie true o) 1) sides)) refl

  apart_by : (x y : Term) (p : Part) (k : IsToldAs a b (equation x y) p) → (is_truth a x && is_truth a y) ≡ false
      → literal_ties a b.trail.truth b.trail.falsity k.told_one.atom p ≡ value_tie k.told_one.atom b.trail.falsity ∷ sides_tie false (equation_sides a k.told_one.atom) → same_in a b x y ≡ false
  apart_by x y p k e ties_are =
      let n = node_trees x y p k in
      let sides = sides_told a k.told_one.atom x y n e in
      ap₂ (same_in a b) (sym n.left) (sym n.right)
      ∙ tie_apart (record { left = n.sides.0; right = n.sides.1; equal = false })
      (tie_at (equation x y) p k 1 (record { left = n.sides.0; right = n.sides.1; equal = false })
      (ap (λ xs. slice_get xs 1) ties_are ∙ ap (λ o. slice_get (value_tie k.told_one.atom b.trail.falsity ∷ sides_tie false o) 1) sides)) refl

  pub sides_apart : (x y : Term) → IsDenied a b (equation x y) → (is_truth a x && is_truth a y) ≡ false → same_in a b x y ≡ false
  sides_apart x y (by_itself k) e = apart_by x y part.False k e refl
  sides_apart x y (by_below u v is k) e = apart_by x y part.Below k e refl
  sides_apart x y (by_above u v is k) e = apart_by x y part.Above k e refl

  -- ---- numerals and truth values

  record HasHead (t : TermId) (q : Head) : Type 0 where
    node : Node
    there : HasNode b.trail.graph.nodes t node
    head : node.head ≡ q

  head_of_id : (t : TermId) (q : Head) → IsNode b.trail.graph.nodes t → tree a t ≡ term q no_terms → HasHead t q
  head_of_id t q n e = record { node = n.0; there = n.1; head = heads n.0.head q (trees a n.0.args) no_terms (sym (tree-node a ok t n.0 (h.sound.trail.of.node t n.0 n.1)) ∙ e) }
    where
      heads : (r s : Head) (ss us : Terms) → term r ss ≡ term s us → r ≡ s
      heads r s ss us f = cc

  no_opposed : (p r : Head) → opposed p r ≡ true → (s t : TermId) → tree a s ≡ term p no_terms → tree a t ≡ term r no_terms → IsNode b.trail.graph.nodes s → IsNode b.trail.graph.nodes t → are_same b.trail.graph s t ≡ true → ⊥
  no_opposed p r o s t is_s is_t ms mt same =
      let m = head_of_id s p ms is_s in
      let n = head_of_id t r mt is_t in
      clash s t (record { same = same; why = inr (record { left = m.node; right = n.node; left_is = m.there; right_is = n.there; opposed_are = ap₂ opposed m.head n.head ∙ o }) })

  opposed_apart : (p r : Head) → opposed p r ≡ true → (term p no_terms ≡ term r no_terms → ⊥) → same_in a b (term p no_terms) (term r no_terms) ≡ false
  opposed_apart p r o differ = false_of (same_in a b (term p no_terms) (term r no_terms)) (λ e. by_same (same_is a ok b h exact terms_are (term p no_terms) (term r no_terms) e))
    where
      node : (t : Term) (k : HasId a b.trail.graph.added t) → IsNode b.trail.graph.nodes k.id
      node t k = node_listed a ok b.trail.graph h.sound.trail.of exact terms_are k.id k.listed

      by_same : IsSame a ok b h exact terms_are (term p no_terms) (term r no_terms) → ⊥
      by_same (one e) = differ e
      by_same (labelled m n e) =
          no_opposed p r o m.id n.id m.is n.is (node (term p no_terms) m) (node (term r no_terms) n)
          (ap₂ nat_eq (sym (tree_label a ok b h exact terms_are (term p no_terms) m)) (sym (tree_label a ok b h exact terms_are (term r no_terms) n)) ∙ e)

  pub truths_apart : same_in a b (truth_term true) (truth_term false) ≡ false
  truths_apart = opposed_apart True False refl (λ e. cc)

  pub numerals_one : (y z : ℤ) → same_in a b (numeral y) (numeral z) ≡ true → y ≡ z
  numerals_one y z e = by_case (int_eq y z) refl
    where
      by_case : (c : Bool) → int_eq y z ≡ c → y ≡ z
      by_case true f = int_eq-true y z f
      by_case false f = absurd (false≢true (sym (opposed_apart (Num y) (Num z) (ap not f) differ) ∙ e))
        where
          number_in : (m n : ℤ) → term (Num m) no_terms ≡ term (Num n) no_terms → m ≡ n
          number_in m n k = cc

          differ : term (Num y) no_terms ≡ term (Num z) no_terms → ⊥
          differ k = false≢true (sym f ∙ (ap (int_eq y) (sym (number_in y z k)) ∙ int_eq-refl y))
