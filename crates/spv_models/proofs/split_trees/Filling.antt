-- A full path that is live ends in a leaf.
use Rattle.std.proofs.Common.{◌≡◌, Bool, true, false, cond, ◌||◌, List, [], ◌∷◌, refl, sym, ap, ◌∙◌, subst, ◌⊎◌, inl, inr, Option, Some, None, Ok}
use Rattle.std.specs.Prelude.{is_some}
use Rattle.std.proofs.lemmas.Bool.{false≢true}
use Rattle.spv_logic.proofs.list.Tests.{left_true, right_true}
use Rattle.spv_logic.specs.Terms.{Term, Terms, term, no_terms, terms, term_eq}
use Rattle.spv_logic.proofs.Equality.{term_eq-true, term_eq-refl}
use Rattle.spv_logic.specs.Formulas.{negation, equation, below}
use Rattle.spv_atoms.specs.Tables.{assigned, or_else, computed}
use Rattle.spv_atoms.proofs.Members.{or_left, or_right, has-left, has-right, has-last}
use Rattle.spv_tableau_rules.proofs.pivots.Algebra.{false_of}
use Rattle.spv_proof_rules.specs.Evaluation.{opposite, clashes}
use Rattle.spv_proof_rules.specs.Effects.{Question, is_truth, is_number}
use Rattle.spv_tableau_rules.specs.constraints.Sayings.{literal}
use Rattle.spv_table.specs.Values.{holds}
use Rattle.spv_models.specs.leaf_models.Subterms.{is_among, subterms, uncomputed}
use Rattle.spv_models.specs.leaf_models.Leaves.{IsSameness, IsTold, IsPoint, IsLeaf, all_same, truth_term, truth_at, is_met}
use Rattle.spv_models.specs.leaf_models.Laws.{AreFormulas, listed_at}
use Rattle.spv_models.specs.leaf_models.Tables.{formulas_of, table, Falsifies}
use Rattle.spv_models.proofs.leaf_models.Closed.{subterms-has}
use Rattle.spv_models.proofs.leaf_models.Falsifying.{truth-there, table-falsifies}
use Rattle.spv_models.proofs.leaf_models.Standing.{uncomputed-in-atoms}
use Rattle.spv_models.specs.split_trees.Paths as paths
use Rattle.spv_models.specs.split_trees.Paths.{atoms, questions, facts, Known, Gives, member, negated, Linked, AllLinked, IsLive, told, itself, turned, through, congruent, none, more, true_one, false_one, sides}
use Rattle.spv_models.specs.split_trees.Leaves.{IsFull, leaf_of}
use Rattle.spv_models.proofs.split_trees.Agreeing.{computed-stays, agreed}

module _ (q : Question) (fs : List Term) (live : IsLive q fs) (given : Term → Option Bool) (same : Term → Term → Bool) (full : IsFull q fs given same) where
  literal-gives : (t : Term) (b : Bool) → Known q fs (literal b t) → Gives q fs t b
  literal-gives t true k = member t k
  literal-gives t false k = negated t k

  full-agrees : (t : Term) → clashes (is_truth q) given t ≡ false
  full-agrees t = live.agree given (λ u b e. literal-gives u b (full.known u b e)) t

  truth-linked : (t : Term) (b : Bool) → is_among (questions q) t ≡ true → Known q fs (literal b t) → Linked q fs t (truth_term b)
  truth-linked t true m k = told t (truth_term true) (true_one t m k)
  truth-linked t false m k = told t (truth_term false) (false_one t m k)

  sides-same : (s t : Term) (b : Bool) → is_among (atoms q) (equation s t) ≡ true → Known q fs (literal b (equation s t)) → same s t ≡ b
  sides-same s t true m k = full.found s t (told s t (sides s t m k))
  sides-same s t false m k = false_of (same s t) (λ e. live.apart s t m k (full.derived s t e))

  pub full-told : IsTold (questions q) (atoms q) given same
  full-told = record {
    truths = λ t b m e. full.found t (truth_term b) (truth-linked t b m (full.known t b e));
    sides = λ s t b m e. sides-same s t b m (full.known (equation s t) b e);
    apart = false_of (same (truth_term true) (truth_term false)) (λ e. live.truths (full.derived (truth_term true) (truth_term false) e));
  }

  order-met : (s t : Term) → Known q fs (below s t) ⊎ Known q fs (below t s) → (is_met (is_number q) live.point (below s t) || is_met (is_number q) live.point (below t s)) ≡ true
  order-met s t (inl k) = or_left (is_met (is_number q) live.point (below s t)) (is_met (is_number q) live.point (below t s)) (live.meets.met (below s t) k)
  order-met s t (inr k) = or_right (is_met (is_number q) live.point (below s t)) (is_met (is_number q) live.point (below t s)) (live.meets.met (below t s) k)

  pub full-point : IsPoint (is_number q) (subterms (formulas_of q.sequent)) (atoms q) (leaf_of q fs live given same)
  full-point = record {
    relations = λ t b m e. live.meets.met (literal b t) (full.known t b e);
    orders = λ s t m e n. order-met s t (full.ordered s t m e n);
    same = λ s t ms mt ns nt e. live.equal s t ns nt (full.derived s t e);
  }

  -- ---- the truth of what is known

  both-known : (t : Term) → is_among (questions q) t ≡ true → Known q fs (literal true t) → Known q fs (literal false t) → ⊥
  both-known t m k l = live.truths (through (truth_term true) t (truth_term false) (turned t (truth_term true) (truth-linked t true m k)) (truth-linked t false m l))

  given-is : (t : Term) (b c : Bool) → given t ≡ Some b → Known q fs (literal c t) → b ≡ c
  given-is t true true e k = refl
  given-is t false false e k = refl
  given-is t true false e k = absurd (both-known t (full.asked t true e) (full.known t true e) k)
  given-is t false true e k = absurd (both-known t (full.asked t false e) k (full.known t false e))

  -- the truths that are given, and that of one more formula
  abbrev with_one : Term → Bool → Term → Option Bool
  with_one f c u = or_else (given u) (assigned ((f, c) ∷ []) u)

  with_one-gives : (f : Term) (c : Bool) → Known q fs (literal c f) → (u : Term) (b : Bool) → with_one f c u ≡ Some b → Gives q fs u b
  with_one-gives f c k u b e = by_given (given u) refl e
    where
      by_same : (d : Bool) → term_eq f u ≡ d → cond d (Some c) None ≡ Some b → Gives q fs u b
      by_same true h g = let same_truth : c ≡ b = cc in subst (λ w. Gives q fs w b) (term_eq-true f u h) (literal-gives f b (subst (λ d. Known q fs (literal d f)) same_truth k))
      by_same false h g = cc

      by_given : (o : Option Bool) → given u ≡ o → or_else o (assigned ((f, c) ∷ []) u) ≡ Some b → Gives q fs u b
      by_given (Some d) h g = literal-gives u b (full.known u b (h ∙ g))
      by_given None h g = by_same (term_eq f u) refl g

  truth-here : (f : Term) (c : Bool) → Known q fs (literal c f) → is_some (truth_at (is_truth q) given f) ≡ true → truth_at (is_truth q) given f ≡ Some c
  truth-here f c k there = by_given (given f) refl there
    where
      agree : (t : Term) → clashes (is_truth q) (with_one f c) t ≡ false
      agree = live.agree (with_one f c) (with_one-gives f c k)

      by_computed : given f ≡ None → (p : Option Bool) → computed (is_truth q) given f ≡ p → is_some p ≡ true → p ≡ Some c
      by_computed n None h there = absurd (false≢true there)
      by_computed n (Some b) h there =
          let own : with_one f c f ≡ Some c = ap (λ o. or_else o (assigned ((f, c) ∷ []) f)) n ∙ ap (λ d. cond d (Some c) None) (term_eq-refl f) in
          let more : computed (is_truth q) (with_one f c) f ≡ Some b =
          (computed-stays (is_truth q) given (with_one f c) (λ u d e. ap (λ o. or_else o (assigned ((f, c) ∷ []) u)) e) agree f).keeps b h in
          sym (agreed (computed (is_truth q) (with_one f c) f) b c more (ap (opposite (computed (is_truth q) (with_one f c) f)) (sym own) ∙ agree f))

      by_given : (o : Option Bool) → given f ≡ o → is_some (or_else o (computed (is_truth q) given f)) ≡ true → or_else o (computed (is_truth q) given f) ≡ Some c
      by_given (Some b) h there = ap Some (given-is f b c h k)
      by_given None h there = by_computed h (computed (is_truth q) given f) refl there

-- what is joined is an equivalence with congruence on all that is not computed
module _ (q : Question) (are : AreFormulas q.shapes q.decls (formulas_of q.sequent)) (fs : List Term) (given : Term → Option Bool) (same : Term → Term → Bool) (full : IsFull q fs given same) where
  all_linked : (ss us : Terms) → all_same same ss us ≡ true → AllLinked q fs ss us
  all_linked no_terms no_terms h = none
  all_linked no_terms (terms u us) h = absurd (false≢true h)
  all_linked (terms s ss) no_terms h = absurd (false≢true h)
  all_linked (terms s ss) (terms u us) h = more s u ss us (full.derived s u (left_true _ _ h)) (all_linked ss us (right_true (same s u) _ h))

  in_atoms : (t : Term) → is_among (uncomputed (is_truth q) (subterms (formulas_of q.sequent))) t ≡ true → is_among (subterms (atoms q)) t ≡ true
  in_atoms = uncomputed-in-atoms q.shapes q.decls (formulas_of q.sequent) are

  full-sameness : IsSameness (uncomputed (is_truth q) (subterms (formulas_of q.sequent))) same
  full-sameness = record {
    itself = λ s. full.found s s (itself s);
    turned = λ s t h. full.found t s (turned s t (full.derived s t h));
    through = λ s t u h k. full.found s u (through s t u (full.derived s t h) (full.derived t u k));
    congruent = λ h ss us m n e. full.found (term h ss) (term h us) (congruent h ss us (in_atoms (term h ss) m) (in_atoms (term h us) n) (all_linked ss us e));
  }

pub full-leaf : (q : Question) → AreFormulas q.shapes q.decls (formulas_of q.sequent) → (fs : List Term) (live : IsLive q fs) (given : Term → Option Bool) (same : Term → Term → Bool) → IsFull q fs given same
    → IsLeaf q.shapes q.decls (formulas_of q.sequent) (leaf_of q fs live given same)
full-leaf q are fs live given same full = record {
  formulas = are;
  full = full.full;
  agrees = λ t m. full-agrees q fs live given same full t;
  sameness = full-sameness q are fs given same full;
  told = full-told q fs live given same full;
  point = full-point q fs live given same full;
}

pub full-survives : (q : Question) → AreFormulas q.shapes q.decls (formulas_of q.sequent) → (cases : List Term) (live : IsLive q (facts q cases)) (given : Term → Option Bool) (same : Term → Term → Bool)
    → IsFull q (facts q cases) given same
    → ((f : Term) → is_among (formulas_of q.sequent) f ≡ true → (b : Bool) × (holds (listed_at q.shapes q.decls (formulas_of q.sequent) (leaf_of q (facts q cases) live given same)) f ≡ Ok b))
    → Falsifies q.shapes q.decls q.sequent (table q.shapes q.decls (formulas_of q.sequent) (leaf_of q (facts q cases) live given same))
full-survives q are cases live given same full fits =
    let fs = formulas_of q.sequent in
    let leaf = leaf_of q (facts q cases) live given same in
    let ok = full-leaf q are (facts q cases) live given same full in
    let goal_in : is_among fs q.sequent.goal ≡ true = has-last q.sequent.given q.sequent.goal in
    table-falsifies q.shapes q.decls q.sequent leaf ok
    (λ f m. let inside : is_among fs f ≡ true = has-left q.sequent.given (q.sequent.goal ∷ []) f m in
    truth-here q (facts q cases) live given same full f true (paths.given f (has-left q.sequent.given (negation q.sequent.goal ∷ cases) f m))
    (truth-there q.shapes q.decls fs leaf ok f (subterms-has fs f inside) (are f inside)))
    (truth-here q (facts q cases) live given same full q.sequent.goal false
    (paths.given (negation q.sequent.goal) (has-right q.sequent.given (negation q.sequent.goal ∷ cases) (negation q.sequent.goal) (or_left (term_eq (negation q.sequent.goal) (negation q.sequent.goal)) _ (term_eq-refl (negation q.sequent.goal)))))
    (truth-there q.shapes q.decls fs leaf ok q.sequent.goal (subterms-has fs q.sequent.goal goal_in) (are q.sequent.goal goal_in)))
    fits
