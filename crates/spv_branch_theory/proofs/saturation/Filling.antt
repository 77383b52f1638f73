-- A filled path that is shown live ends in a leaf.
use Rattle.std.proofs.Common.{◌≡◌, Bool, true, false, ◌||◌, List, [], ◌∷◌, refl, sym, ap, ◌∙◌, ◌⊎◌, inl, inr, Option, Some, None, Ok}
use Rattle.std.specs.Prelude.{is_some}
use Rattle.std.proofs.lemmas.Bool.{false≢true}
use Rattle.spv_logic.specs.Terms.{Term, term, term_eq}
use Rattle.spv_logic.proofs.Equality.{term_eq-refl}
use Rattle.spv_logic.specs.Formulas.{negation, equation, below}
use Rattle.spv_atoms.specs.Tables.{or_else, computed}
use Rattle.spv_atoms.proofs.Members.{or_left, or_right, has-left, has-right, has-last}
use Rattle.spv_proof_rules.specs.Evaluation.{opposite, clashes}
use Rattle.spv_proof_rules.specs.Effects.{Question, is_truth, is_number}
use Rattle.spv_tableau_rules.specs.constraints.Sayings.{literal}
use Rattle.spv_table.specs.Values.{holds}
use Rattle.spv_models.specs.leaf_models.Subterms.{is_among, subterms, uncomputed}
use Rattle.spv_models.specs.leaf_models.Leaves.{IsSameness, IsTold, IsPoint, IsLeaf, truth_term, truth_at, is_met}
use Rattle.spv_models.specs.leaf_models.Laws.{AreFormulas, listed_at}
use Rattle.spv_models.specs.leaf_models.Tables.{formulas_of, table, Falsifies}
use Rattle.spv_models.proofs.leaf_models.Closed.{subterms-has}
use Rattle.spv_models.proofs.leaf_models.Falsifying.{truth-there, table-falsifies}
use Rattle.spv_models.proofs.leaf_models.Standing.{uncomputed-in-atoms}
use Rattle.spv_models.specs.split_trees.Paths as paths
use Rattle.spv_models.specs.split_trees.Paths.{atoms, questions, facts, Known, Gives, member, negated, true_one, false_one, sides}
use Rattle.spv_models.specs.split_trees.Shown.{ShowsLive}
use Rattle.spv_models.proofs.split_trees.Agreeing.{computed-stays, agreed, no_clash}
use Rattle.spv_branch_theory.specs.saturation.Filled.{IsFilled, shown_leaf}

module _ (q : Question) (fs : List Term) (same : Term → Term → Bool) (shows : ShowsLive q fs same) (given : Term → Option Bool) (full : IsFilled q fs given) where
  literal_gives : (t : Term) (b : Bool) → Known q fs (literal b t) → Gives q fs t b
  literal_gives t true k = member t k
  literal_gives t false k = negated t k

  -- a truth that is given is the value that shows the path live
  given_value : (t : Term) (b : Bool) → given t ≡ Some b → shows.value t ≡ Some b
  given_value t b e = shows.covers t b (literal_gives t b (full.known t b e))

  filled_agrees : (t : Term) → clashes (is_truth q) given t ≡ false
  filled_agrees t = no_clash (is_truth q) given shows.value given_value shows.agree t

  -- ---- what is the same

  pub truth_same : (t : Term) (b : Bool) → is_among (questions q) t ≡ true → Known q fs (literal b t) → same t (truth_term b) ≡ true
  truth_same t true m k = shows.told t (truth_term true) (true_one t m k)
  truth_same t false m k = shows.told t (truth_term false) (false_one t m k)

  sides_same : (s t : Term) (b : Bool) → is_among (atoms q) (equation s t) ≡ true → Known q fs (literal b (equation s t)) → same s t ≡ b
  sides_same s t true m k = shows.told s t (sides s t m k)
  sides_same s t false m k = shows.apart s t m k

  filled_told : IsTold (questions q) (atoms q) given same
  filled_told = record {
    truths = λ t b m e. truth_same t b m (full.known t b e);
    sides = λ s t b m e. sides_same s t b m (full.known (equation s t) b e);
    apart = shows.truths;
  }

  -- ---- points

  order_met : (s t : Term) → Known q fs (below s t) ⊎ Known q fs (below t s) → (is_met (is_number q) shows.point (below s t) || is_met (is_number q) shows.point (below t s)) ≡ true
  order_met s t (inl k) = or_left (is_met (is_number q) shows.point (below s t)) (is_met (is_number q) shows.point (below t s)) (shows.meets.met (below s t) k)
  order_met s t (inr k) = or_right (is_met (is_number q) shows.point (below s t)) (is_met (is_number q) shows.point (below t s)) (shows.meets.met (below t s) k)

  filled_point : IsPoint (is_number q) (subterms (formulas_of q.sequent)) (atoms q) (shown_leaf q fs same shows given)
  filled_point = record {
    relations = λ t b m e. shows.meets.met (literal b t) (full.known t b e);
    orders = λ s t m e n. order_met s t (full.ordered s t m e n);
    same = λ s t ms mt ns nt e. shows.equal s t ns nt e;
  }

  -- ---- the truth of what is known

  pub truth_here : (f : Term) (c : Bool) → Known q fs (literal c f) → is_some (truth_at (is_truth q) given f) ≡ true → truth_at (is_truth q) given f ≡ Some c
  truth_here f c k there = by_given (given f) refl there
    where
      value_is : shows.value f ≡ Some c
      value_is = shows.covers f c (literal_gives f c k)

      by_computed : (p : Option Bool) → computed (is_truth q) given f ≡ p → is_some p ≡ true → p ≡ Some c
      by_computed None e there = absurd (false≢true there)
      by_computed (Some b) e there =
          let more : computed (is_truth q) shows.value f ≡ Some b = (computed-stays (is_truth q) given shows.value given_value shows.agree f).keeps b e in
          sym (agreed (computed (is_truth q) shows.value f) b c more (ap (opposite (computed (is_truth q) shows.value f)) (sym value_is) ∙ shows.agree f))

      by_given : (o : Option Bool) → given f ≡ o → is_some (or_else o (computed (is_truth q) given f)) ≡ true → or_else o (computed (is_truth q) given f) ≡ Some c
      by_given (Some b) e there = sym (given_value f b e) ∙ value_is
      by_given None e there = by_computed (computed (is_truth q) given f) refl there

  module _ (are : AreFormulas q.shapes q.decls (formulas_of q.sequent)) where
    in_atoms : (t : Term) → is_among (uncomputed (is_truth q) (subterms (formulas_of q.sequent))) t ≡ true → is_among (subterms (atoms q)) t ≡ true
    in_atoms = uncomputed-in-atoms q.shapes q.decls (formulas_of q.sequent) are

    filled_sameness : IsSameness (uncomputed (is_truth q) (subterms (formulas_of q.sequent))) same
    filled_sameness = record {
      itself = shows.sameness.itself;
      turned = shows.sameness.turned;
      through = shows.sameness.through;
      congruent = λ h ss us m n e. shows.sameness.congruent h ss us (in_atoms (term h ss) m) (in_atoms (term h us) n) e;
    }

    pub filled_leaf : IsLeaf q.shapes q.decls (formulas_of q.sequent) (shown_leaf q fs same shows given)
    filled_leaf = record {
      formulas = are;
      full = full.full;
      agrees = λ t m. filled_agrees t;
      sameness = filled_sameness;
      told = filled_told;
      point = filled_point;
    }

-- ---- the formulas of the condition

-- each hypothesis is true at the leaf, and the goal is false
pub record HasFacts (q : Question) (given : Term → Option Bool) : Type 0 where
  pub given_true : (f : Term) → is_among q.sequent.given f ≡ true → truth_at (is_truth q) given f ≡ Some true
  pub goal_false : truth_at (is_truth q) given q.sequent.goal ≡ Some false

module _ (q : Question) (are : AreFormulas q.shapes q.decls (formulas_of q.sequent)) (cases : List Term) (same : Term → Term → Bool) (shows : ShowsLive q (facts q cases) same) (given : Term → Option Bool) (full : IsFilled q (facts q cases) given) where
  formula_truth : (f : Term) (c : Bool) → is_among (formulas_of q.sequent) f ≡ true → Known q (facts q cases) (literal c f) → truth_at (is_truth q) given f ≡ Some c
  formula_truth f c m k =
      truth_here q (facts q cases) same shows given full f c k
      (truth-there q.shapes q.decls (formulas_of q.sequent) (shown_leaf q (facts q cases) same shows given) (filled_leaf q (facts q cases) same shows given full are) f (subterms-has (formulas_of q.sequent) f m) (are f m))

  negation_there : is_among (negation q.sequent.goal ∷ cases) (negation q.sequent.goal) ≡ true
  negation_there = or_left (term_eq (negation q.sequent.goal) (negation q.sequent.goal)) (is_among cases (negation q.sequent.goal)) (term_eq-refl (negation q.sequent.goal))

  pub filled_facts : HasFacts q given
  filled_facts = record {
    given_true = λ f m. formula_truth f true (has-left q.sequent.given (q.sequent.goal ∷ []) f m) (paths.given f (has-left q.sequent.given (negation q.sequent.goal ∷ cases) f m));
    goal_false = formula_truth q.sequent.goal false (has-last q.sequent.given q.sequent.goal)
        (paths.given (negation q.sequent.goal) (has-right q.sequent.given (negation q.sequent.goal ∷ cases) (negation q.sequent.goal) negation_there));
  }

  pub filled_survives : ((f : Term) → is_among (formulas_of q.sequent) f ≡ true → (b : Bool) × (holds (listed_at q.shapes q.decls (formulas_of q.sequent) (shown_leaf q (facts q cases) same shows given)) f ≡ Ok b))
      → Falsifies q.shapes q.decls q.sequent (table q.shapes q.decls (formulas_of q.sequent) (shown_leaf q (facts q cases) same shows given))
  filled_survives fits =
      table-falsifies q.shapes q.decls q.sequent (shown_leaf q (facts q cases) same shows given) (filled_leaf q (facts q cases) same shows given full are) filled_facts.given_true filled_facts.goal_false fits
