-- What is joined on a path is joined in each equivalence that shows that the path is live.
use Rattle.std.proofs.Common.{◌≡◌, Bool, true, List, refl, sym, ◌∙◌, inl, inr}
use Rattle.std.proofs.lemmas.Bool.{false≢true}
use Rattle.std.specs.Cmp.Derive.{both_true}
use Rattle.spv_frac.specs.rational.Rational.{Rational}
use Rattle.spv_logic.specs.Terms.{Term, Terms}
use Rattle.spv_logic.specs.Formulas.{below}
use Rattle.spv_atoms.proofs.Members.{or_cases}
use Rattle.spv_term.specs.closure.Joined.{Joined, AllJoined}
use Rattle.spv_term.specs.closure.Joined as derived
use Rattle.spv_tableau_rules.proofs.pivots.Algebra.{true_of}
use Rattle.spv_proof_rules.specs.Effects.{Question, is_truth, is_number}
use Rattle.spv_models.specs.leaf_models.Leaves.{all_same, is_met}
use Rattle.spv_models.specs.split_trees.Paths.{IsAdded, Linked, AllLinked, Shared, TellsApart, told, shared, itself, turned, through, congruent, none, more, forced, differ, IsLive}
use Rattle.spv_models.specs.split_trees.Shown.{IsEqualAt, HasOrder, ShowsLive}
use Rattle.spv_models.specs.split_trees.Laws.{IsToldOrShared}
use Rattle.spv_models.proofs.split_trees.Agreeing.{no_clash}

module _ (q : Question) (fs : List Term) where
  mutual
    pub linked-joined : (s t : Term) → Linked q fs s t → Joined (IsAdded q) (IsToldOrShared q fs) s t
    linked-joined _ _ (told s t h) = derived.told s t (inl h)
    linked-joined _ _ (shared s t h) = derived.told s t (inr h)
    linked-joined _ _ (itself t) = derived.itself t
    linked-joined _ _ (turned s t d) = derived.turned s t (linked-joined s t d)
    linked-joined _ _ (through s t u d e) = derived.through s t u (linked-joined s t d) (linked-joined t u e)
    linked-joined _ _ (congruent h ss ts i j all) = derived.congruent h ss ts i j (all_linked-joined ss ts all)

    all_linked-joined : (ss ts : Terms) → AllLinked q fs ss ts → AllJoined (IsAdded q) (IsToldOrShared q fs) ss ts
    all_linked-joined _ _ none = derived.none
    all_linked-joined _ _ (more s t ss ts d all) = derived.more s t ss ts (linked-joined s t d) (all_linked-joined ss ts all)

  of_told : (s t : Term) → IsToldOrShared q fs s t → Linked q fs s t
  of_told s t (inl h) = told s t h
  of_told s t (inr h) = shared s t h

  mutual
    pub joined-linked : (s t : Term) → Joined (IsAdded q) (IsToldOrShared q fs) s t → Linked q fs s t
    joined-linked _ _ (derived.told s t h) = of_told s t h
    joined-linked _ _ (derived.itself t) = itself t
    joined-linked _ _ (derived.turned s t d) = turned s t (joined-linked s t d)
    joined-linked _ _ (derived.through s t u d e) = through s t u (joined-linked s t d) (joined-linked t u e)
    joined-linked _ _ (derived.congruent h ss ts i j all) = congruent h ss ts i j (all_joined-linked ss ts all)

    all_joined-linked : (ss ts : Terms) → AllJoined (IsAdded q) (IsToldOrShared q fs) ss ts → AllLinked q fs ss ts
    all_joined-linked _ _ derived.none = none
    all_joined-linked _ _ (derived.more s t ss ts d all) = more s t ss ts (joined-linked s t d) (all_joined-linked ss ts all)

  -- ---- equivalences

  module _ (same : Term → Term → Bool) (w : ShowsLive q fs same) where
    mutual
      pub linked-same : (s t : Term) → Linked q fs s t → same s t ≡ true
      linked-same _ _ (told s t h) = w.told s t h
      linked-same _ _ (shared s t h) = shared-same s t h
      linked-same _ _ (itself t) = w.sameness.itself t
      linked-same _ _ (turned s t d) = w.sameness.turned s t (linked-same s t d)
      linked-same _ _ (through s t u d e) = w.sameness.through s t u (linked-same s t d) (linked-same t u e)
      linked-same _ _ (congruent h ss ts i j all) = w.sameness.congruent h ss ts i j (all_linked-same ss ts all)

      all_linked-same : (ss ts : Terms) → AllLinked q fs ss ts → all_same same ss ts ≡ true
      all_linked-same _ _ none = refl
      all_linked-same _ _ (more s t ss ts d all) = both_true (linked-same s t d) (all_linked-same ss ts all)

      shared-same : (s t : Term) → Shared q fs s t → same s t ≡ true
      shared-same _ _ (forced s t m a b l r) =
          true_of (same s t)
          (λ e. let o : HasOrder q fs same s t = w.orders s t m a b e in
          or_cases (is_met (is_number q) o.point (below s t)) (is_met (is_number q) o.point (below t s)) o.order
          (λ k. never_apart o.point o.equal (l o.point o.meets k)) (λ k. never_apart o.point o.equal (r o.point o.meets k)))

      never_apart : (point : Term → Rational) → IsEqualAt q same point → TellsApart q fs point → ⊥
      never_apart _ e (differ point s t a b d n) = n (e s t a b (linked-same s t d))

    pub shown-live : IsLive q fs
    shown-live = record {
      agree = λ g gives t. no_clash (is_truth q) g w.value (λ u b e. w.covers u b (gives u b e)) w.agree t;
      apart = λ s t m k d. false≢true (sym (w.apart s t m k) ∙ linked-same s t d);
      numerals = λ y z d. w.numerals y z (linked-same _ _ d);
      truths = λ d. false≢true (sym w.truths ∙ linked-same _ _ d);
      point = w.point;
      meets = w.meets;
      equal = λ s t a b d. w.equal s t a b (linked-same s t d);
    }
