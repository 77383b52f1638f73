-- The numbers of classes.
use Rattle.std.proofs.Common.{◌≡◌, ℕ, zero, suc, Bool, true, false, cond, List, [], ◌∷◌, refl, sym, ap, ◌∙◌, arith, Option, Some}
use mathlib.Core.Path.{ap₂}
use Rattle.std.proofs.lemmas.Bool.{false≢true}
use Rattle.spv_logic.specs.Terms.{Term, Terms, term, no_terms, terms, term_eq}
use Rattle.spv_logic.specs.declared.types.Shape.{Shape}
use Rattle.spv_logic.specs.declared.types.Decl.{Decl}
use Rattle.spv_logic.specs.Formulas.{equation}
use Rattle.spv_logic.specs.Sorts.{term_sort, term_sorts, with_sorts, sort_before, result_sort}
use Rattle.spv_logic.proofs.Equality.{term_eq-true}
use Rattle.spv_atoms.proofs.Members.{has, or_cases}
use Rattle.spv_logic.proofs.list.Tests.{left_true, right_true}
use Rattle.spv_term.specs.closure.Joined.{Joined, AllJoined, told, itself, turned, through, congruent, none, more}
use Rattle.spv_tableau_rules.proofs.pivots.Algebra.{false_of}
use Rattle.spv_models.specs.leaf_models.Leaves.{IsSameness, IsDecided, IsTold, HasLiterals, all_same, truth_term}
use Rattle.spv_models.specs.leaf_models.Tables.{class_of}

-- ---- what derivations join

module _ (added : Term → Bool) (told_equal : Term → Term → Bool) (same : Term → Term → Bool) (d : IsDecided added told_equal same) where
  abbrev IsAdded : Term → Type 0
  IsAdded t = added t ≡ true

  abbrev IsToldEqual : Term → Term → Type 0
  IsToldEqual s t = told_equal s t ≡ true

  all_derived : (ss us : Terms) → all_same same ss us ≡ true → AllJoined IsAdded IsToldEqual ss us
  all_derived no_terms no_terms h = none
  all_derived no_terms (terms u us) h = absurd (false≢true h)
  all_derived (terms s ss) no_terms h = absurd (false≢true h)
  all_derived (terms s ss) (terms u us) h = more s u ss us (d.derived s u (left_true _ _ h)) (all_derived ss us (right_true (same s u) _ h))

  pub decided-same : (ts : List Term) → ((t : Term) → has ts t ≡ true → added t ≡ true) → IsSameness ts same
  decided-same ts are_added = record {
    itself = λ s. d.found s s (itself s);
    turned = λ s t h. d.found t s (turned s t (d.derived s t h));
    through = λ s t u h k. d.found s u (through s t u (d.derived s t h) (d.derived t u k));
    congruent = λ h ss us m n e. d.found (term h ss) (term h us) (congruent h ss us (are_added (term h ss) m) (are_added (term h us) n) (all_derived ss us e));
  }

  pub literals-told : (subterms questions atoms : List Term) (given : Term → Option Bool) → HasLiterals subterms questions atoms given added told_equal → IsSameness subterms same × IsTold questions atoms given same
  literals-told subterms questions atoms given h = (
    decided-same subterms h.all_added,
    record {
      truths = λ t b m e. d.found t (truth_term b) (told t (truth_term b) (h.truths t b m e));
      sides = sides;
      apart = false_of (same (truth_term true) (truth_term false)) (λ e. h.apart (d.derived (truth_term true) (truth_term false) e));
    },
  )
    where
      sides : (s t : Term) (b : Bool) → has atoms (equation s t) ≡ true → given (equation s t) ≡ Some b → same s t ≡ b
      sides s t true m e = d.found s t (told s t (h.equal s t m e))
      sides s t false m e = false_of (same s t) (λ k. h.separate s t m e (d.derived s t k))

-- ---- sorts

module _ (shapes : List Shape) (decls : List Decl) (added : Term → Bool) (told_equal : Term → Term → Bool) (keeps : (s t : Term) → told_equal s t ≡ true → term_sort shapes decls s ≡ term_sort shapes decls t) where
  mutual
    pub sorts-kept : (s t : Term) → Joined (λ u. added u ≡ true) (λ u v. told_equal u v ≡ true) s t → term_sort shapes decls s ≡ term_sort shapes decls t
    sorts-kept _ _ (told s t h) = keeps s t h
    sorts-kept _ _ (itself t) = refl
    sorts-kept _ _ (turned s t d) = sym (sorts-kept s t d)
    sorts-kept _ _ (through s t u d e) = sorts-kept s t d ∙ sorts-kept t u e
    sorts-kept _ _ (congruent h ss ts i j all) = ap (λ o. with_sorts o (result_sort shapes decls h)) (all_sorts-kept ss ts all)

    all_sorts-kept : (ss ts : Terms) → AllJoined (λ u. added u ≡ true) (λ u v. told_equal u v ≡ true) ss ts → term_sorts shapes decls ss ≡ term_sorts shapes decls ts
    all_sorts-kept _ _ none = refl
    all_sorts-kept _ _ (more s t ss ts d all) = ap₂ sort_before (sorts-kept s t d) (all_sorts-kept ss ts all)

-- ---- numbers of classes

zero_not_suc : (n : ℕ) → zero ≡ suc n → ⊥
zero_not_suc n e = omega (arith)

suc_same : (m n : ℕ) → suc m ≡ suc n → m ≡ n
suc_same m n e = omega (arith)

module _ (same : Term → Term → Bool) (ts : List Term) (ok : IsSameness ts same) where
  same_test : (u s t : Term) → same s t ≡ true → same u s ≡ same u t
  same_test u s t h = by_case (same u s) refl (same u t) refl
    where
      by_case : (b : Bool) → same u s ≡ b → (c : Bool) → same u t ≡ c → b ≡ c
      by_case true e true f = refl
      by_case true e false f = absurd (false≢true (sym f ∙ ok.through u s t e h))
      by_case false e true f = absurd (false≢true (sym e ∙ ok.through u t s f (ok.turned s t h)))
      by_case false e false f = refl

  pub class-one : (us : List Term) (s t : Term) → same s t ≡ true → class_of same us s ≡ class_of same us t
  class-one [] s t h = refl
  class-one (u ∷ us) s t h = by_case (same u s) (same u t) (same_test u s t h) (class-one us s t h)
    where
      by_case : (b c : Bool) → b ≡ c → class_of same us s ≡ class_of same us t → cond b zero (suc (class_of same us s)) ≡ cond c zero (suc (class_of same us t))
      by_case b c e later = ap (λ d. cond d zero (suc (class_of same us s))) e ∙ ap (λ n. cond c zero (suc n)) later

  pub class-differs : (us : List Term) (s t : Term) → has us s ≡ true → class_of same us s ≡ class_of same us t → same s t ≡ true
  class-differs [] s t h e = absurd (false≢true h)
  class-differs (u ∷ us) s t h e = by_case (same u s) refl (same u t) refl e (class-differs us s t)
    where
      by_case : (b : Bool) → same u s ≡ b → (c : Bool) → same u t ≡ c → cond b zero (suc (class_of same us s)) ≡ cond c zero (suc (class_of same us t))
          → (has us s ≡ true → class_of same us s ≡ class_of same us t → same s t ≡ true) → same s t ≡ true
      by_case true f true g k later = ok.through s u t (ok.turned u s f) g
      by_case true f false g k later = absurd (zero_not_suc (class_of same us t) k)
      by_case false f true g k later = absurd (zero_not_suc (class_of same us s) (sym k))
      by_case false f false g k later =
          or_cases (term_eq s u) (has us s) h
          (λ m. absurd (false≢true (sym f ∙ (ap (same u) (term_eq-true s u m) ∙ ok.itself u))))
          (λ m. later m (suc_same (class_of same us s) (class_of same us t) k))
