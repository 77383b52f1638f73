-- Values that have the facts of a path, and to which evaluations add nothing more, have all that is known there.
use Rattle.std.proofs.Common.{◌≡◌, Bool, true, false, cond, ◌||◌, not, List, [], ◌∷◌, ◌++◌, refl, sym, ap, ◌∙◌, Option, Some, None}
use Rattle.std.specs.List.{list_any, flat_map}
use Rattle.std.proofs.lemmas.Bool.{false≢true}
use Rattle.spv_logic.specs.declared.operators.Head.TheVariants.{Not, Eq}
use Rattle.spv_logic.specs.Terms.{Term, term, no_terms, terms, term_eq}
use Rattle.spv_logic.specs.Formulas.{negation, equation, below}
use Rattle.spv_logic.proofs.Equality.{term_eq-true, term_eq-refl}
use Rattle.spv_atoms.specs.Tables.{assigned, or_else, not_of}
use Rattle.spv_atoms.proofs.Members.{has, or_cases, or_left, or_right}
use Rattle.spv_proof_rules.specs.Sums.{negated}
use Rattle.spv_proof_rules.specs.Evaluation.{sides, given_negated, given_by, assignment, cites, apart, given_to, bare, clashes, evaluates}
use Rattle.spv_proof_rules.specs.Effects.{Question, is_truth}
use Rattle.spv_tableau_rules.specs.constraints.Sayings.{literal}
use Rattle.spv_models.specs.leaf_models.Subterms.{is_among}
use Rattle.spv_models.specs.split_trees.Paths.{questions, Known, Gives, given, affirmed, denied, lower, upper, member, below_it, above_it}
use Rattle.spv_models.specs.split_trees.Paths as paths
use Rattle.spv_models.specs.split_trees.Shown.{supposing_false, IsFinished}
use Rattle.spv_models.proofs.split_trees.Agreeing.{no_clash}

-- ---- negations and equations

negation-is : (t s : Term) → negated t ≡ Some s → t ≡ negation s
negation-is (term Not (terms u no_terms)) s e = let same : u ≡ s = cc in ap negation same
negation-is _ s e = cc

equation-is : (t : Term) (st : Term × Term) → sides t ≡ Some st → t ≡ equation st.0 st.1
equation-is (term Eq (terms s (terms u no_terms))) st e = let same : (s, u) ≡ st = cc in ap (λ (r : Term × Term). equation r.0 r.1) same
equation-is _ st e = cc

twice_not : (b : Bool) → not (not b) ≡ b
twice_not true = refl
twice_not false = refl

value-negated : (o : Option Bool) (b : Bool) → not_of o ≡ Some b → o ≡ Some (not b)
value-negated None b e = cc
value-negated (Some a) b e = let same : not a ≡ b = cc in ap Some (sym (twice_not a) ∙ ap not same)

nothing-negated : (o : Option Bool) → not_of o ≡ None → o ≡ None
nothing-negated None e = refl
nothing-negated (Some a) e = cc

never_any : (test : Term → Bool) → ((t : Term) → test t ≡ false) → (ts : List Term) → list_any test ts ≡ true → ⊥
never_any test h [] k = false≢true k
never_any test h (t ∷ ts) k = or_cases (test t) (list_any test ts) k (λ e. false≢true (sym (h t) ∙ e)) (λ e. never_any test h ts e)

-- ---- lists of values

module _ (value : Term → Option Bool) where
  -- each term of the list has the value beside it, or has none
  abbrev AllHave : List (Term × Bool) → Type 0
  AllHave [] = Unit {0}
  AllHave (p ∷ ps) = (value p.0 ≡ Some p.1) × AllHave ps

  abbrev NoneHas : List (Term × Bool) → Type 0
  NoneHas [] = Unit {0}
  NoneHas (p ∷ ps) = (value p.0 ≡ None) × NoneHas ps

  have-append : (ps rs : List (Term × Bool)) → AllHave ps → AllHave rs → AllHave (ps ++ rs)
  have-append [] rs h k = k
  have-append (p ∷ ps) rs h k = (h.0, have-append ps rs h.1 k)

  -- what the first list assigns is a value, and what the second one does is known to be one of the others
  found : (others : Term → Option Bool) → ((u : Term) (b : Bool) → value u ≡ Some b → others u ≡ Some b) → (ps rs : List (Term × Bool)) → AllHave ps
      → ((u : Term) (b : Bool) → assigned rs u ≡ Some b → others u ≡ Some b) → (u : Term) (b : Bool) → assigned (ps ++ rs) u ≡ Some b → others u ≡ Some b
  found others more [] rs h k u b e = k u b e
  found others more (p ∷ ps) rs h k u b e = by_case (term_eq p.0 u) refl e (found others more ps rs h.1 k u b)
    where
      by_case : (c : Bool) → term_eq p.0 u ≡ c → cond c (Some p.1) (assigned (ps ++ rs) u) ≡ Some b → (assigned (ps ++ rs) u ≡ Some b → others u ≡ Some b) → others u ≡ Some b
      by_case true f g later = more u b (ap value (sym (term_eq-true p.0 u f)) ∙ (h.0 ∙ g))
      by_case false f g later = later g

  assigned_have : (ps : List (Term × Bool)) → AllHave ps → (u : Term) (b : Bool) → assigned ps u ≡ Some b → value u ≡ Some b
  assigned_have [] h u b e = cc
  assigned_have (p ∷ ps) h u b e = by_case (term_eq p.0 u) refl e (assigned_have ps h.1 u b)
    where
      by_case : (c : Bool) → term_eq p.0 u ≡ c → cond c (Some p.1) (assigned ps u) ≡ Some b → (assigned ps u ≡ Some b → value u ≡ Some b) → value u ≡ Some b
      by_case true f g later = ap value (sym (term_eq-true p.0 u f)) ∙ (h.0 ∙ g)
      by_case false f g later = later g

  assigned_none : (ps : List (Term × Bool)) → NoneHas ps → (u : Term) (b : Bool) → assigned ps u ≡ Some b → value u ≡ None
  assigned_none [] h u b e = cc
  assigned_none (p ∷ ps) h u b e = by_case (term_eq p.0 u) refl e (assigned_none ps h.1 u b)
    where
      by_case : (c : Bool) → term_eq p.0 u ≡ c → cond c (Some p.1) (assigned ps u) ≡ Some b → (assigned ps u ≡ Some b → value u ≡ None) → value u ≡ None
      by_case true f g later = ap value (sym (term_eq-true p.0 u f)) ∙ h.0
      by_case false f g later = later g

-- ---- values to which nothing is added

module _ (q : Question) (fs : List Term) (value : Term → Option Bool) (done : IsFinished q fs value) where
  negated_have : (c : Bool) (l : Term) (o : Option Term) → negated l ≡ o → value l ≡ Some c → AllHave value (given_negated c o)
  negated_have c l None n e = tt
  negated_have c l (Some w) n e = (value-negated (value w) c (sym (done.negations w) ∙ (ap value (sym (negation-is l w n)) ∙ e)), tt)

  given_have : (c : Bool) (l : Term) → value l ≡ Some c → AllHave value (given_by c l)
  given_have c l e = (e, negated_have c l (negated l) refl e)

  negated_none : (c : Bool) (l : Term) (o : Option Term) → negated l ≡ o → value l ≡ None → NoneHas value (given_negated c o)
  negated_none c l None n e = tt
  negated_none c l (Some w) n e = (nothing-negated (value w) (sym (done.negations w) ∙ (ap value (sym (negation-is l w n)) ∙ e)), tt)

  abbrev HaveTruth : List Term → Type 0
  HaveTruth cited = (u : Term) → has cited u ≡ true → value u ≡ Some true

  cited_have : (cited : List Term) → HaveTruth cited → AllHave value (flat_map (given_by true) cited)
  cited_have [] h = tt
  cited_have (t ∷ ts) h =
      have-append value (given_by true t) (flat_map (given_by true) ts) (given_have true t (h t (or_left (term_eq t t) (has ts t) (term_eq-refl t))))
      (cited_have ts (λ u k. h u (or_right (term_eq u t) (has ts u) k)))

  apart_has : (cited : List Term) → HaveTruth cited → (u : Term) (b : Bool) (o : Option (Term × Term)) → sides u ≡ o → apart cited o ≡ Some b → value u ≡ Some b
  apart_has cited h u b None s e = cc
  apart_has cited h u b (Some st) s e = by_order (cites cited (below st.0 st.1)) (cites cited (below st.1 st.0)) refl refl e
    where
      by_order : (x y : Bool) → cites cited (below st.0 st.1) ≡ x → cites cited (below st.1 st.0) ≡ y → cond (x || y) (Some false) None ≡ Some b → value u ≡ Some b
      by_order true y f g k = ap value (equation-is u st s) ∙ (done.lower st.0 st.1 (h (below st.0 st.1) f) ∙ k)
      by_order false true f g k = ap value (equation-is u st s) ∙ (done.upper st.0 st.1 (h (below st.1 st.0) g) ∙ k)
      by_order false false f g k = cc

  -- what a step is given are some of these values, where what its formula gives is
  given_stays : (others : Term → Option Bool) → ((u : Term) (b : Bool) → value u ≡ Some b → others u ≡ Some b) → (cited : List Term) → HaveTruth cited → (l : Term)
      → ((u : Term) (b : Bool) → assigned (given_by false l) u ≡ Some b → others u ≡ Some b) → (u : Term) (b : Bool) → given_to cited l u ≡ Some b → others u ≡ Some b
  given_stays others more cited h l k u b e = by_case (assigned (assignment cited l) u) refl e
    where
      by_case : (o : Option Bool) → assigned (assignment cited l) u ≡ o → or_else o (apart cited (sides u)) ≡ Some b → others u ≡ Some b
      by_case (Some c) f g = found value others more (flat_map (given_by true) cited) (given_by false l) (cited_have cited h) k u b (f ∙ g)
      by_case None f g = more u b (apart_has cited h u b (sides u) refl g)

  never_evaluates : (others : Term → Option Bool) → ((u : Term) (b : Bool) → value u ≡ Some b → others u ≡ Some b) → ((u : Term) → clashes (is_truth q) others u ≡ false)
      → (cited : List Term) → HaveTruth cited → (l : Term) → ((u : Term) (b : Bool) → assigned (given_by false l) u ≡ Some b → others u ≡ Some b) → evaluates (is_truth q) cited l ≡ true → ⊥
  never_evaluates others more agree cited h l k e =
      never_any (λ t. clashes (is_truth q) (given_to cited l) (bare t)) (λ t. no_clash (is_truth q) (given_to cited l) others (given_stays others more cited h l k) agree (bare t)) (l ∷ cited) e

  -- a formula that evaluates is not false, and has a value if it is a question
  not_false : (cited : List Term) → HaveTruth cited → (l : Term) → evaluates (is_truth q) cited l ≡ true → value l ≡ Some false → ⊥
  not_false cited h l e f = never_evaluates value (λ u b k. k) done.agree cited h l (assigned_have value (given_by false l) (given_have false l f)) e

  literal-none : (t : Term) (b : Bool) → value t ≡ None → value (literal b t) ≡ None
  literal-none t true e = e
  literal-none t false e = done.negations t ∙ ap not_of e

  not_open : (cited : List Term) → HaveTruth cited → (t : Term) (b : Bool) → is_among (questions q) t ≡ true → evaluates (is_truth q) cited (literal b t) ≡ true → value t ≡ None → ⊥
  not_open cited h t b m e f =
      let l = literal b t in
      let none : NoneHas value (given_by false l) = (literal-none t b f, negated_none false l (negated l) refl (literal-none t b f)) in
      never_evaluates (supposing_false value l) (λ u c k. ap (λ o. or_else o (assigned (given_by false l) u)) k) (done.nothing_follows t b m f) cited h l
      (λ u c k. ap (λ o. or_else o (assigned (given_by false l) u)) (assigned_none value (given_by false l) none u c k) ∙ k) e

  affirmed-has : (t : Term) (cited : List Term) → HaveTruth cited → is_among (questions q) t ≡ true → evaluates (is_truth q) cited t ≡ true → value t ≡ Some true
  affirmed-has t cited h m e = by_case (value t) refl
    where
      by_case : (o : Option Bool) → value t ≡ o → o ≡ Some true
      by_case (Some true) f = refl
      by_case (Some false) f = absurd (not_false cited h t e f)
      by_case None f = absurd (not_open cited h t true m e f)

  denied-has : (t : Term) (cited : List Term) → HaveTruth cited → is_among (questions q) t ≡ true → evaluates (is_truth q) cited (negation t) ≡ true → value (negation t) ≡ Some true
  denied-has t cited h m e = done.negations t ∙ by_case (value t) refl
    where
      by_case : (o : Option Bool) → value t ≡ o → not_of o ≡ Some true
      by_case (Some true) f = absurd (not_false cited h (negation t) e (done.negations t ∙ ap not_of f))
      by_case (Some false) f = refl
      by_case None f = absurd (not_open cited h t false m e f)

  known-has : (t : Term) → Known q fs t → value t ≡ Some true
  known-has _ (given t m) = done.facts t m
  known-has _ (affirmed t cited m all e) = affirmed-has t cited (λ u k. known-has u (all u k)) m e
  known-has _ (denied t cited m all e) = denied-has t cited (λ u k. known-has u (all u k)) m e
  known-has _ (lower s t m k) = done.negations (equation s t) ∙ ap not_of (done.lower s t (known-has (below s t) k))
  known-has _ (upper s t m k) = done.negations (equation s t) ∙ ap not_of (done.upper s t (known-has (below t s) k))

  gives-has : (t : Term) (b : Bool) → Gives q fs t b → value t ≡ Some b
  gives-has _ _ (member t k) = known-has t k
  gives-has _ _ (paths.negated t k) = value-negated (value t) true (sym (done.negations t) ∙ known-has (negation t) k)
  gives-has _ _ (below_it s t k) = done.lower s t (known-has (below s t) k)
  gives-has _ _ (above_it s t k) = done.upper s t (known-has (below t s) k)

pub gives-least : (q : Question) (fs : List Term) (value : Term → Option Bool) → IsFinished q fs value → (t : Term) (b : Bool) → Gives q fs t b → value t ≡ Some b
gives-least = gives-has
