-- The first facts of a path.
use Rattle.std.proofs.Common.{◌≡◌, ℕ, zero, suc, ◌+◌, ◌<◌, ◌≤◌, Bool, true, false, List, [], ◌∷◌, length, map, refl, sym, ap, ◌∙◌, subst, Option, Some, None, inl, inr, arith}
use Rattle.std.specs.Prelude.{slice_get, get_or}
use Rattle.std.specs.Option.{option_map}
use Rattle.std.proofs.lemmas.Bool.{false≢true}
use Rattle.std.proofs.lemmas.Option.{slice_get-get_or, slice_get-map, slice_get_within}
use Rattle.spv_logic.specs.declared.conditions.TermId.{TermId}
use Rattle.spv_logic.specs.declared.operators.Head.TheVariants.{Not}
use Rattle.spv_logic.specs.Terms.{Term, term, no_terms, terms}
use Rattle.spv_logic.specs.Formulas.{negation}
use Rattle.spv_term.specs.declared.nodes.Condition.{Condition}
use Rattle.spv_term.specs.Arena.{Arena, tree}
use Rattle.spv_atoms.specs.Tables.{not_of}
use Rattle.spv_atoms.proofs.Members.{has, has-left, has-last, has-parts, has_one}
use Rattle.spv_proof_rules.specs.Evaluation.{apart, sides}
use Rattle.spv_proof_rules.specs.Effects.{Adds, adds_known, given_effect}
use Rattle.spv_proof_rules.specs.Stand.{question}
use Rattle.spv_tableau_rules.specs.constraints.Sayings.{literal}
use Rattle.spv_derivations.specs.declared.derivation.entries.Entry.{Entry}
use Rattle.spv_derivations.specs.derivation.Literals.{Literal}
use Rattle.spv_models.specs.leaf_models.Laws.{AreFormulas}
use Rattle.spv_models.specs.leaf_models.Tables.{formulas_of}
use Rattle.spv_models.proofs.leaf_models.Closed.{subterms-has}
use Rattle.spv_share.specs.declared.both.Both.{Both}
use Rattle.spv_share.specs.Both.{IsBoth, told}
use Rattle.spv_derivations.proofs.branches.Following.{begins}
use Rattle.spv_assignments.specs.kleene.Passes.{at}
use Rattle.spv_assignments.specs.declared.partial_assignment.facts.Known.{Known}
use Rattle.spv_assignments.specs.declared.partial_assignment.lists.Listed.{Listed}
use Rattle.spv_assignments.specs.partial_assignment.Values.{value_by}
use Rattle.spv_branch_theory.specs.search_invariant.Facts.{IsFormula, of_parts}
use Rattle.spv_trail.specs.trail_states.Told.{IsStored, values_of}
use Rattle.spv_trail.proofs.trail_states.RowConstraint.{from_found, found_from}
use Rattle.spv_trail.proofs.trail_states.Growing.{stored_longer}
use Rattle.spv_trail.specs.asserted_steps.Steps.{IsDerived}
use Rattle.spv_trail.specs.declared.propagation.ending.End.{End}
use Rattle.spv_trail.specs.propagation.Learning.{IsLearnedOrEnded, MayLearn}
use Rattle.spv_trail.specs.propagation.Telling.{AreToldAs}
use Rattle.spv_trail.proofs.propagation.Changes.{earlier_or_here}
use Rattle.spv_trail.specs.declared.backtracking.path.Ground.{Ground}
use Rattle.spv_trail.specs.declared.backtracking.path.BranchTrail.{BranchTrail}
use Rattle.spv_trail.specs.backtracking.Paths.{IsAskedOf, IsBegun, IsEmptyPath, IsHeld}
use Rattle.spv_trail.specs.backtracking.Beginning.{AreFirst, IsFirst, IsFirstOrEnded, IsOfNumber, KnowsAll, KnowsAllOrEnded, KnowsFirst, KnowsGiven, MayBegin}
use Rattle.spv_trail.proofs.backtracking.Held.{question_within}

-- ---- nothing is known

none_at : {A : Type 0} (i : ℕ) (x : A) → slice_get [] i ≡ Some x → ⊥
none_at i x e = cc

none_stored : (a : Arena) (c : Condition) → IsStored a c [] [] []
none_stored a c = record {
  numbered = tt;
  literals = record { each = λ i l e. absurd (none_at i l e) };
  knowledge = record {
    literals = record { bare_terms = λ t m. absurd (false≢true m); agree = λ t m n. false≢true m };
    over = record { there = λ t m. absurd (false≢true m); numbers = λ s t m. absurd (false≢true m) };
  };
  uncrossed = record { lower = λ s t m n. false≢true m; upper = λ s t m n. false≢true m };
  founded = λ i k e. absurd (none_at i k e);
  asked = λ i l e. absurd (none_at i l e);
  true_ones = λ i l e. absurd (none_at i l e);
}

pub none_first : (a : Arena) (c : Condition) (es : List Entry) (ks : List Known) → es ≡ [] → ks ≡ [] → AreFirst a c es ks
none_first a c es ks e f = subst (λ (xs : List Entry). AreFirst a c xs ks) (sym e) (subst (λ (xs : List Known). AreFirst a c [] xs) (sym f) (record { path = begins (question a c); stored = none_stored a c }))

pub none_known : (a : Arena) (c : Condition) (es : List Entry) (ks : List Known) → es ≡ [] → ks ≡ [] → KnowsFirst a c es ks 0
none_known a c es ks e f = record { are = none_first a c es ks e f; known_ones = λ i t less at_it. absurd (omega (arith, less)) }

pub given_at : (given slice : List TermId) (i : ℕ) (d : TermId) → slice ≡ given → i < length slice → slice_get given i ≡ Some (get_or slice i d)
given_at given slice i d e less = ap (λ (xs : List TermId). slice_get xs i) (sym e) ∙ slice_get-get_or slice i d less

pub first_none : (a : Arena) (c : Condition) (es : List Entry) (ks ks0 : List Known) (f : Term) (o : Option End) → o ≡ None → IsFirstOrEnded a c es ks ks0 f o → IsFirst a c es ks ks0 f
first_none a c es ks ks0 f o e h = subst (λ (x : Option End). IsFirstOrEnded a c es ks ks0 f x) e h

pub all_none : (a : Arena) (c : Condition) (es : List Entry) (ks : List Known) (o : Option End) → o ≡ None → KnowsAllOrEnded a c es ks o → KnowsAll a c es ks
all_none a c es ks o e h = subst (λ (x : Option End). KnowsAllOrEnded a c es ks x) e h

-- ---- one hypothesis, or the goal

module _ (a : Arena) (c : Condition) where
  pub of_number : (n : ℕ) (t : TermId) (truth : Bool) → IsOfNumber c n t truth → given_effect (question a c).sequent n ≡ Adds (literal truth (tree a t))
  of_number zero t false e = ap (λ (u : TermId). Adds (negation (tree a u))) e
  of_number zero t true e = absurd e
  of_number (suc n) t true e = ap adds_known (slice_get-map (tree a) c.given n ∙ ap (option_map (tree a)) e)
  of_number (suc n) t false e = absurd e

  pub among_formulas : (n : ℕ) (t : TermId) (truth : Bool) → IsOfNumber c n t truth → has (formulas_of (question a c).sequent) (tree a t) ≡ true
  among_formulas zero t false e = ap (λ (u : TermId). has (formulas_of (question a c).sequent) (tree a u)) (sym e) ∙ has-last (map (tree a) c.given) (tree a c.goal)
  among_formulas zero t true e = absurd e
  among_formulas (suc n) t true e = has-left (map (tree a) c.given) (tree a c.goal ∷ []) (tree a t) (found_from (tree a) c.given n t e)
  among_formulas (suc n) t false e = absurd e

  formula_given : AreFormulas a.shapes a.decls (formulas_of (question a c).sequent) → (t : Term) → has (formulas_of (question a c).sequent) t ≡ true → IsFormula (question a c) t
  formula_given are t m = of_parts (subterms-has (formulas_of (question a c).sequent) t m) (are t m)

  pub may_learn_first : (falsity : TermId) (es mid : List Entry) (ks : List Known) (n k : ℕ) (t : TermId) (truth : Bool) → MayBegin a c falsity → AreFirst a c es ks → IsOfNumber c n t truth → IsDerived (question a c) [] es mid k (literal truth (tree a t))
      → MayLearn a c falsity [] mid ks [] t truth k
  may_learn_first falsity es mid ks n k t truth may first number d = record {
    formulas = may.formulas;
    falsity_is = may.falsity_is;
    path = d.path;
    stored = stored_longer a c es mid ks [] (literal truth (tree a t) ∷ []) d.facts_are first.stored;
    formula = formula_given may.formulas (tree a t) (among_formulas n t truth number);
    says = d.number;
  }

  pub first_or_ended : (es es2 : List Entry) (ks ks2 : List Known) (f : Term) (o : Option End) → IsLearnedOrEnded a c [] [] es es2 ks ks2 f o → IsFirstOrEnded a c es2 ks2 ks f o
  first_or_ended es es2 ks ks2 f None h = record { are = record { path = h.path; stored = h.stored }; keeps = h.keeps; true_now = h.true_now }
  first_or_ended es es2 ks ks2 f (Some e) h = h.0.ends

  -- ---- all hypotheses

  pub one_more_known : (es es2 : List Entry) (ks ks2 : List Known) (n : ℕ) (t : TermId) → slice_get c.given n ≡ Some t → KnowsFirst a c es ks n → IsFirst a c es2 ks2 ks (tree a t) → KnowsFirst a c es2 ks2 (n + 1)
  one_more_known es es2 ks ks2 n t there before h = record {
    are = h.are;
    known_ones = λ i u less at_it. elim (earlier_or_here i n (omega (arith, less))) [
      | inl earlier ↦ h.keeps (tree a u) true (before.known_ones i u earlier at_it)
      | inr here ↦ let same : Some t ≡ Some u = sym there ∙ (ap (slice_get c.given) (sym here) ∙ at_it) in ap (λ (o : Option TermId). values_at ks2 o) (sym same) ∙ h.true_now
    ];
  }
    where
      values_at : List Known → Option TermId → Option Bool
      values_at ks None = None
      values_at ks (Some u) = values_of a ks (tree a u)

  pub all_known : (es : List Entry) (ks : List Known) (n : ℕ) → KnowsFirst a c es ks n → length c.given ≤ n → KnowsGiven a c es ks
  all_known es ks n h all = record {
    are = h.are;
    known_ones = λ t m.
        let f = from_found (tree a) c.given t m in
        let w = slice_get_within c.given f.place f.item f.there in
        ap (values_of a ks) (sym f.is) ∙ h.known_ones f.place f.item (omega (arith, w, all)) f.there;
  }

  pub goal_known : (es es2 : List Entry) (ks ks2 : List Known) → KnowsGiven a c es ks → IsFirst a c es2 ks2 ks (negation (tree a c.goal)) → KnowsAll a c es2 ks2
  goal_known es es2 ks ks2 given h = record {
    are = h.are;
    known_ones = λ t m. has-parts (question a c).sequent.given (negation (tree a c.goal) ∷ []) t m (λ k. h.keeps t true (given.known_ones t k)) (λ k. ap (values_of a ks2) (has_one t (negation (tree a c.goal)) k) ∙ h.true_now);
  }

  -- ---- the path is held

  pub all_begun : (es : List Entry) (ks : List Known) → KnowsAll a c es ks → IsBegun a c [] ks
  all_begun es ks h = record { begun = h.known_ones; cases_known = λ t m. absurd (false≢true m) }

apart_none : (o : Option (Term × Term)) → apart [] o ≡ None
apart_none None = refl
apart_none (Some st) = refl

value_none : (t : Term) → value_by [] t ≡ None
value_none (term Not (terms u no_terms)) = ap not_of (value_none u)
value_none t = apart_none (sides t)

no_value : (o : Option Bool) (b : Bool) → o ≡ None → o ≡ Some b → ⊥
no_value o b e f = cc

-- no question has a value on a path without facts
module _ (a : Arena) (c : Condition) (g : Ground) (old : BranchTrail) (asked : IsAskedOf a c g old.both) (empty : IsEmptyPath a old.both old) (untold : told old.both ≡ []) where
  none_told : AreToldAs a g.questions.items old.lists.all.items (told old.both)
  none_told = record {
    each = λ i t b at_it e.
        absurd (no_value (at old.lists.all.items t.0) b (empty.lists.all_ones t (question_within a c g asked.ground i t at_it) ∙ value_none (tree a t)) e);
  }

  pub filled_held : (mid : BranchTrail) (ks : List Known) → KnowsAll a c mid.derivation ks → mid.known.items ≡ ks → mid.both ≡ old.both → mid.lists ≡ old.lists → IsBoth a old.both → IsHeld a c g mid
  filled_held mid ks h known_is both_is lists_are both = record {
    asked = subst (IsAskedOf a c g) (sym both_is) asked;
    stored = subst (λ (xs : List Known). IsStored a c mid.derivation xs (told mid.both)) (sym known_is) (subst (λ (ls : List Literal). IsStored a c mid.derivation ks ls) (sym (ap told both_is ∙ untold)) h.are.stored);
    both = subst (IsBoth a) (sym both_is) both;
    told_ones = subst (λ (x : Listed). AreToldAs a g.questions.items x.all.items (told mid.both)) (sym lists_are) (subst (λ (x : Both). AreToldAs a g.questions.items old.lists.all.items (told x)) (sym both_is) none_told);
  }
