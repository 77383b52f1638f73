-- What follows is added.
use Rattle.std.proofs.Common.{◌≡◌, ℕ, zero, suc, ◌<◌, ◌≤◌, Bool, true, false, not, List, [], ◌∷◌, refl, sym, ap, ◌∙◌, subst, Option, Some, None, arith}
use mathlib.Core.Path.{ap₂}
use mathlib.Core.List.{map-append}
use Rattle.std.specs.Prelude.{slice_get}
use Rattle.spv_logic.specs.declared.conditions.TermId.{TermId}
use Rattle.spv_logic.specs.declared.types.Sort.TheVariants as sort
use Rattle.spv_logic.specs.declared.types.Shape.{Shape}
use Rattle.spv_logic.specs.declared.types.Decl.{Decl}
use Rattle.spv_logic.specs.declared.operators.Head.TheVariants as head
use Rattle.spv_logic.specs.Terms.{Term}
use Rattle.spv_logic.proofs.Equality.{term_eq-refl}
use Rattle.spv_logic.specs.Formulas.{negation, below}
use Rattle.spv_logic.specs.Sorts.{term_sort, with_sorts, sort_before, result_sort}
use Rattle.spv_term.specs.declared.nodes.Condition.{Condition}
use Rattle.spv_term.specs.Arena.{Arena, tree}
use Rattle.spv_atoms.specs.Atoms as sorts
use Rattle.spv_atoms.specs.Atoms.{has_sort, is_number}
use Rattle.spv_atoms.proofs.Members.{has, has-left, or_left}
use Rattle.spv_proof_rules.specs.Sums.{negated}
use Rattle.spv_proof_rules.specs.Evaluation.{cites, evaluates}
use Rattle.spv_proof_rules.specs.Effects.{is_negation_of, is_truth, contrary}
use Rattle.spv_proof_rules.specs.Stand.{question}
use Rattle.spv_tableau_rules.specs.constraints.Sayings.{literal}
use Rattle.spv_derivations.specs.declared.derivation.entries.Part.{Part}
use Rattle.spv_derivations.specs.declared.derivation.entries.Part.TheVariants.{True, False, Below, Above}
use Rattle.spv_derivations.specs.declared.derivation.entries.Entry.{Entry}
use Rattle.spv_derivations.specs.derivation.Derivation as derivation
use Rattle.spv_derivations.specs.derivation.Derivation.{PartFits}
use Rattle.spv_models.proofs.leaf_models.Values.{sort_known}
use Rattle.spv_models.specs.leaf_models.Laws.{AreFormulas}
use Rattle.spv_models.specs.leaf_models.Tables.{formulas_of}
use Rattle.spv_share.specs.declared.both.Both.{Both}
use Rattle.spv_share.specs.Both.{IsBoth, told}
use Rattle.spv_derivations.specs.branches.Paths.{facts_in, IsGrown, IsPath}
use Rattle.spv_assignments.specs.kleene.Passes.{StandsAt}
use Rattle.spv_assignments.specs.declared.partial_assignment.facts.Known.{Known}
use Rattle.spv_assignments.specs.declared.partial_assignment.lists.Listed.{Listed}
use Rattle.spv_assignments.specs.partial_assignment.Facts.{AreNumbered, fact_of, facts_of}
use Rattle.spv_assignments.specs.declared.partial_assignment.following.Following.{Following}
use Rattle.spv_assignments.specs.declared.partial_assignment.following.Following.TheVariants.{Question}
use Rattle.spv_assignments.specs.partial_assignment.Says.{Says}
use Rattle.spv_assignments.specs.partial_assignment.Following.{Contradicts, Follows, IsStill}
use Rattle.spv_assignments.proofs.partial_assignment.Clashing.{told_cites}
use Rattle.spv_assignments.proofs.monotonicity.Valued.{cited_have_values, literals_give_values}
use Rattle.spv_branch_theory.proofs.search_invariant.Relations.{question_formula}
use Rattle.spv_trail.specs.trail_states.Told.{IsStored, values_of}
use Rattle.spv_trail.proofs.trail_states.RowConstraint.{compared, from_found}
use Rattle.spv_trail.proofs.trail_states.Growing.{formula_truth, numbered_longer, stored_longer}
use Rattle.spv_trail.specs.asserted_steps.Steps.{HasNumber, IsDerived}
use Rattle.spv_trail.proofs.asserted_steps.Numbers.{derived_number, number_stays}
use Rattle.spv_trail.specs.declared.propagation.ending.End.{End}
use Rattle.spv_trail.specs.propagation.Learning.{AreCitable, EndsBy, EndsNow, HasLearned, IsLearnedOrEnded, IsLonger, MayCite, MayLearn}
use Rattle.spv_trail.specs.propagation.Telling.{AreToldAs, Goes}
use Rattle.spv_trail.proofs.propagation.Citing.{stored_citable}
use Rattle.spv_trail.proofs.propagation.Ends.{contrary_negation, ends_two}
use Rattle.spv_trail.proofs.propagation.Learned.{grown_then}
use Rattle.spv_trail.proofs.propagation.Changes.{goes_same}
use Rattle.std.proofs.lemmas.List.{append-nil}
use Rattle.spv_derivations.specs.derivation.Literals.{Literal}
use Rattle.spv_trail.proofs.backtracking.Going.{goes_on_then}
use Rattle.spv_trail.specs.declared.backtracking.path.Ground.{Ground}
use Rattle.spv_trail.specs.declared.backtracking.path.BranchTrail.{BranchTrail}
use Rattle.spv_trail.specs.declared.backtracking.growing.Growth.{Growth}
use Rattle.spv_trail.specs.declared.backtracking.growing.Growth.TheVariants as growth
use Rattle.spv_trail.specs.backtracking.Paths.{GoesOn, HasPath, IsAskedOf, IsBegun, IsEnded, IsHeld, IsStep, IsBranchTrail, WasTold, one_if_none, unvalued}
use Rattle.spv_trail.proofs.backtracking.Held.{question_asked, told_by_lists}

-- ---- how many questions have no value

no_more : (o p : Option Bool) → ((b : Bool) → o ≡ Some b → p ≡ Some b) → one_if_none p ≤ one_if_none o
no_more None None h = omega arith
no_more None (Some b) h = omega arith
no_more (Some b) p h = subst (λ (q : Option Bool). one_if_none q ≤ 0) (sym (h b refl)) (omega arith)

one_less : (o p : Option Bool) (b : Bool) → o ≡ None → p ≡ Some b → one_if_none p < one_if_none o
one_less o p b e f = subst (λ (x : Option Bool). one_if_none p < one_if_none x) (sym e) (subst (λ (x : Option Bool). one_if_none x < 1) (sym f) (omega arith))

module _ (a : Arena) (old new : List Known) (keeps : (t : Term) (b : Bool) → values_of a old t ≡ Some b → values_of a new t ≡ Some b) where
  not_more : (ts : List TermId) → unvalued a new ts ≤ unvalued a old ts
  not_more [] = omega arith
  not_more (t ∷ ts) = let r = not_more ts in let n = no_more (values_of a old (tree a t)) (values_of a new (tree a t)) (keeps (tree a t)) in omega (arith, r, n)

  pub fewer : (ts : List TermId) (i : ℕ) (t : TermId) (b : Bool) → slice_get ts i ≡ Some t → values_of a old (tree a t) ≡ None → values_of a new (tree a t) ≡ Some b → unvalued a new ts < unvalued a old ts
  fewer [] i t b e f g = absurd (cc)
  fewer (u ∷ ts) zero t b e f g =
      let same : u ≡ t = cc in
      let r = not_more ts in
      let n = one_less (values_of a old (tree a u)) (values_of a new (tree a u)) b (ap (λ (x : TermId). values_of a old (tree a x)) same ∙ f) (ap (λ (x : TermId). values_of a new (tree a x)) same ∙ g) in
      omega (arith, r, n)
  fewer (u ∷ ts) (suc i) t b e f g =
      let r = fewer ts i t b e f g in
      let n = no_more (values_of a old (tree a u)) (values_of a new (tree a u)) (keeps (tree a u)) in
      omega (arith, r, n)

-- ---- what a known fact says is of sort Bool

module _ (shapes : List Shape) (decls : List Decl) where
  negation_truth : (u : Term) → sorts.is_truth shapes decls u ≡ true → sorts.is_truth shapes decls (negation u) ≡ true
  negation_truth u e = ap (λ o. has_sort sort.Bool (with_sorts (sort_before o (Some [])) (result_sort shapes decls head.Not))) (sort_known sort.Bool (term_sort shapes decls u) e)

  below_truth : (x y : Term) → is_number shapes decls x ≡ true → is_number shapes decls y ≡ true → sorts.is_truth shapes decls (below x y) ≡ true
  below_truth x y e f =
      ap₂ (λ o p. has_sort sort.Bool (with_sorts (sort_before o (sort_before p (Some []))) (result_sort shapes decls head.Lt))) (sort_known sort.Int (term_sort shapes decls x) e) (sort_known sort.Int (term_sort shapes decls y) f)

no_negation_below : (u x y : Term) → negation u ≡ below x y → ⊥
no_negation_below u x y e = cc

bare_no_negation : (u v : Term) → negated v ≡ None → negation u ≡ v → ⊥
bare_no_negation u v bare e = let h : Some u ≡ None = ap negated e ∙ bare in cc

inside_same : (u v : Term) → negation u ≡ negation v → u ≡ v
inside_same u v e = cc

module _ (a : Arena) (c : Condition) (are : AreFormulas a.shapes a.decls (formulas_of (question a c).sequent)) (t : Term) (k : Known) (bare : negated (tree a k.term) ≡ None) (core : is_truth (question a c) (tree a k.term) ≡ true) where
  said_true : (p : Part) → PartFits a k.term p → t ≡ derivation.literal (tree a k.term) p → is_truth (question a c) t ≡ true
  said_true True fits e = ap (is_truth (question a c)) e ∙ core
  said_true False fits e = ap (is_truth (question a c)) e ∙ negation_truth a.shapes a.decls (tree a k.term) core
  said_true Below fits e = let m = compared a (tree a k.term) fits in ap (is_truth (question a c)) (e ∙ ap (λ (x : Term). derivation.literal x Below) m.is) ∙ below_truth a.shapes a.decls m.left m.right m.left_number m.right_number
  said_true Above fits e = let m = compared a (tree a k.term) fits in ap (is_truth (question a c)) (e ∙ ap (λ (x : Term). derivation.literal x Above) m.is) ∙ below_truth a.shapes a.decls m.right m.left m.right_number m.left_number

  said_false : (p : Part) → PartFits a k.term p → negation t ≡ derivation.literal (tree a k.term) p → is_truth (question a c) t ≡ true
  said_false True fits e = absurd (bare_no_negation t (tree a k.term) bare e)
  said_false False fits e = ap (is_truth (question a c)) (inside_same t (tree a k.term) e) ∙ core
  said_false Below fits e = let m = compared a (tree a k.term) fits in absurd (no_negation_below t m.left m.right (e ∙ ap (λ (x : Term). derivation.literal x Below) m.is))
  said_false Above fits e = let m = compared a (tree a k.term) fits in absurd (no_negation_below t m.right m.left (e ∙ ap (λ (x : Term). derivation.literal x Above) m.is))

-- a term of which a fact says that it has a truth is of sort Bool
pub told_truth : (a : Arena) (c : Condition) (es : List Entry) (ks : List Known) (b : Both) (t : Term) (truth : Bool) → AreFormulas a.shapes a.decls (formulas_of (question a c).sequent) → IsStored a c es ks (told b) → cites (facts_of a ks) (literal truth t) ≡ true → is_truth (question a c) t ≡ true
told_truth a c es ks b t truth are s m = by_truth truth (from_found (fact_of a) ks (literal truth t) m).place (from_found (fact_of a) ks (literal truth t) m).item (from_found (fact_of a) ks (literal truth t) m).there (from_found (fact_of a) ks (literal truth t) m).is
  where
    by_truth : (d : Bool) (i : ℕ) (k : Known) → slice_get ks i ≡ Some k → fact_of a k ≡ literal d t → is_truth (question a c) t ≡ true
    by_truth true i k at_it e = let f = s.founded i k at_it in said_true a c are t k f.bare (formula_truth (question a c) are (tree a k.term) f.formula) k.part f.fits (sym e)
    by_truth false i k at_it e = let f = s.founded i k at_it in said_false a c are t k f.bare (formula_truth (question a c) are (tree a k.term) f.formula) k.part f.fits (sym e)

-- ---- a contradiction

pub contradicted_value : (a : Arena) (c : Condition) (es : List Entry) (ks : List Known) (b : Both) (t : TermId) (truth : Bool) → IsStored a c es ks (told b) → Contradicts a (facts_of a ks) t truth → values_of a ks (tree a t) ≡ Some truth
contradicted_value a c es ks b t truth s h = cited_have_values (facts_of a ks) s.knowledge.literals (tree a t) truth (told_cites (facts_of a ks) (tree a t) truth h.is_told)

pub contradicted_truth : (a : Arena) (c : Condition) (es : List Entry) (ks : List Known) (b : Both) (t : TermId) (truth : Bool) → AreFormulas a.shapes a.decls (formulas_of (question a c).sequent) → IsStored a c es ks (told b) → Contradicts a (facts_of a ks) t truth → is_truth (question a c) (tree a t) ≡ true
contradicted_truth a c es ks b t truth are s h = told_truth a c es ks b (tree a t) truth are s (told_cites (facts_of a ks) (tree a t) truth h.is_told)

contrary_literals : (truth : Bool) (t : Term) → contrary (literal truth t) (literal (not truth) t) ≡ true
contrary_literals true t = contrary_negation t
contrary_literals false t = or_left (is_negation_of (negated (negation t)) t) (is_negation_of (negated t) (negation t)) (term_eq-refl t)

pub contradiction_ends : (a : Arena) (c : Condition) (cases : List Term) (es mid new : List Entry) (t : Term) (truth : Bool) (n m : ℕ) → HasNumber (question a c) cases es mid n (literal truth t) → IsDerived (question a c) cases mid new m (literal (not truth) t)
    → EndsNow a c cases es new (record { first = n; second = Some m })
contradiction_ends a c cases es mid new t truth n m h d = record {
  ends = record {
    path = d.path;
    closes =
        ends_two (question a c) (facts_in (question a c) new) n m (literal truth t) (literal (not truth) t)
        (number_stays (question a c) cases mid new n m (literal truth t) (literal (not truth) t) (derived_number (question a c) cases mid new m (literal (not truth) t) d) h.number) d.number (contrary_literals truth t);
  };
  grown = grown_then es mid new h.grown d.grown;
}

-- ---- a question whose truth follows

module _ (a : Arena) (c : Condition) (g : Ground) (old : BranchTrail) (asked : IsAskedOf a c g old.both) (t : TermId) (truth : Bool) (question_at : StandsAt g.questions.items t) where
  pub question_truth : is_truth (question a c) (tree a t) ≡ true
  question_truth = formula_truth (question a c) asked.ground.formulas (tree a t) (question_formula (question a c) asked.ground.formulas (tree a t) (question_asked a c g asked.ground question_at.place t question_at.is))

  pub may_learn : (cases : List Term) (es : List Entry) (n : ℕ) → IsBranchTrail a c cases old → IsDerived (question a c) cases old.derivation es n (literal truth (tree a t)) → MayLearn a c old.both.trail.falsity cases es old.known.items (told old.both) t truth n
  may_learn cases es n h d = record {
    formulas = asked.ground.formulas;
    falsity_is = h.both.sound.trail.falsity;
    path = d.path;
    stored = stored_longer a c old.derivation es old.known.items (told old.both) (literal truth (tree a t) ∷ []) d.facts_are h.settled.stored;
    formula = question_formula (question a c) asked.ground.formulas (tree a t) (question_asked a c g asked.ground question_at.place t question_at.is);
    says = d.number;
  }

  module _ (cases : List Term) (es es2 : List Entry) (ks2 : List Known) (h : IsBranchTrail a c cases old) (l : HasLearned a c cases (told old.both) es es2 old.known.items ks2 (literal truth (tree a t))) where
    pub learned_held : (mid : BranchTrail) → mid.derivation ≡ es2 → mid.known.items ≡ ks2 → mid.both ≡ old.both → mid.lists ≡ old.lists → IsHeld a c g mid
    learned_held mid course_is known_is both_is lists_are = record {
      asked = subst (IsAskedOf a c g) (sym both_is) asked;
      stored = subst (λ (xs : List Entry). IsStored a c xs mid.known.items (told mid.both)) (sym course_is)
          (subst (λ (xs : List Known). IsStored a c es2 xs (told mid.both)) (sym known_is) (subst (λ (x : Both). IsStored a c es2 ks2 (told x)) (sym both_is) l.stored));
      both = subst (IsBoth a) (sym both_is) h.both;
      told_ones = subst (λ (x : Listed). AreToldAs a g.questions.items x.all.items (told mid.both)) (sym lists_are)
          (subst (λ (x : Both). AreToldAs a g.questions.items old.lists.all.items (told x)) (sym both_is) (told_by_lists a c g cases old asked.ground h));
    }

    pub learned_begun : IsBegun a c cases ks2
    learned_begun = record {
      begun = λ u m. l.keeps u true (h.settled.begun u m);
      cases_known = λ u m. ap (λ (fs : List Term). has fs u) (ap (facts_of a) l.longer.is ∙ map-append (fact_of a) old.known.items l.longer.more) ∙ has-left (facts_of a old.known.items) (facts_of a l.longer.more) u (h.settled.cases_known u m);
    }

    pub learned_fewer : values_of a old.known.items (tree a t) ≡ None → unvalued a ks2 g.questions.items < unvalued a old.known.items g.questions.items
    learned_fewer none = fewer a old.known.items ks2 l.keeps g.questions.items question_at.place t truth question_at.is none (literals_give_values (facts_of a ks2) (tree a t) truth l.true_now)

-- ---- what comes of a fact that is learned

learned_none : (a : Arena) (c : Condition) (cases : List Term) (ls : List Literal) (es es2 : List Entry) (ks ks2 : List Known) (f : Term) (o : Option End) → o ≡ None → IsLearnedOrEnded a c cases ls es es2 ks ks2 f o → HasLearned a c cases ls es es2 ks ks2 f
learned_none a c cases ls es es2 ks ks2 f o e h = subst (λ (x : Option End). IsLearnedOrEnded a c cases ls es es2 ks ks2 f x) e h

learned_some : (a : Arena) (c : Condition) (cases : List Term) (ls : List Literal) (es es2 : List Entry) (ks ks2 : List Known) (f : Term) (o : Option End) (end : End) → o ≡ Some end → IsLearnedOrEnded a c cases ls es es2 ks ks2 f o → EndsNow a c cases es es2 end × (ks2 ≡ ks)
learned_some a c cases ls es es2 ks ks2 f o end e h = subst (λ (x : Option End). IsLearnedOrEnded a c cases ls es es2 ks ks2 f x) e h

module _ (a : Arena) (c : Condition) (g : Ground) (old : BranchTrail) (asked : IsAskedOf a c g old.both) (t : TermId) (truth : Bool) (question_at : StandsAt g.questions.items t) (follows : Follows a (facts_of a old.known.items) t truth) (es : List Entry) (n : ℕ) (slice : List Known)
    (slice_is : slice ≡ old.known.items)
    (derives : (cases : List Term) → IsPath (question a c) cases old.derivation → AreNumbered a (facts_in (question a c) old.derivation) slice → is_truth (question a c) (tree a t) ≡ true → evaluates (is_truth (question a c)) (facts_of a slice) (literal truth (tree a t)) ≡ true
    → IsDerived (question a c) cases old.derivation es n (literal truth (tree a t)))
    (es2 : List Entry) (ks2 : List Known) (o : Option End)
    (learns : (cases : List Term) (ls : List Literal) → MayLearn a c old.both.trail.falsity cases es old.known.items ls t truth n → IsLearnedOrEnded a c cases ls es es2 old.known.items ks2 (literal truth (tree a t)) o) where
  derived : (cases : List Term) → IsBranchTrail a c cases old → IsDerived (question a c) cases old.derivation es n (literal truth (tree a t))
  derived cases h =
      derives cases h.settled.path (subst (λ (ks : List Known). AreNumbered a (facts_in (question a c) old.derivation) ks) (sym slice_is) h.settled.stored.numbered) (question_truth a c g old asked t truth question_at)
      (subst (λ (ks : List Known). evaluates (is_truth (question a c)) (facts_of a ks) (literal truth (tree a t)) ≡ true) (sym slice_is) follows.follows)

  learned : (cases : List Term) → IsBranchTrail a c cases old → IsLearnedOrEnded a c cases (told old.both) es es2 old.known.items ks2 (literal truth (tree a t)) o
  learned cases h = learns cases (told old.both) (may_learn a c g old asked t truth question_at cases es n h (derived cases h))

  -- the path ends
  ended_now : (cases : List Term) → IsBranchTrail a c cases old → (end : End) → o ≡ Some end → EndsNow a c cases old.derivation es2 end
  ended_now cases h end is =
      let l = learned_some a c cases (told old.both) es es2 old.known.items ks2 (literal truth (tree a t)) o end is (learned cases h) in
      record { ends = l.0.ends; grown = grown_then old.derivation es es2 (derived cases h).grown l.0.grown }

  pub follow_ended : (cases : List Term) → IsBranchTrail a c cases old → (end : End) → o ≡ Some end → (new : BranchTrail) → new.derivation ≡ es2 → new.both ≡ old.both → IsEnded a c cases new end
  follow_ended cases h end is new course_is both_is = record {
    ends = subst (λ (xs : List Entry). EndsBy a c cases xs end) (sym course_is) (ended_now cases h end is).ends;
    both = subst (IsBoth a) (sym both_is) h.both;
  }

  pub follow_ended_goes : WasTold a c old → (end : End) → o ≡ Some end → (new : BranchTrail) → new.derivation ≡ es2 → new.both ≡ old.both → new.known.items ≡ ks2 → GoesOn a old new
  follow_ended_goes w end is new course_is both_is known_is = record {
    derivation = subst (IsGrown old.derivation) (sym course_is) (ended_now w.cases w.path_told end is).grown;
    known = record {
      more = [];
      is = known_is ∙ ((learned_some a c w.cases (told old.both) es es2 old.known.items ks2 (literal truth (tree a t)) o end is (learned w.cases w.path_told)).1 ∙ sym (append-nil old.known.items));
    };
    both = subst (Goes a old.both) (sym both_is) (goes_same a old.both);
  }

  -- it goes on
  module _ (is_none : o ≡ None) where
    has_learned : (cases : List Term) → IsBranchTrail a c cases old → HasLearned a c cases (told old.both) es es2 old.known.items ks2 (literal truth (tree a t))
    has_learned cases h = learned_none a c cases (told old.both) es es2 old.known.items ks2 (literal truth (tree a t)) o is_none (learned cases h)

    pub follow_held : WasTold a c old → (mid : BranchTrail) → mid.derivation ≡ es2 → mid.known.items ≡ ks2 → mid.both ≡ old.both → mid.lists ≡ old.lists → IsHeld a c g mid
    follow_held w mid e f h l = learned_held a c g old asked t truth question_at w.cases es es2 ks2 w.path_told (has_learned w.cases w.path_told) mid e f h l

    pub follow_path : WasTold a c old → HasPath a c es2
    follow_path w = record { cases = w.cases; path = (has_learned w.cases w.path_told).path }

    pub follow_told : (cases : List Term) → IsBranchTrail a c cases old → (mid new : BranchTrail) → mid.derivation ≡ es2 → mid.known.items ≡ ks2 → ((cs : List Term) → IsPath (question a c) cs mid.derivation → IsBegun a c cs mid.known.items → IsBranchTrail a c cs new) → new.known.items ≡ mid.known.items
        → IsBranchTrail a c cases new × (unvalued a new.known.items g.questions.items < unvalued a old.known.items g.questions.items)
    follow_told cases h mid new course_is known_is settles same =
        let l = has_learned cases h in (
          settles cases (subst (IsPath (question a c) cases) (sym course_is) l.path) (subst (IsBegun a c cases) (sym known_is) (learned_begun a c g old asked t truth question_at cases es es2 ks2 h l)),
          subst (λ (ks : List Known). unvalued a ks g.questions.items < unvalued a old.known.items g.questions.items) (sym (same ∙ known_is))
              (learned_fewer a c g old asked t truth question_at cases es es2 ks2 h l follows.has_none),
        )

    pub follow_goes : WasTold a c old → (mid new : BranchTrail) → mid.derivation ≡ es2 → mid.known.items ≡ ks2 → mid.both ≡ old.both → GoesOn a mid new → GoesOn a old new
    follow_goes w mid new course_is known_is both_is goes =
        let l = has_learned w.cases w.path_told in
        goes_on_then a old mid new
        (record {
          derivation = subst (IsGrown old.derivation) (sym course_is) (grown_then old.derivation es es2 (derived w.cases w.path_told).grown l.grown);
          known = subst (IsLonger old.known.items) (sym known_is) l.longer;
          both = subst (Goes a old.both) (sym both_is) (goes_same a old.both);
        }) goes

-- ---- a contradiction ends the path

module _ (a : Arena) (c : Condition) (old : BranchTrail) (t : TermId) (truth : Bool) (h : Contradicts a (facts_of a old.known.items) t truth) (mid new_course : List Entry) (n m : ℕ) (first second : List Known) (first_is : first ≡ old.known.items) (second_is : second ≡ old.known.items)
    (are : AreFormulas a.shapes a.decls (formulas_of (question a c).sequent))
    (one : (cases : List Term) → MayCite a c old.both.trail.falsity cases old.derivation first → is_truth (question a c) (tree a t) ≡ true → HasNumber (question a c) cases old.derivation mid n (literal truth (tree a t)))
    (two : (cases : List Term) → IsPath (question a c) cases mid → AreNumbered a (facts_in (question a c) mid) second → is_truth (question a c) (tree a t) ≡ true → evaluates (is_truth (question a c)) (facts_of a second) (literal (not truth) (tree a t)) ≡ true
    → IsDerived (question a c) cases mid new_course m (literal (not truth) (tree a t))) where
  contradict_now : (cases : List Term) → IsBranchTrail a c cases old → EndsNow a c cases old.derivation new_course (record { first = n; second = Some m })
  contradict_now cases p =
      let formula = contradicted_truth a c old.derivation old.known.items old.both t truth are p.settled.stored h in
      let f = one cases (record { falsity_is = p.both.sound.trail.falsity; path = p.settled.path; citable = subst (λ (ks : List Known). AreCitable a c old.derivation ks) (sym first_is) (stored_citable a c old.derivation old.known.items (told old.both) are p.settled.stored) }) formula in
      contradiction_ends a c cases old.derivation mid new_course (tree a t) truth n m f
      (two cases f.path
      (subst (λ (ks : List Known). AreNumbered a (facts_in (question a c) mid) ks) (sym second_is)
      (subst (λ (fs : List Term). AreNumbered a fs old.known.items) (sym f.facts_are) (numbered_longer a (facts_in (question a c) old.derivation) f.more old.known.items p.settled.stored.numbered)))
      formula (subst (λ (ks : List Known). evaluates (is_truth (question a c)) (facts_of a ks) (literal (not truth) (tree a t)) ≡ true) (sym second_is) h.follows))

  pub contradict_ended : (cases : List Term) → IsBranchTrail a c cases old → (new : BranchTrail) → new.derivation ≡ new_course → new.both ≡ old.both → IsEnded a c cases new (record { first = n; second = Some m })
  contradict_ended cases p new course_is both_is = record {
    ends = subst (λ (xs : List Entry). EndsBy a c cases xs (record { first = n; second = Some m })) (sym course_is) (contradict_now cases p).ends;
    both = subst (IsBoth a) (sym both_is) p.both;
  }

  pub contradict_goes : WasTold a c old → (new : BranchTrail) → new.derivation ≡ new_course → new.both ≡ old.both → new.known ≡ old.known → GoesOn a old new
  contradict_goes w new course_is both_is known_is = record {
    derivation = subst (IsGrown old.derivation) (sym course_is) (contradict_now w.cases w.path_told).grown;
    known = record { more = []; is = ap (λ k. k.items) known_is ∙ sym (append-nil old.known.items) };
    both = subst (Goes a old.both) (sym both_is) (goes_same a old.both);
  }

-- ---- what `next` says

pub says_question : (a : Arena) (known slice : List Known) (asked : List TermId) → slice ≡ known → (f : Following) (t : TermId) (b : Bool) → f ≡ Question t b → Says a (facts_of a slice) asked f → Follows a (facts_of a known) t b
says_question a known slice asked e f t b is h = subst (λ (ks : List Known). Follows a (facts_of a ks) t b) e (subst (λ (x : Following). Says a (facts_of a slice) asked x) is h).1

-- ---- one step

module _ (a : Arena) (c : Condition) (asked : List TermId) (cases : List Term) (old new : BranchTrail) (s : Growth) where
  pub step_done : s ≡ growth.Done → IsStep a c asked cases old new s → IsBranchTrail a c cases old → IsBranchTrail a c cases new × IsStill a (facts_of a new.known.items) asked
  step_done e h p =
      let k = subst (λ (x : Growth). IsStep a c asked cases old new x) e h in
      (subst (IsBranchTrail a c cases) (sym k.0) p, k.1)

  pub step_more : s ≡ growth.More → IsStep a c asked cases old new s → IsBranchTrail a c cases new
  step_more e h = (subst (λ (x : Growth). IsStep a c asked cases old new x) e h).0

  pub step_fewer : s ≡ growth.More → IsStep a c asked cases old new s → unvalued a new.known.items asked < unvalued a old.known.items asked
  step_fewer e h = (subst (λ (x : Growth). IsStep a c asked cases old new x) e h).1

  pub step_ended : (end : End) → s ≡ growth.Ended end → IsStep a c asked cases old new s → IsEnded a c cases new end
  step_ended end e h = subst (λ (x : Growth). IsStep a c asked cases old new x) e h
