-- An accepted proof makes what it shows true.
use Rattle.std.proofs.Common.{◌≡◌, ℕ, zero, suc, Bool, true, false, cond, ◌&&◌, ◌||◌, not, List, [], ◌∷◌, ◌++◌, map, ℤ, pos, ◌+ℤ◌, ◌-ℤ◌, ◌⊎◌, inl, inr, refl, sym, ap, ◌∙◌, subst, Option, Some, None, arith}
use Rattle.std.specs.Prelude.{slice_get}
use Rattle.std.specs.List.{list_all}
use mathlib.Core.Path.{ap₂}
use Rattle.std.proofs.lemmas.Bool.{false≢true}
use Rattle.std.proofs.lemmas.Int.{ints}
use Rattle.std.specs.Int.RustNames.{int_lt}
use Rattle.std.specs.Cmp.Derive.{both_true}
use Rattle.spv_logic.proofs.list.Tests.{left_true, right_true}
use Rattle.spv_whole.specs.Fraction.{Fraction}
use Rattle.spv_logic.specs.declared.names.names.Symbol.{Symbol}
use Rattle.spv_logic.specs.declared.conditions.TermId.{TermId}
use Rattle.spv_logic.specs.declared.types.Shape.{Shape}
use Rattle.spv_logic.specs.declared.types.Decl.{Decl}
use Rattle.spv_logic.specs.declared.types.Sort.{Sort}
use Rattle.spv_logic.specs.declared.operators.Head.{Head}
use Rattle.spv_logic.specs.declared.operators.Head.TheVariants.{Eq, Lt, Le, True, False}
use Rattle.spv_logic.specs.declared.operators.Head.TheVariants as head
use Rattle.spv_logic.specs.Values.{Value, Number, value_eq, number_of, truth_of}
use Rattle.spv_logic.specs.Terms.{Term, Terms, term, no_terms, terms, head_eq, sort_eq, term_eq, eval, eval_all, worth}
use Rattle.spv_logic.specs.Shapes.{shapes_ok}
use Rattle.spv_logic.specs.Formulas.{negation, equation}
use Rattle.spv_logic.specs.Fits.{fits, on_sort}
use Rattle.spv_logic.specs.Sorts.{term_sort, variable_sort}
use Rattle.spv_logic.specs.Substitution.{substitute, under, value_under}
use Rattle.spv_logic.specs.Conditions.{Meaning, Valuation, Sequent, IsValuation, TrueIn, answers, holds}
use Rattle.spv_logic.proofs.Equality.{value_eq-true, value_eq-refl, sort_eq-true, term_eq-true, head_eq-true}
use Rattle.spv_logic.proofs.Sorting.{eval-fits}
use Rattle.spv_logic.proofs.Substitution.{eval-substitute}
use Rattle.spv_schemas.specs.declared.kinds.SchemaKind.{SchemaKind}
use Rattle.spv_schemas.specs.Kinds.{kind_of_number}
use Rattle.spv_schemas.proofs.Soundness as schemas
use Rattle.spv_atoms.specs.declared.proofs.Relation.{Relation}
use Rattle.spv_atoms.specs.declared.proofs.Relation.TheVariants.{AtMost, Equal}
use Rattle.spv_atoms.specs.declared.proofs.Step.{Step}
use Rattle.spv_atoms.specs.declared.proofs.Step.TheVariants as step
use Rattle.spv_atoms.specs.declared.proofs.Split.{Split}
use Rattle.spv_atoms.specs.declared.proofs.ProofNode.{ProofNode}
use Rattle.spv_atoms.specs.Forms.{form, minus, parts_worth, form_worth}
use Rattle.spv_atoms.specs.Tables.{numeral_relation}
use Rattle.spv_atoms.specs.Atoms as atoms
use Rattle.spv_atoms.proofs.Worth.{worth_is, minus-worth}
use Rattle.spv_atoms.proofs.Truths.{Known}
use Rattle.spv_atoms.proofs.Truths as truths
use Rattle.spv_proof_rules.specs.Sums.{Comparison, Equals, IsBelow, IsAtMost, comparison, negated, Reading, difference, is_at_most_zero, read_true, read_false, sides_pass, read_if, read_relation, read_by, read_cited, cited_reading, refutes}
use Rattle.spv_proof_rules.specs.Evaluation.{sides, evaluates}
use Rattle.spv_proof_rules.specs.Rules.{Rule, placed, have_sorts, instance, instance_of, numbered_rule, RuleHolds, RulesHold}
use Rattle.spv_proof_rules.specs.Effects.{Question, Effect, Adds, Ends, Fails, is_number, adds_if, adds_known, numbered, fact_before, cited, sides_of, exchanged, joined, is_fact, all_equal, congruent, at_most, is_empty, linear, stated, evaluated, is_negation_of, contrary, is_false, impossible, ends_if, end_of_one, end_of_two, end_of, fact_of_kind, schema_stated, rule_stated, effect}
use Rattle.spv_proof_rules.specs.Accepted.{Path, Open, Closed, Broken, closed_if_last, on_effect, walk, two_cases, three_cases, cases_by_sides, cases_of, opened_if, after_node, on_opened, closes, accepts}
use Rattle.spv_proof_rules.proofs.Combinations.{Says, no_refutation}
use Rattle.spv_proof_rules.proofs.Evaluating as evaluating

-- ---- lists of formulas

all_append : (test : Term → Bool) (xs ys : List Term) → list_all test xs ≡ true → list_all test ys ≡ true → list_all test (xs ++ ys) ≡ true
all_append test [] ys h g = g
all_append test (x ∷ xs) ys h g = both_true (left_true (test x) _ h) (all_append test xs ys (right_true (test x) _ h) g)

all_get : (test : Term → Bool) (xs : List Term) (k : ℕ) (t : Term) → list_all test xs ≡ true → slice_get xs k ≡ Some t → test t ≡ true
all_get test [] k t h e = cc
all_get test (x ∷ xs) zero t h e = let same : x ≡ t = cc in ap test (sym same) ∙ left_true _ _ h
all_get test (x ∷ xs) (suc k) t h e = all_get test xs k t (right_true (test x) _ h) e

-- ---- sorts

sort_told : (o : Option Sort) (s : Sort) → on_sort o (sort_eq s) ≡ true → o ≡ Some s
sort_told None s h = absurd (false≢true h)
sort_told (Some t) s h = ap Some (sym (sort_eq-true s t h))

-- ---- bounds of whole numbers

equal_zero : (a b : ℤ) → a ≡ b → a -ℤ b +ℤ pos 0 ≡ pos 0
equal_zero a b e = omega (arith, ints, e)

below_bound : (a b : ℤ) → int_lt a b ≡ true → int_lt (pos 0) (a -ℤ b +ℤ pos 1) ≡ false
below_bound a b h = grind (arith, ints)

at_most_bound : (a b : ℤ) → int_lt b a ≡ false → int_lt (pos 0) (a -ℤ b +ℤ pos 0) ≡ false
at_most_bound a b h = grind (arith, ints)

+ℤ_assoc : (a b c : ℤ) → a +ℤ (b +ℤ c) ≡ a +ℤ b +ℤ c
+ℤ_assoc a b c = omega (arith, ints)

-- of two numbers, neither below the other, each is the other
no_order : (a b : ℤ) → int_lt a b ≡ false → int_lt b a ≡ false → a ≡ b
no_order a b h k = grind (arith, ints)

not_true : (b : Bool) → (b ≡ true → ⊥) → b ≡ false
not_true true h = absurd (h refl)
not_true false h = refl

not_false : (b : Bool) → not b ≡ true → b ≡ false
not_false true h = absurd (false≢true h)
not_false false h = refl

not_not : (b : Bool) → not b ≡ false → b ≡ true
not_not true h = refl
not_not false h = absurd (false≢true (sym h))

-- ---- what is true in one world under one valuation

module _ (shapes : List Shape) (ok : shapes_ok shapes ≡ true) (decls : List Decl) (world : Meaning) (v : Valuation) (typed : IsValuation shapes v) where
  abbrev worth_of : Term → Value
  worth_of t = eval (answers shapes decls world) v t

  abbrev symbols : Meaning
  symbols = answers shapes decls world

  abbrev true_in : Term → Bool
  true_in t = holds (answers shapes decls world) v t

  abbrev number_in : Term → ℤ
  number_in t = number_of (worth_of t)

  negated_is : (t s : Term) → negated t ≡ Some s → true_in t ≡ not (true_in s)
  negated_is = evaluating.negated_is shapes ok decls world v typed

  equal_sides : (t : Term) (st : Term × Term) → sides t ≡ Some st → true_in t ≡ value_eq (worth_of st.0) (worth_of st.1)
  equal_sides = evaluating.equal_sides shapes ok decls world v typed

  -- ---- readings

  -- whether a relation holds
  abbrev relation_holds : Comparison → Bool
  relation_holds (Equals a b) = value_eq (worth_of a) (worth_of b)
  relation_holds (IsBelow a b) = int_lt (number_in a) (number_in b)
  relation_holds (IsAtMost a b) = not (int_lt (number_in b) (number_in a))

  comparison_is : (t : Term) (c : Comparison) → comparison t ≡ Some c → true_in t ≡ relation_holds c
  comparison_is (term Eq (terms s (terms t no_terms))) c e = let same : Equals s t ≡ c = cc in ap relation_holds same
  comparison_is (term Lt (terms s (terms t no_terms))) c e = let same : IsBelow s t ≡ c = cc in ap relation_holds same
  comparison_is (term Le (terms s (terms t no_terms))) c e = let same : IsAtMost s t ≡ c = cc in ap relation_holds same
  comparison_is _ c e = cc

  difference_worth : (a b : Term) (more : ℤ) → form_worth number_in (difference a b more) ≡ number_in a -ℤ number_in b +ℤ more
  difference_worth a b more =
      let f = minus (form a) (form b) in
      +ℤ_assoc (parts_worth number_in f.parts) f.constant more
      ∙ ap (λ z. z +ℤ more) (minus-worth number_in (form a) (form b) ∙ sym (ap₂ ◌-ℤ◌ (worth_is (answers shapes decls world) v a) (worth_is (answers shapes decls world) v b)))

  bound_says : (a b : Term) (more : ℤ) → int_lt (pos 0) (number_in a -ℤ number_in b +ℤ more) ≡ false → Says number_in (is_at_most_zero (difference a b more))
  bound_says a b more h = record {
    at_most = ap (int_lt (pos 0)) (difference_worth a b more) ∙ h;
    equal = λ e. absurd (false≢true e);
  }

  true_says : (c : Comparison) → relation_holds c ≡ true → Says number_in (read_true c)
  true_says (Equals a b) h =
      let zero_is = difference_worth a b (pos 0) ∙ equal_zero (number_in a) (number_in b) (ap number_of (value_eq-true (worth_of a) (worth_of b) h)) in
      record { at_most = ap (int_lt (pos 0)) zero_is; equal = λ e. zero_is }
  true_says (IsBelow a b) h = bound_says a b (pos 1) (below_bound (number_in a) (number_in b) h)
  true_says (IsAtMost a b) h = bound_says a b (pos 0) (at_most_bound (number_in a) (number_in b) (not_false (int_lt (number_in b) (number_in a)) h))

  false_says : (c : Comparison) (r : Reading) → relation_holds c ≡ false → read_false c ≡ Some r → Says number_in r
  false_says (Equals a b) r h e = cc
  false_says (IsBelow a b) r h e =
      let same : is_at_most_zero (difference b a (pos 0)) ≡ r = cc in
      subst (Says number_in) same (bound_says b a (pos 0) (at_most_bound (number_in b) (number_in a) h))
  false_says (IsAtMost a b) r h e =
      let same : is_at_most_zero (difference b a (pos 1)) ≡ r = cc in
      subst (Says number_in) same (bound_says b a (pos 1) (below_bound (number_in b) (number_in a) (not_not (int_lt (number_in b) (number_in a)) h)))

  if_is : (b : Bool) (o : Option Reading) (r : Reading) → read_if b o ≡ Some r → o ≡ Some r
  if_is true o r e = e
  if_is false o r e = cc

  relation_says : (is_number : Term → Bool) (read : Comparison → Option Reading) (o : Option Comparison) (r : Reading) → read_relation is_number read o ≡ Some r
      → ((c : Comparison) → o ≡ Some c → read c ≡ Some r → Says number_in r) → Says number_in r
  relation_says is_number read None r e h = cc
  relation_says is_number read (Some c) r e h = h c refl (if_is (sides_pass is_number c) (read c) r e)

  read_by_says : (is_number : Term → Bool) (t : Term) (r : Reading) (o : Option Term) → negated t ≡ o → read_by is_number o t ≡ Some r → true_in t ≡ true → Says number_in r
  read_by_says is_number t r None n e h =
      relation_says is_number (λ c. Some (read_true c)) (comparison t) r e
      (λ c f g. let same : read_true c ≡ r = cc in subst (Says number_in) same (true_says c (sym (comparison_is t c f) ∙ h)))
  read_by_says is_number t r (Some u) n e h =
      relation_says is_number read_false (comparison u) r e
      (λ c f g. false_says c r (sym (comparison_is u c f) ∙ not_false (true_in u) (sym (negated_is t u n) ∙ h)) g)

  cited_says : (is_number : Term → Bool) (facts : List Term) (denied : Reading) → list_all true_in facts ≡ true → Says number_in denied
      → (k : ℕ) (r : Reading) → cited_reading is_number facts denied k ≡ Some r → Says number_in r
  cited_says is_number facts denied h d zero r e = let same : denied ≡ r = cc in subst (Says number_in) same d
  cited_says is_number facts denied h d (suc k) r e = by_case (slice_get facts k) refl e
    where
      by_case : (o : Option Term) → slice_get facts k ≡ o → read_cited is_number o ≡ Some r → Says number_in r
      by_case None f e = cc
      by_case (Some t) f e = read_by_says is_number t r (negated t) refl e (all_get true_in facts k t h f)

  -- where multiples of true facts contradict that a is above b, it is not
  refuted : (is_number : Term → Bool) (facts : List Term) (a b : Term) (multiples : List (Fraction × ℕ)) → list_all true_in facts ≡ true → refutes is_number facts a b multiples ≡ true
      → int_lt (number_in b) (number_in a) ≡ false
  refuted is_number facts a b multiples h e =
      not_true (int_lt (number_in b) (number_in a))
      (λ above. no_refutation number_in is_number facts a b multiples (cited_says is_number facts (is_at_most_zero (difference b a (pos 1))) h (bound_says b a (pos 1) (below_bound (number_in b) (number_in a) above))) e)

  -- ---- steps

  abbrev EffectIsRight : Effect → Type 0
  EffectIsRight (Adds t) = true_in t ≡ true
  EffectIsRight Ends = ⊥
  EffectIsRight Fails = Unit {0}

  numbered_true : (facts : List Term) (k : ℕ) (t : Term) → list_all true_in facts ≡ true → numbered facts k ≡ Some t → true_in t ≡ true
  numbered_true facts zero t h e = cc
  numbered_true facts (suc k) t h e = all_get true_in facts k t h e

  known_true : (o : Option Term) → ((t : Term) → o ≡ Some t → true_in t ≡ true) → EffectIsRight (adds_known o)
  known_true None h = tt
  known_true (Some t) h = h t refl

  -- the sides of a true equation are worth the same
  sides_same : (t : Term) (st : Term × Term) → sides t ≡ Some st → true_in t ≡ true → worth_of st.0 ≡ worth_of st.1
  sides_same t st e h = value_eq-true (worth_of st.0) (worth_of st.1) (sym (equal_sides t st e) ∙ h)

  sides_of_same : (o : Option Term) (st : Term × Term) → sides_of o ≡ Some st → ((t : Term) → o ≡ Some t → true_in t ≡ true) → worth_of st.0 ≡ worth_of st.1
  sides_of_same None st e h = cc
  sides_of_same (Some t) st e h = sides_same t st e (h t refl)

  equal_true : (s t : Term) → worth_of s ≡ worth_of t → true_in (equation s t) ≡ true
  equal_true s t e = ap (λ w. value_eq w (worth_of t)) e ∙ value_eq-refl (worth_of t)

  exchanged_right : (o : Option (Term × Term)) → ((st : Term × Term) → o ≡ Some st → worth_of st.0 ≡ worth_of st.1) → EffectIsRight (exchanged o)
  exchanged_right None h = tt
  exchanged_right (Some st) h = equal_true st.1 st.0 (sym (h st refl))

  joined_right : (o p : Option (Term × Term)) → ((st : Term × Term) → o ≡ Some st → worth_of st.0 ≡ worth_of st.1) → ((st : Term × Term) → p ≡ Some st → worth_of st.0 ≡ worth_of st.1) → EffectIsRight (joined o p)
  joined_right None p h g = tt
  joined_right (Some st) None h g = tt
  joined_right (Some st) (Some tu) h g = by_case (term_eq st.1 tu.0) refl
    where
      by_case : (b : Bool) → term_eq st.1 tu.0 ≡ b → EffectIsRight (adds_if b (equation st.0 tu.1))
      by_case true e = equal_true st.0 tu.1 (h st refl ∙ (ap worth_of (term_eq-true st.1 tu.0 e) ∙ g tu refl))
      by_case false e = tt

  fact_before_true : (o : Option Term) (rest : Option (List Term)) (all : List Term) → fact_before o rest ≡ Some all → ((t : Term) → o ≡ Some t → true_in t ≡ true) → ((ts : List Term) → rest ≡ Some ts → list_all true_in ts ≡ true) → list_all true_in all ≡ true
  fact_before_true None rest all e h g = cc
  fact_before_true (Some t) None all e h g = cc
  fact_before_true (Some t) (Some ts) all e h g =
      let same : (t ∷ ts) ≡ all = cc in
      ap (list_all true_in) (sym same) ∙ both_true (h t refl) (g ts refl)

  cited_true : (facts : List Term) (ks : List ℕ) (all : List Term) → list_all true_in facts ≡ true → cited facts ks ≡ Some all → list_all true_in all ≡ true
  cited_true facts [] all h e = let same : [] ≡ all = cc in ap (list_all true_in) (sym same)
  cited_true facts (k ∷ ks) all h e =
      fact_before_true (numbered facts k) (cited facts ks) all e (λ t f. numbered_true facts k t h f) (λ ts f. cited_true facts ks ts h f)

  adds_right : (b : Bool) (t : Term) → (b ≡ true → true_in t ≡ true) → EffectIsRight (adds_if b t)
  adds_right true t h = h refl
  adds_right false t h = tt

  evaluated_right : (o : Option Term) (c : Option (List Term)) → ((facts : List Term) → c ≡ Some facts → list_all true_in facts ≡ true) → EffectIsRight (evaluated (atoms.is_truth shapes decls) o c)
  evaluated_right None c h = tt
  evaluated_right (Some formula) None h = tt
  evaluated_right (Some formula) (Some facts) h =
      adds_right (evaluates (atoms.is_truth shapes decls) facts formula) formula (λ e. evaluating.evaluates_true shapes ok decls world v typed facts formula (h facts refl) e)

  -- ---- congruence

  fact_true : (o : Option Term) (t : Term) → ((s : Term) → o ≡ Some s → true_in s ≡ true) → is_fact o t ≡ true → true_in t ≡ true
  fact_true None t h e = absurd (false≢true e)
  fact_true (Some s) t h e = ap true_in (sym (term_eq-true s t e)) ∙ h s refl

  all_equal_worth : (facts : List Term) (ts us : Terms) (ks : List ℕ) → list_all true_in facts ≡ true → all_equal facts ts us ks ≡ true
      → eval_all (answers shapes decls world) v ts ≡ eval_all (answers shapes decls world) v us
  all_equal_worth facts no_terms no_terms [] h e = refl
  all_equal_worth facts (terms t ts) (terms u us) (k ∷ ks) h e =
      let same = value_eq-true (worth_of t) (worth_of u) (fact_true (numbered facts k) (equation t u) (λ s f. numbered_true facts k s h f) (left_true _ _ e)) in
      let others = all_equal_worth facts ts us ks h (right_true (is_fact (numbered facts k) (equation t u)) _ e) in
      ap₂ (λ (x : Value) (xs : List Value). x ∷ xs) same others
  all_equal_worth _ _ _ _ h e = absurd (false≢true e)

  congruent_worth : (facts : List Term) (t u : Term) (ks : List ℕ) → list_all true_in facts ≡ true → congruent facts t u ks ≡ true → worth_of t ≡ worth_of u
  congruent_worth facts (term f ts) (term g us) ks h e =
      ap₂ (worth (answers shapes decls world) v) (head_eq-true f g (left_true (head_eq f g) _ e)) (all_equal_worth facts ts us ks h (right_true (head_eq f g) _ e))

  or_case : {A : Type 0} (a b : Bool) → (a || b) ≡ true → (a ≡ true → A) → (b ≡ true → A) → A
  or_case true b h f g = f refl
  or_case false b h f g = g h

  contrary_side : (s t : Term) (o : Option Term) → negated s ≡ o → is_negation_of o t ≡ true → true_in s ≡ true → true_in t ≡ true → ⊥
  contrary_side s t None e h a b = false≢true h
  contrary_side s t (Some u) e h a b =
      let same = term_eq-true u t h in
      false≢true (sym (ap not (ap true_in same ∙ b)) ∙ (sym (negated_is s u e) ∙ a))

  contrary_false : (s t : Term) → contrary s t ≡ true → true_in s ≡ true → true_in t ≡ true → ⊥
  contrary_false s t h a b =
      or_case (is_negation_of (negated s) t) (is_negation_of (negated t) s) h
      (λ e. contrary_side s t (negated s) refl e a b)
      (λ e. contrary_side t s (negated t) refl e b a)

  false_relation : (t : Term) (o : Option Bool) → Known (true_in t) o → is_false o ≡ true → true_in t ≡ true → ⊥
  false_relation t None k h a = false≢true h
  false_relation t (Some b) k h a = false≢true (sym (ap not (sym (k.tells b refl) ∙ a)) ∙ h)

  impossible_false : (t : Term) → impossible t ≡ true → true_in t ≡ true → ⊥
  impossible_false t h a =
      or_case (term_eq t (term False no_terms)) _ h
      (λ e. false≢true (sym (ap true_in (term_eq-true t (term False no_terms) e)) ∙ a))
      (λ k. or_case (term_eq t (negation (term True no_terms))) (is_false (numeral_relation t)) k
      (λ e. false≢true (sym (ap true_in (term_eq-true t (negation (term True no_terms)) e)) ∙ a))
      (λ e. false_relation t (numeral_relation t) (truths.relation_known shapes ok decls world v typed t) e a))

  end_right : (b : Bool) → (b ≡ true → ⊥) → EffectIsRight (ends_if b)
  end_right true h = h refl
  end_right false h = tt

  end_of_one_right : (o : Option Term) → ((t : Term) → o ≡ Some t → true_in t ≡ true) → EffectIsRight (end_of_one o)
  end_of_one_right None h = tt
  end_of_one_right (Some t) h = end_right (impossible t) (λ e. impossible_false t e (h t refl))

  end_of_two_right : (o p : Option Term) → ((t : Term) → o ≡ Some t → true_in t ≡ true) → ((t : Term) → p ≡ Some t → true_in t ≡ true) → EffectIsRight (end_of_two o p)
  end_of_two_right None p h g = tt
  end_of_two_right (Some s) None h g = tt
  end_of_two_right (Some s) (Some t) h g = end_right (contrary s t) (λ e. contrary_false s t e (h s refl) (g t refl))

  end_of_right : (facts : List Term) (i : ℕ) (j : Option ℕ) → list_all true_in facts ≡ true → EffectIsRight (end_of facts (numbered facts i) j)
  end_of_right facts i None h = end_of_one_right (numbered facts i) (λ t e. numbered_true facts i t h e)
  end_of_right facts i (Some k) h = end_of_two_right (numbered facts i) (numbered facts k) (λ t e. numbered_true facts i t h e) (λ t e. numbered_true facts k t h e)

  -- ---- relations and cases of whole numbers

  equal_numbers : (a b : Term) → atoms.is_number shapes decls a ≡ true → atoms.is_number shapes decls b ≡ true → number_in a ≡ number_in b → worth_of a ≡ worth_of b
  equal_numbers a b h k e =
      truths.number_worth shapes ok decls world v typed a h ∙ (ap Number e ∙ sym (truths.number_worth shapes ok decls world v typed b k))

  at_most_right : (facts : List Term) (a b : Term) (first second : List (Fraction × ℕ)) → list_all true_in facts ≡ true
      → (atoms.is_number shapes decls a && (atoms.is_number shapes decls b && (is_empty second && refutes (atoms.is_number shapes decls) facts a b first))) ≡ true → true_in (at_most a b) ≡ true
  at_most_right facts a b first second h e =
      let numbers = right_true (atoms.is_number shapes decls a) _ e in
      let lists = right_true (atoms.is_number shapes decls b) _ numbers in
      ap not (refuted (atoms.is_number shapes decls) facts a b first h (right_true (is_empty second) _ lists))

  equal_right : (facts : List Term) (a b : Term) (first second : List (Fraction × ℕ)) → list_all true_in facts ≡ true
      → (atoms.is_number shapes decls a && (atoms.is_number shapes decls b && (refutes (atoms.is_number shapes decls) facts a b first && refutes (atoms.is_number shapes decls) facts b a second))) ≡ true
      → true_in (equation a b) ≡ true
  equal_right facts a b first second h e =
      let numbers = right_true (atoms.is_number shapes decls a) _ e in
      let lists = right_true (atoms.is_number shapes decls b) _ numbers in
      let one_way = refuted (atoms.is_number shapes decls) facts a b first h (left_true (refutes (atoms.is_number shapes decls) facts a b first) _ lists) in
      let other_way = refuted (atoms.is_number shapes decls) facts b a second h (right_true (refutes (atoms.is_number shapes decls) facts a b first) _ lists) in
      equal_true a b (equal_numbers a b (left_true _ _ e) (left_true _ _ numbers) (no_order (number_in a) (number_in b) other_way one_way))

  -- one of these formulas is true
  abbrev SomeTrue : List Term → Type 0
  SomeTrue [] = ⊥
  SomeTrue (t ∷ ts) = (true_in t ≡ true) ⊎ SomeTrue ts

  two_right : (t : Term) → SomeTrue (two_cases t)
  two_right t = by_case (true_in t) refl
    where
      by_case : (b : Bool) → true_in t ≡ b → SomeTrue (two_cases t)
      by_case true e = inl e
      by_case false e = inr (inl (ap not e))

  three_right : (st : Term × Term) → atoms.is_number shapes decls st.0 ≡ true → atoms.is_number shapes decls st.1 ≡ true → SomeTrue (three_cases st)
  three_right st h k = by_case (int_lt (number_in st.0) (number_in st.1)) (int_lt (number_in st.1) (number_in st.0)) refl refl
    where
      by_case : (a b : Bool) → int_lt (number_in st.0) (number_in st.1) ≡ a → int_lt (number_in st.1) (number_in st.0) ≡ b → SomeTrue (three_cases st)
      by_case true b e f = inr (inl e)
      by_case false true e f = inr (inr (inl f))
      by_case false false e f = inl (equal_true st.0 st.1 (equal_numbers st.0 st.1 h k (no_order (number_in st.0) (number_in st.1) e f)))

  cases_right : (t : Term) (o : Option (Term × Term)) → SomeTrue (cases_by_sides (atoms.is_number shapes decls) o t)
  cases_right t None = two_right t
  cases_right t (Some st) = by_case (atoms.is_number shapes decls st.0 && atoms.is_number shapes decls st.1) refl
    where
      by_case : (b : Bool) → (atoms.is_number shapes decls st.0 && atoms.is_number shapes decls st.1) ≡ b → SomeTrue (cond b (three_cases st) (two_cases t))
      by_case true e = three_right st (left_true _ _ e) (right_true (atoms.is_number shapes decls st.0) _ e)
      by_case false e = two_right t

  -- ---- paths

  -- no path among these has true facts alone
  abbrev NonePasses : List (List Term) → Type 0
  NonePasses [] = Unit {0}
  NonePasses (facts ∷ paths) = (list_all true_in facts ≡ true → ⊥) × NonePasses paths

  passes_after : (new paths : List (List Term)) → NonePasses (new ++ paths) → NonePasses paths
  passes_after [] paths h = h
  passes_after (facts ∷ new) paths h = passes_after new paths h.1

  passes_before : (new paths : List (List Term)) → NonePasses (new ++ paths) → NonePasses new
  passes_before [] paths h = tt
  passes_before (facts ∷ new) paths h = (h.0, passes_before new paths h.1)

  -- where the facts of a path are true and one of its cases is, one of the paths that it opens passes
  no_case : (facts cases : List Term) → list_all true_in facts ≡ true → SomeTrue cases → NonePasses (map (λ f. facts ++ f ∷ []) cases) → ⊥
  no_case facts [] h some none = some
  no_case facts (t ∷ cases) h some none = elim some [ inl e ↦ none.0 (all_append true_in facts (t ∷ []) h (both_true e refl)) | inr others ↦ no_case facts cases h others none.1 ]

  -- ---- rules

  -- a valuation stays one where terms of their sorts stand in the place of variables
  placed_fits : (xs : List Head) (ts : List Term) → have_sorts shapes decls xs ts ≡ true → (h : Head) (w : Value) → fits shapes w (variable_sort h) ≡ true
      → fits shapes (value_under symbols v (placed xs ts h) w) (variable_sort h) ≡ true
  placed_fits [] [] e h w old = old
  placed_fits [] (t ∷ ts) e h w old = absurd (false≢true e)
  placed_fits (x ∷ xs) [] e h w old = old
  placed_fits (x ∷ xs) (t ∷ ts) e h w old =
      by_case (head_eq x h) refl (placed_fits xs ts (right_true (on_sort (term_sort shapes decls t) (sort_eq (variable_sort x))) _ e) h w old)
    where
      by_case : (b : Bool) → head_eq x h ≡ b → fits shapes (value_under symbols v (placed xs ts h) w) (variable_sort h) ≡ true
          → fits shapes (value_under symbols v (cond b (Some t) (placed xs ts h)) w) (variable_sort h) ≡ true
      by_case true same others =
          let one : fits shapes (worth_of t) (variable_sort x) ≡ true = eval-fits shapes ok decls world v typed t (variable_sort x) (sort_told (term_sort shapes decls t) (variable_sort x) (left_true _ _ e)) in
          ap (λ k. fits shapes (worth_of t) (variable_sort k)) (sym (head_eq-true x h same)) ∙ one
      by_case false same others = others

  placed_valuation : (xs : List Head) (ts : List Term) → have_sorts shapes decls xs ts ≡ true → IsValuation shapes (under symbols (placed xs ts) v)
  placed_valuation xs ts e = record {
    variables = λ x s n. placed_fits xs ts e (head.Var x s n) (v (head.Var x s n)) (typed.variables x s n);
    classes = λ t n. placed_fits xs ts e (head.ClassVar t n) (v (head.ClassVar t n)) (typed.classes t n);
    starts = λ x s. placed_fits xs ts e (head.Start x s) (v (head.Start x s)) (typed.starts x s);
  }

  -- an instance of a rule that holds is true
  instance_true : (r : Rule) → RuleHolds shapes decls world r → (ts : List Term) (t : Term) → instance shapes decls r ts ≡ Some t → true_in t ≡ true
  instance_true r hold ts t = by_case (have_sorts shapes decls r.replaced ts) refl
    where
      by_case : (b : Bool) → have_sorts shapes decls r.replaced ts ≡ b → cond b (Some (substitute (placed r.replaced ts) r.formula)) None ≡ Some t → true_in t ≡ true
      by_case true e same =
          let is : substitute (placed r.replaced ts) r.formula ≡ t = cc in
          ap true_in (sym is) ∙ ap truth_of (eval-substitute symbols (placed r.replaced ts) v r.formula) ∙ hold (under symbols (placed r.replaced ts) v) (placed_valuation r.replaced ts e)
      by_case false e same = cc

  rule_holds : (rules : List Rule) → RulesHold shapes decls world rules → (k : ℕ) (r : Rule) → slice_get rules k ≡ Some r → RuleHolds shapes decls world r
  rule_holds [] hold k r e = cc
  rule_holds (s ∷ rules) hold zero r e = let same : s ≡ r = cc in subst (RuleHolds shapes decls world) same hold.0
  rule_holds (s ∷ rules) hold (suc k) r e = rule_holds rules hold.1 k r e

  numbered_holds : (rules : List Rule) → RulesHold shapes decls world rules → (number : ℕ) (r : Rule) → numbered_rule rules number ≡ Some r → RuleHolds shapes decls world r
  numbered_holds rules hold zero r e = cc
  numbered_holds rules hold (suc k) r e = rule_holds rules hold k r e

  stated_true : (rules : List Rule) → RulesHold shapes decls world rules → (number : ℕ) (ts : List Term) (t : Term) → instance_of shapes decls (numbered_rule rules number) ts ≡ Some t → true_in t ≡ true
  stated_true rules hold number ts t = by_case (numbered_rule rules number) refl
    where
      by_case : (o : Option Rule) → numbered_rule rules number ≡ o → instance_of shapes decls o ts ≡ Some t → true_in t ≡ true
      by_case None e same = cc
      by_case (Some r) e same = instance_true r (numbered_holds rules hold number r e) ts t same

  module _ (at : TermId → Term) (c : Sequent) (rules : List Rule) (hold : RulesHold shapes decls world rules) (given_true : list_all true_in c.given ≡ true) (goal_false : true_in c.goal ≡ false) where
    abbrev asked : Question
    asked = record { shapes = shapes; decls = decls; at = at; sequent = c; rules = rules }

    linear_right : (facts : List Term) (r : Relation) (first second : List (Fraction × ℕ)) → list_all true_in facts ≡ true → EffectIsRight (linear asked facts r first second)
    linear_right facts (AtMost s t) first second h = adds_right _ (at_most (at s) (at t)) (λ e. at_most_right facts (at s) (at t) first second h e)
    linear_right facts (Equal s t) first second h = adds_right _ (equation (at s) (at t)) (λ e. equal_right facts (at s) (at t) first second h e)

    schema_true : (o : Option SchemaKind) (ts : List Term) (field : Option Symbol) (t : Term) → fact_of_kind asked o ts field ≡ Some t → true_in t ≡ true
    schema_true None ts field t e = absurd (cc)
    schema_true (Some kind) ts field t e = schemas.fact_true shapes ok decls world v typed kind ts field t e

    effect_right : (facts : List Term) (s : Step) → list_all true_in facts ≡ true → EffectIsRight (effect asked facts s)
    effect_right facts (step.Given zero) h = ap not goal_false
    effect_right facts (step.Given (suc k)) h = known_true (slice_get c.given k) (λ t e. all_get true_in c.given k t given_true e)
    effect_right facts (step.Refl t) h = value_eq-refl (worth_of (at t))
    effect_right facts (step.Symm i) h = exchanged_right (sides_of (numbered facts i)) (λ st e. sides_of_same (numbered facts i) st e (λ t f. numbered_true facts i t h f))
    effect_right facts (step.Trans i j) h =
        joined_right (sides_of (numbered facts i)) (sides_of (numbered facts j)) (λ st e. sides_of_same (numbered facts i) st e (λ t f. numbered_true facts i t h f))
        (λ st e. sides_of_same (numbered facts j) st e (λ t f. numbered_true facts j t h f))
    effect_right facts (step.Cong t u ks) h =
        adds_right (congruent facts (at t) (at u) ks) (equation (at t) (at u)) (λ e. equal_true (at t) (at u) (congruent_worth facts (at t) (at u) ks h e))
    effect_right facts (step.Linear r first second) h = linear_right facts r first second h
    effect_right facts (step.Schema kind ts field) h = known_true (schema_stated asked kind ts field) (λ t e. schema_true (kind_of_number kind) (map at ts) field t e)
    effect_right facts (step.Rule number ts) h = known_true (rule_stated asked number ts) (λ t e. stated_true rules hold number (map at ts) t e)
    effect_right facts (step.Eval s ks) h = evaluated_right (stated asked s) (cited facts ks) (λ all e. cited_true facts ks all h e)
    effect_right facts (step.Contra i j) h = end_of_right facts i j h

    -- true facts lead to true facts, and to no end
    abbrev PathIsRight : Path → Type 0
    PathIsRight (Open facts) = list_all true_in facts ≡ true
    PathIsRight Closed = ⊥
    PathIsRight Broken = Unit {0}

    walk_right : (steps : List Step) (facts : List Term) → list_all true_in facts ≡ true → PathIsRight (walk asked facts steps)
    walk_right [] facts h = h
    walk_right (s ∷ steps) facts h =
        by_case (effect asked facts s) (effect_right facts s h) (λ t g. walk_right steps (facts ++ t ∷ []) (all_append true_in facts (t ∷ []) h (both_true g refl)))
      where
        by_case : (f : Effect) → EffectIsRight f → ((t : Term) → true_in t ≡ true → PathIsRight (walk asked (facts ++ t ∷ []) steps))
            → PathIsRight (on_effect f (λ t. walk asked (facts ++ t ∷ []) steps) (closed_if_last steps))
        by_case (Adds t) r go = go t r
        by_case Ends r go = absurd r
        by_case Fails r go = tt

    -- a node that follows leaves a path that passes, where its own facts are true
    opened_passes : (b : Bool) (facts cases : List Term) (new : List (List Term)) → list_all true_in facts ≡ true → SomeTrue cases → opened_if b facts cases ≡ Some new → NonePasses new → ⊥
    opened_passes true facts cases new h some e none =
        let same : map (λ f. facts ++ f ∷ []) cases ≡ new = cc in no_case facts cases h some (subst NonePasses (sym same) none)
    opened_passes false facts cases new h some e none = cc

    node_passes : (p : Path) (split : Option Split) (new : List (List Term)) → PathIsRight p → after_node asked p split ≡ Some new → NonePasses new → ⊥
    node_passes Closed split new r e none = r
    node_passes (Open facts) (Some s) new r e none =
        opened_passes _ facts (cases_of asked (at s.atom)) new r (cases_right (at s.atom) (sides (at s.atom))) e none
    node_passes (Open facts) None new r e none = cc
    node_passes Broken split new r e none = cc

    none_passes : (nodes : List ProofNode) (paths : List (List Term)) → closes asked paths nodes ≡ true → NonePasses paths
    none_passes [] [] e = tt
    none_passes [] (facts ∷ paths) e = absurd (false≢true e)
    none_passes (n ∷ nodes) [] e = absurd (false≢true e)
    none_passes (n ∷ nodes) (facts ∷ paths) e =
        by_case (after_node asked (walk asked facts n.steps) n.split) refl e (λ new g. none_passes nodes (new ++ paths) g)
      where
        by_case : (o : Option (List (List Term))) → after_node asked (walk asked facts n.steps) n.split ≡ o → on_opened o (λ new. closes asked (new ++ paths) nodes) ≡ true
            → ((new : List (List Term)) → closes asked (new ++ paths) nodes ≡ true → NonePasses (new ++ paths)) → NonePasses (facts ∷ paths)
        by_case None f e go = absurd (false≢true e)
        by_case (Some new) f e go =
            let none = go new e in
            (λ h. node_passes (walk asked facts n.steps) n.split new (walk_right n.steps facts h) f (passes_before new paths none), passes_after new paths none)

    no_proof : (nodes : List ProofNode) → accepts asked nodes ≡ true → ⊥
    no_proof nodes e = (none_passes nodes ([] ∷ []) e).0 refl

-- what an accepted proof shows is true in every world in which its rules hold
pub accepted_true : (world : Meaning) (q : Question) → shapes_ok q.shapes ≡ true → RulesHold q.shapes q.decls world q.rules → (nodes : List ProofNode) → accepts q nodes ≡ true → TrueIn q.shapes q.decls world q.sequent
accepted_true world q ok hold nodes e v typed =
    by_cases (list_all (holds (answers q.shapes q.decls world) v) q.sequent.given) (holds (answers q.shapes q.decls world) v q.sequent.goal) refl refl
  where
    by_cases : (g h : Bool) → list_all (holds (answers q.shapes q.decls world) v) q.sequent.given ≡ g → holds (answers q.shapes q.decls world) v q.sequent.goal ≡ h → (not g || h) ≡ true
    by_cases true true a b = refl
    by_cases true false a b = absurd (no_proof q.shapes ok q.decls world v typed q.at q.sequent q.rules hold a b nodes e)
    by_cases false h a b = refl
