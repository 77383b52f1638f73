-- Where the facts of a path are true, all that is known is, and the path is live.
use Rattle.std.proofs.Common.{◌≡◌, Bool, true, false, ◌||◌, not, List, [], ◌∷◌, ℤ, pos, ◌+ℤ◌, ◌-ℤ◌, ◌*ℤ◌, refl, sym, ap, ◌∙◌, Option, Some, None, arith}
use mathlib.Core.Path.{ap₂}
use Rattle.std.specs.List.{list_all, flat_map}
use Rattle.std.specs.Int.RustNames.{int_lt}
use Rattle.std.proofs.lemmas.Bool.{false≢true}
use Rattle.std.proofs.lemmas.Int.{ints}
use Rattle.std.specs.Cmp.Derive.{both_true}
use Rattle.spv_logic.proofs.list.Tests.{left_true, right_true}
use Rattle.spv_frac.specs.rational.Rational.{Rational, whole, plus, is_positive}
use Rattle.spv_frac.proofs.rational.Field.{whole_plus, whole_times}
use Rattle.spv_logic.specs.declared.operators.Head.TheVariants.{Eq, Lt, Le}
use Rattle.spv_logic.specs.Values.{Value, Number, Truth, value_eq, bool_eq, number_of}
use Rattle.spv_logic.specs.Terms.{Term, Terms, term, no_terms, terms, term_eq, eval, eval_all, worth}
use Rattle.spv_logic.specs.Shapes.{shapes_ok}
use Rattle.spv_logic.specs.Formulas.{negation, equation, below}
use Rattle.spv_logic.specs.Conditions.{Meaning, Valuation, IsValuation, answers, holds}
use Rattle.spv_logic.proofs.Equality.{value_eq-true, value_eq-refl, bool_eq-refl, term_eq-true, term_eq-refl}
use Rattle.spv_atoms.specs.Forms.{Form, form, minus, parts_worth, form_worth}
use Rattle.spv_atoms.specs.Tables.{computed}
use Rattle.spv_atoms.specs.Atoms.{is_truth, with_term, with_terms}
use Rattle.spv_atoms.specs.Order.{passing}
use Rattle.spv_atoms.proofs.Members.{has, or_cases, or_left, or_right}
use Rattle.spv_atoms.proofs.Truths as truths
use Rattle.spv_atoms.proofs.Worth.{worth_is, minus-worth}
use Rattle.spv_tableau_rules.proofs.pivots.Algebra.{false_of}
use Rattle.spv_proof_rules.specs.Sums.{Comparison, Equals, IsBelow, IsAtMost, comparison, negated as what_negates, Reading, difference, read_true, read_false, sides_pass, read_if, read_relation, read_by}
use Rattle.spv_proof_rules.specs.Evaluation.{opposite}
use Rattle.spv_proof_rules.specs.Effects.{Question, is_number}
use Rattle.spv_proof_rules.proofs.Evaluating.{evaluates_true, negated_is}
use Rattle.spv_tableau_rules.specs.constraints.Values.{parts_value, form_value, holds_at}
use Rattle.spv_tableau_rules.proofs.constraints.Standing.{true_where_equal}
use Rattle.spv_models.specs.leaf_models.Subterms.{subterms, arguments, is_plain, truth_arguments}
use Rattle.spv_models.specs.leaf_models.Atoms.{is_open}
use Rattle.spv_models.specs.leaf_models.Leaves.{IsSameness, all_same, truth_term, worth_at, is_met, is_met_by}
use Rattle.spv_models.specs.leaf_models.Laws.{AreFormulas}
use Rattle.spv_models.specs.leaf_models.Tables.{formulas_of}
use Rattle.spv_models.proofs.leaf_models.Closed.{with_term-parts}
use Rattle.spv_models.proofs.leaf_models.Covering.{atoms-are}
use Rattle.spv_models.proofs.leaf_models.Lookups.{passing-parts}
use Rattle.spv_models.specs.split_trees.Paths.{atoms, questions, Known, Gives, MeetsKnown, Told, given, affirmed, denied, lower, upper, member, negated, below_it, above_it, true_one, false_one, sides, IsLive}
use Rattle.spv_models.specs.split_trees.Shown.{IsEqualAt, ShowsLive}
use Rattle.spv_models.proofs.split_trees.Showing.{shown-live}

-- ---- lists

pub each_of : (test : Term → Bool) (ts : List Term) → list_all test ts ≡ true → (t : Term) → has ts t ≡ true → test t ≡ true
each_of test [] h t k = absurd (false≢true k)
each_of test (u ∷ us) h t k = or_cases (term_eq t u) (has us t) k (λ e. ap test (term_eq-true t u e) ∙ left_true _ _ h) (λ e. each_of test us (right_true (test u) _ h) t e)

all_where : (test : Term → Bool) (ts : List Term) → ((t : Term) → has ts t ≡ true → test t ≡ true) → list_all test ts ≡ true
all_where test [] h = refl
all_where test (t ∷ ts) h = both_true (h t (or_left (term_eq t t) (has ts t) (term_eq-refl t))) (all_where test ts (λ u k. h u (or_right (term_eq u t) (has ts u) k)))

among_terms : {A : Type 0} (xs ts : List Term) (u : Term) → has (with_terms xs ts) u ≡ true → (has xs u ≡ true → A) → (has ts u ≡ true → A) → A
among_terms xs [] u h f g = f h
among_terms xs (t ∷ ts) u h f g =
    among_terms (with_term xs t) ts u h
    (λ k. with_term-parts xs t u k f (λ e. g (or_left (term_eq u t) (has ts u) (ap (λ v. term_eq v t) e ∙ term_eq-refl t))))
    (λ k. g (or_right (term_eq u t) (has ts u) k))

-- each question is of sort Bool
question-truth : (q : Question) → AreFormulas q.shapes q.decls (formulas_of q.sequent) → (t : Term) → has (questions q) t ≡ true → is_truth q.shapes q.decls t ≡ true
question-truth q are t m =
    let truth = is_truth q.shapes q.decls in
    among_terms (atoms q) (passing is_open (truth_arguments truth (subterms (formulas_of q.sequent)))) t m
    (λ k. left_true (truth t) _ (atoms-are q.shapes q.decls (formulas_of q.sequent) are t k))
    (λ k. (passing-parts truth (flat_map arguments (passing (is_plain truth) (subterms (formulas_of q.sequent)))) t (passing-parts is_open (truth_arguments truth (subterms (formulas_of q.sequent))) t k).among).passes)

-- ---- numbers

not_false : (b : Bool) → not b ≡ true → b ≡ false
not_false true h = sym h
not_false false h = refl

not_not : (b : Bool) → not b ≡ false → b ≡ true
not_not true h = refl
not_not false h = sym h

below_bound : (a b : ℤ) → int_lt a b ≡ true → int_lt (pos 0) (a -ℤ b +ℤ pos 1) ≡ false
below_bound a b h = grind (arith, ints)

at_most_bound : (a b : ℤ) → int_lt b a ≡ false → int_lt (pos 0) (a -ℤ b +ℤ pos 0) ≡ false
at_most_bound a b h = grind (arith, ints)

-- of two numbers, neither below the other, each is the other
no_order : (a b : ℤ) → int_lt a b ≡ false → int_lt b a ≡ false → a ≡ b
no_order a b h k = grind (arith, ints)

last_added : (a b c : ℤ) → a +ℤ (b +ℤ c) ≡ a +ℤ b +ℤ c
last_added a b c = omega (arith, ints)

never_below : (a b : ℤ) → a ≡ b → int_lt a b ≡ true → ⊥
never_below a b e h = grind (arith, ints)

-- what forms are worth at a point of whole numbers
module _ (w : Term → ℤ) where
  parts-whole : (parts : List (Term × ℤ)) → parts_value (λ t. whole (w t)) parts ≡ whole (parts_worth w parts)
  parts-whole [] = refl
  parts-whole (p ∷ parts) = ap₂ plus (whole_times p.1 (w p.0)) (parts-whole parts) ∙ whole_plus (p.1 *ℤ w p.0) (parts_worth w parts)

  form-whole : (f : Form) → form_value (λ t. whole (w t)) f ≡ whole (form_worth w f)
  form-whole f = ap (λ x. plus x (whole f.constant)) (parts-whole f.parts) ∙ whole_plus (parts_worth w f.parts) f.constant

-- a computed value that is right is not opposite to the right one
never_opposite : (b : Bool) (o : Option Bool) → truths.Known b o → opposite o (Some b) ≡ false
never_opposite b None k = refl
never_opposite b (Some a) k = ap (λ c. not (bool_eq a c)) (k.tells a refl) ∙ ap not (bool_eq-refl a)

-- ---- what is true in one world under one valuation

module _ (q : Question) (ok : shapes_ok q.shapes ≡ true) (world : Meaning) (v : Valuation) (typed : IsValuation q.shapes v) where
  abbrev worth_of : Term → Value
  worth_of t = eval (answers q.shapes q.decls world) v t

  abbrev true_in : Term → Bool
  true_in t = holds (answers q.shapes q.decls world) v t

  abbrev number_in : Term → ℤ
  number_in t = number_of (worth_of t)

  -- the numbers of the world as a point
  abbrev here : Term → Rational
  here t = whole (number_in t)

  here-worth : (t : Term) → worth_at here t ≡ whole (number_in t)
  here-worth t = form-whole number_in (form t) ∙ ap whole (sym (worth_is (answers q.shapes q.decls world) v t))

  difference-whole : (a b : Term) (more : ℤ) → form_value here (difference a b more) ≡ whole (number_in a -ℤ number_in b +ℤ more)
  difference-whole a b more =
      let f = minus (form a) (form b) in
      form-whole number_in (difference a b more)
      ∙ ap whole (last_added (parts_worth number_in f.parts) f.constant more
      ∙ ap (λ z. z +ℤ more) (minus-worth number_in (form a) (form b) ∙ sym (ap₂ ◌-ℤ◌ (worth_is (answers q.shapes q.decls world) v a) (worth_is (answers q.shapes q.decls world) v b))))

  bound_met : (a b : Term) (more : ℤ) → int_lt (pos 0) (number_in a -ℤ number_in b +ℤ more) ≡ false → not (is_positive (form_value here (difference a b more))) ≡ true
  bound_met a b more h = ap (λ x. not (is_positive x)) (difference-whole a b more) ∙ ap not h

  -- ---- readings

  abbrev relation_holds : Comparison → Bool
  relation_holds (Equals a b) = value_eq (worth_of a) (worth_of b)
  relation_holds (IsBelow a b) = int_lt (number_in a) (number_in b)
  relation_holds (IsAtMost a b) = not (int_lt (number_in b) (number_in a))

  comparison_is : (t : Term) (c : Comparison) → comparison t ≡ Some c → true_in t ≡ relation_holds c
  comparison_is (term Eq (terms s (terms t no_terms))) c e = let same : Equals s t ≡ c = cc in ap relation_holds same
  comparison_is (term Lt (terms s (terms t no_terms))) c e = let same : IsBelow s t ≡ c = cc in ap relation_holds same
  comparison_is (term Le (terms s (terms t no_terms))) c e = let same : IsAtMost s t ≡ c = cc in ap relation_holds same
  comparison_is _ c e = cc

  true_met : (c : Comparison) → relation_holds c ≡ true → holds_at here (read_true c) ≡ true
  true_met (Equals a b) h =
      true_where_equal here a b (here-worth a ∙ (ap (λ w. whole (number_of w)) (value_eq-true (worth_of a) (worth_of b) h) ∙ sym (here-worth b)))
  true_met (IsBelow a b) h = bound_met a b (pos 1) (below_bound (number_in a) (number_in b) h)
  true_met (IsAtMost a b) h = bound_met a b (pos 0) (at_most_bound (number_in a) (number_in b) (not_false (int_lt (number_in b) (number_in a)) h))

  false_met : (c : Comparison) → relation_holds c ≡ false → is_met_by here (read_false c) ≡ true
  false_met (Equals a b) h = refl
  false_met (IsBelow a b) h = bound_met b a (pos 0) (at_most_bound (number_in b) (number_in a) h)
  false_met (IsAtMost a b) h = bound_met b a (pos 1) (below_bound (number_in b) (number_in a) (not_not (int_lt (number_in b) (number_in a)) h))

  if_met : (b : Bool) (o : Option Reading) → is_met_by here o ≡ true → is_met_by here (read_if b o) ≡ true
  if_met true o h = h
  if_met false o h = refl

  relation_met : (read : Comparison → Option Reading) (o : Option Comparison) → ((c : Comparison) → o ≡ Some c → is_met_by here (read c) ≡ true) → is_met_by here (read_relation (is_number q) read o) ≡ true
  relation_met read None h = refl
  relation_met read (Some c) h = if_met (sides_pass (is_number q) c) (read c) (h c refl)

  -- a formula that is true is met as it is read
  truth_met : (t : Term) → true_in t ≡ true → is_met (is_number q) here t ≡ true
  truth_met t h = by_negated (what_negates t) refl
    where
      by_negated : (o : Option Term) → what_negates t ≡ o → is_met_by here (read_by (is_number q) o t) ≡ true
      by_negated None e = relation_met (λ c. Some (read_true c)) (comparison t) (λ c f. true_met c (sym (comparison_is t c f) ∙ h))
      by_negated (Some u) e =
          relation_met read_false (comparison u)
          (λ c f. false_met c (sym (comparison_is u c f) ∙ not_false (true_in u) (sym (negated_is q.shapes ok q.decls world v typed t u e) ∙ h)))

  -- ---- terms of one worth

  abbrev same : Term → Term → Bool
  same s t = value_eq (worth_of s) (worth_of t)

  worth_same : (s t : Term) → worth_of s ≡ worth_of t → same s t ≡ true
  worth_same s t e = ap (λ w. value_eq w (worth_of t)) e ∙ value_eq-refl (worth_of t)

  same_worth : (s t : Term) → same s t ≡ true → worth_of s ≡ worth_of t
  same_worth s t e = value_eq-true (worth_of s) (worth_of t) e

  all_worth : (ss ts : Terms) → all_same same ss ts ≡ true → eval_all (answers q.shapes q.decls world) v ss ≡ eval_all (answers q.shapes q.decls world) v ts
  all_worth no_terms no_terms e = refl
  all_worth no_terms (terms t ts) e = absurd (false≢true e)
  all_worth (terms s ss) no_terms e = absurd (false≢true e)
  all_worth (terms s ss) (terms t ts) e = ap₂ (λ (x : Value) (xs : List Value). x ∷ xs) (same_worth s t (left_true _ _ e)) (all_worth ss ts (right_true (same s t) _ e))

  worth-sameness : (ts : List Term) → IsSameness ts same
  worth-sameness ts = record {
    itself = λ s. value_eq-refl (worth_of s);
    turned = λ s t e. worth_same t s (sym (same_worth s t e));
    through = λ s t u e f. worth_same s u (same_worth s t e ∙ same_worth t u f);
    congruent = λ h ss us m n e. worth_same (term h ss) (term h us) (ap (worth (answers q.shapes q.decls world) v h) (all_worth ss us e));
  }

  equal_here : IsEqualAt q same here
  equal_here s t a b e = here-worth s ∙ (ap (λ w. whole (number_of w)) (same_worth s t e) ∙ sym (here-worth t))

  -- ---- paths whose facts are true

  order-differs : (s t : Term) → int_lt (number_in s) (number_in t) ≡ true → same s t ≡ false
  order-differs s t h = false_of (same s t) (λ e. never_below (number_in s) (number_in t) (ap number_of (same_worth s t e)) h)

  order-differs-back : (s t : Term) → int_lt (number_in t) (number_in s) ≡ true → same s t ≡ false
  order-differs-back s t h = false_of (same s t) (λ e. never_below (number_in t) (number_in s) (ap number_of (sym (same_worth s t e))) h)

  module _ (fs : List Term) (facts_true : list_all true_in fs ≡ true) where
    pub known_here : (t : Term) → Known q fs t → true_in t ≡ true
    known_here _ (given t m) = each_of true_in fs facts_true t m
    known_here _ (affirmed t cited m all e) = evaluates_true q.shapes ok q.decls world v typed cited t (all_where true_in cited (λ u k. known_here u (all u k))) e
    known_here _ (denied t cited m all e) = evaluates_true q.shapes ok q.decls world v typed cited (negation t) (all_where true_in cited (λ u k. known_here u (all u k))) e
    known_here _ (lower s t m k) = ap not (order-differs s t (known_here (below s t) k))
    known_here _ (upper s t m k) = ap not (order-differs-back s t (known_here (below t s) k))

    given_here : (t : Term) (b : Bool) → Gives q fs t b → Some (true_in t) ≡ Some b
    given_here _ _ (member t k) = ap Some (known_here t k)
    given_here _ _ (negated t k) = ap Some (not_false (true_in t) (known_here (negation t) k))
    given_here _ _ (below_it s t k) = ap Some (order-differs s t (known_here (below s t) k))
    given_here _ _ (above_it s t k) = ap Some (order-differs-back s t (known_here (below t s) k))

    meets_here : MeetsKnown q fs here
    meets_here = record { met = λ t k. truth_met t (known_here t k) }

    ordered : (s t : Term) → is_number q s ≡ true → is_number q t ≡ true → same s t ≡ false → (is_met (is_number q) here (below s t) || is_met (is_number q) here (below t s)) ≡ true
    ordered s t a b e = by_order (int_lt (number_in s) (number_in t)) (int_lt (number_in t) (number_in s)) refl refl
      where
        by_order : (x y : Bool) → int_lt (number_in s) (number_in t) ≡ x → int_lt (number_in t) (number_in s) ≡ y → (is_met (is_number q) here (below s t) || is_met (is_number q) here (below t s)) ≡ true
        by_order true y f g = or_left (is_met (is_number q) here (below s t)) _ (truth_met (below s t) f)
        by_order false true f g = or_right (is_met (is_number q) here (below s t)) (is_met (is_number q) here (below t s)) (truth_met (below t s) g)
        by_order false false f g =
            absurd (false≢true (sym e ∙ worth_same s t
            (truths.number_worth q.shapes ok q.decls world v typed s a
            ∙ (ap Number (no_order (number_in s) (number_in t) f g) ∙ sym (truths.number_worth q.shapes ok q.decls world v typed t b)))))

    module _ (are : AreFormulas q.shapes q.decls (formulas_of q.sequent)) where
      told_here : (s t : Term) → Told q fs s t → same s t ≡ true
      told_here _ _ (true_one t m k) =
          worth_same t (truth_term true) (truths.truth_worth q.shapes ok q.decls world v typed t (question-truth q are t m) ∙ ap Truth (known_here t k))
      told_here _ _ (false_one t m k) =
          worth_same t (truth_term false) (truths.truth_worth q.shapes ok q.decls world v typed t (question-truth q are t m) ∙ ap Truth (not_false (true_in t) (known_here (negation t) k)))
      told_here _ _ (sides s t m k) = known_here (equation s t) k

      shows : ShowsLive q fs same
      shows = record {
        sameness = worth-sameness (subterms (atoms q));
        told = told_here;
        orders = λ s t m a b e. record { point = here; meets = meets_here; equal = equal_here; order = ordered s t a b e };
        value = λ t. Some (true_in t);
        covers = given_here;
        agree = λ t. never_opposite (true_in t) (computed (is_truth q.shapes q.decls) (λ u. Some (true_in u)) t) (truths.computed_known q.shapes ok q.decls world v typed (λ u. Some (true_in u)) (λ u. truths.known_some (true_in u) (true_in u) refl) t);
        apart = λ s t m k. not_false (same s t) (known_here (negation (equation s t)) k);
        numerals = λ y z e. ap number_of (value_eq-true (Number y) (Number z) e);
        truths = refl;
        point = here;
        meets = meets_here;
        equal = equal_here;
      }

pub known-true : (q : Question) → shapes_ok q.shapes ≡ true → (world : Meaning) (v : Valuation) → IsValuation q.shapes v → (fs : List Term) → list_all (holds (answers q.shapes q.decls world) v) fs ≡ true
    → (t : Term) → Known q fs t → holds (answers q.shapes q.decls world) v t ≡ true
known-true q ok world v typed fs h t k = known_here q ok world v typed fs h t k

pub true-live : (q : Question) → shapes_ok q.shapes ≡ true → AreFormulas q.shapes q.decls (formulas_of q.sequent) → (world : Meaning) (v : Valuation) → IsValuation q.shapes v
    → (fs : List Term) → list_all (holds (answers q.shapes q.decls world) v) fs ≡ true → IsLive q fs
true-live q ok are world v typed fs h = shown-live q fs (same q ok world v typed) (shows q ok world v typed fs h are)
