-- What each subterm is worth in the table of a leaf by exact numbers.
use Rattle.std.proofs.Common.{◌≡◌, ℤ, Bool, true, false, cond, ◌&&◌, ◌||◌, not, List, [], ◌∷◌, pos, refl, sym, ap, ◌∙◌, Option, Some}
use mathlib.Core.Path.{ap₂}
use Rattle.std.specs.Prelude.{is_some}
use Rattle.std.specs.Cmp.Derive.{both_true}
use Rattle.std.proofs.lemmas.Bool.{false≢true}
use Rattle.spv_whole.specs.Fraction.{Fraction, whole, order}
use Rattle.spv_frac.specs.declared.frac.Op.TheVariants as op
use Rattle.spv_frac.specs.rational.Rational.{Rational}
use Rattle.spv_frac.specs.rational.Rational as rational
use Rattle.spv_frac.proofs.rational.Field.{same}
use Rattle.spv_logic.specs.declared.types.Sort.{Sort}
use Rattle.spv_logic.specs.declared.types.Sort.TheVariants as sort
use Rattle.spv_logic.specs.declared.types.Shape.{Shape}
use Rattle.spv_logic.specs.declared.types.Decl.{Decl}
use Rattle.spv_logic.specs.declared.operators.Head.{Head}
use Rattle.spv_logic.specs.declared.operators.Head.TheVariants as head
use Rattle.spv_logic.specs.Values.{bool_eq}
use Rattle.spv_logic.specs.Terms.{Term, Terms, term, no_terms, terms}
use Rattle.spv_logic.specs.Formulas.{equation}
use Rattle.spv_logic.specs.Sorts.{term_sort}
use Rattle.spv_atoms.specs.Atoms.{has_sort, is_truth, is_number, is_atom, connects}
use Rattle.spv_atoms.specs.Forms.{constant_value, constant_values, form}
use Rattle.spv_atoms.specs.Tables.{all_truths, or_else, computed, not_of, equation_value}
use Rattle.spv_atoms.proofs.Members.{has}
use Rattle.spv_proof_rules.specs.Evaluation.{opposite}
use Rattle.spv_tableau_rules.specs.tableaux.Numbers.{minus}
use Rattle.spv_tableau_rules.proofs.constraints.Values.{minus-value}
use Rattle.spv_table.specs.Values.{truth_value, is_same, is_true, is_less, is_at_most, exact, has_meaning_over}
use Rattle.spv_models.specs.leaf_models.Subterms.{means, is_one_constant, subterms, uncomputed}
use Rattle.spv_models.specs.leaf_models.Atoms.{atoms}
use Rattle.spv_models.specs.leaf_models.Leaves.{Leaf, IsLeaf, truth_at, worth_at}
use Rattle.spv_models.specs.leaf_models.Tables.{class_of, truth_number, number_at}
use Rattle.spv_models.specs.leaf_models.Laws.{listed_at}
use Rattle.spv_models.proofs.leaf_models.Classes.{class-one}
use Rattle.spv_models.proofs.leaf_models.Closed.{ArgumentsIn, subterms-has}
use Rattle.spv_models.proofs.leaf_models.TermKinds.{Kind, HasSort, Own, Numeral, Total, Remains, Multiple, IsLess, IsAtMost, IsEqual, Negated, Both, Either, Implied, Truthful, Untruthful, kind}
use Rattle.spv_models.proofs.leaf_models.Worths.{constant-worth, plus-worth, scaled-worth, whole-constant}
use Rattle.spv_models.proofs.leaf_models.Owns.{own-plain, own-open}
use Rattle.spv_models.proofs.leaf_models.Comparisons.{same-refl, same-true, less-is, at_most-is, less-met, at_most-met}
use Rattle.spv_models.proofs.leaf_models.Outcomes.{true-value, same-values}
use Rattle.spv_models.proofs.leaf_models.Truths.{and-known, or-known, implied-known, same-known, settled}
use Rattle.spv_models.proofs.leaf_models.Values.{listed-number, number-at, truth-at, class-at, own-point, atom-there, atom-given, plain-atom, numbers-apart, class-same, the_sort, closed}
use Rattle.spv_verdicts.specs.Exact.{exact_pair, exact_pair_or, exact_over, exact_value, exact_values, is_exactly_true}

-- ---- heads without a meaning of their own

abbrev takes_two : Head → List (Option ℤ) → Bool
takes_two h (c ∷ d ∷ []) = has_meaning_over h (is_some c) (is_some d)
takes_two h _ = false

pair_own : (h : Head) (constants : List (Option ℤ)) (vs : List Fraction) (own : Fraction) → takes_two h constants ≡ false → exact_pair_or h constants vs own ≡ own
pair_own h [] vs own e = refl
pair_own h (c ∷ []) vs own e = refl
pair_own h (c ∷ d ∷ []) [] own e = refl
pair_own h (c ∷ d ∷ []) (a ∷ []) own e = refl
pair_own h (c ∷ d ∷ []) (a ∷ b ∷ []) own e = ap (λ t. cond t (exact_pair h a b) own) e
pair_own h (c ∷ d ∷ []) (a ∷ b ∷ x ∷ vs) own e = refl
pair_own h (c ∷ d ∷ x ∷ constants) vs own e = refl

never_two : (h : Head) (constants : List (Option ℤ)) → ((a b : Bool) → has_meaning_over h a b ≡ false) → takes_two h constants ≡ false
never_two h [] e = refl
never_two h (c ∷ []) e = refl
never_two h (c ∷ d ∷ []) e = e (is_some c) (is_some d)
never_two h (c ∷ d ∷ x ∷ constants) e = refl

product_own : (constants : List (Option ℤ)) → is_one_constant constants ≡ false → takes_two head.Mul constants ≡ false
product_own [] e = refl
product_own (c ∷ []) e = refl
product_own (c ∷ d ∷ []) e = e
product_own (c ∷ d ∷ x ∷ constants) e = refl

own_exact : (h : Head) (constants : List (Option ℤ)) (vs : List Fraction) (own : Fraction) → means h constants ≡ false → exact_over h constants vs own ≡ own
own_exact (head.Num z) constants vs own e = absurd (false≢true (sym e))
own_exact head.True constants vs own e = absurd (false≢true (sym e))
own_exact head.False constants vs own e = absurd (false≢true (sym e))
own_exact head.Not constants vs own e = absurd (false≢true (sym e))
own_exact head.Add constants vs own e = absurd (false≢true (sym e))
own_exact head.Sub constants vs own e = absurd (false≢true (sym e))
own_exact head.Mul constants vs own e = pair_own head.Mul constants vs own (product_own constants e)
own_exact head.Eq constants vs own e = absurd (false≢true (sym e))
own_exact head.Lt constants vs own e = absurd (false≢true (sym e))
own_exact head.Le constants vs own e = absurd (false≢true (sym e))
own_exact head.And constants vs own e = absurd (false≢true (sym e))
own_exact head.Or constants vs own e = absurd (false≢true (sym e))
own_exact head.Implies constants vs own e = absurd (false≢true (sym e))
own_exact h constants vs own e = pair_own h constants vs own (never_two h constants (λ a b. refl))

module _ (shapes : List Shape) (decls : List Decl) (fs : List Term) (leaf : Leaf) (ok : IsLeaf shapes decls fs leaf) where
  abbrev parts : List Term
  parts = subterms fs

  abbrev number : Term → Bool
  number = is_number shapes decls

  abbrev truth : Term → Bool
  truth = is_truth shapes decls

  abbrev worth : Term → Rational
  worth = worth_at leaf.point

  abbrev class : Term → Fraction
  class t = whole (pos (class_of leaf.same (subterms fs) t))

  abbrev exactly : Term → Fraction
  exactly = exact_value (listed_at shapes decls fs leaf)

  -- a term has a truth, and that is what it is worth
  pub record IsExactTruth (t : Term) : Type 0 where
    pub holds : Bool
    pub is : truth_at (is_truth shapes decls) leaf.given t ≡ Some holds
    pub value_is : exact_value (listed_at shapes decls fs leaf) t ≡ truth_value holds

  pub record IsExact (t : Term) : Type 0 where
    pub numbers : is_number shapes decls t ≡ true → exact_value (listed_at shapes decls fs leaf) t ≡ (worth_at leaf.point t).fraction
    pub truths : is_truth shapes decls t ≡ true → IsExactTruth t
    pub others : is_number shapes decls t ≡ false → is_truth shapes decls t ≡ false → exact_value (listed_at shapes decls fs leaf) t ≡ whole (pos (class_of leaf.same (subterms fs) t))

  number_here : (t : Term) → HasSort shapes decls t sort.Int → number t ≡ true
  number_here t e = ap (has_sort sort.Int) e

  truth_here : (t : Term) → HasSort shapes decls t sort.Bool → truth t ≡ true
  truth_here t e = ap (has_sort sort.Bool) e

  a_number : (t : Term) → HasSort shapes decls t sort.Int → exactly t ≡ (worth t).fraction → IsExact t
  a_number t e h = record { numbers = λ k. h; truths = λ k. absurd (false≢true (sym (ap (has_sort sort.Bool) e) ∙ k)); others = λ k l. absurd (false≢true (sym k ∙ number_here t e)) }

  a_truth : (t : Term) → HasSort shapes decls t sort.Bool → IsExactTruth t → IsExact t
  a_truth t e h = record { numbers = λ k. absurd (false≢true (sym (ap (has_sort sort.Int) e) ∙ k)); truths = λ k. h; others = λ k l. absurd (false≢true (sym l ∙ truth_here t e)) }

  worth_of : (t : Term) → HasSort shapes decls t sort.Int → IsExact t → exactly t ≡ (worth t).fraction
  worth_of t e r = r.numbers (number_here t e)

  truth_of : (t : Term) → HasSort shapes decls t sort.Bool → IsExact t → IsExactTruth t
  truth_of t e r = r.truths (truth_here t e)

  same_fraction : (x y : Rational) → x ≡ y → x.fraction ≡ y.fraction
  same_fraction x y e = ap (λ (z : Rational). z.fraction) e

  -- ---- truths

  connected : (t : Term) (c : Bool) → has parts t ≡ true → computed truth leaf.given t ≡ Some c → exactly t ≡ truth_value c → IsExactTruth t
  connected t c m e v = record {
    holds = c;
    is = ap (or_else (leaf.given t)) e ∙ settled (leaf.given t) c (sym (ap (λ o. opposite o (leaf.given t)) e) ∙ ok.agrees t m);
    value_is = v;
  }

  atomic : (t : Term) → has parts t ≡ true → is_atom truth t ≡ true → ((b : Bool) → has (atoms shapes decls fs) t ≡ true → leaf.given t ≡ Some b → exactly t ≡ truth_value b) → IsExactTruth t
  atomic t m k v =
      let there = atom-there shapes decls fs leaf ok t m k in
      let given = atom-given shapes decls fs leaf ok t there in
      record { holds = given.item; is = ap (λ o. or_else o (computed truth leaf.given t)) given.is; value_is = v given.item there given.is }

  -- ---- numbers

  total : (a b : Term) → exactly a ≡ (worth a).fraction → exactly b ≡ (worth b).fraction → exactly (term head.Add (terms a (terms b no_terms))) ≡ (worth (term head.Add (terms a (terms b no_terms)))).fraction
  total a b h k =
      ap₂ (exact op.Add) h k ∙ same_fraction (rational.plus (worth a) (worth b)) (worth (term head.Add (terms a (terms b no_terms)))) (sym (plus-worth leaf.point (form a) (form b)))

  remains : (a b : Term) → exactly a ≡ (worth a).fraction → exactly b ≡ (worth b).fraction → exactly (term head.Sub (terms a (terms b no_terms))) ≡ (worth (term head.Sub (terms a (terms b no_terms)))).fraction
  remains a b h k =
      ap₂ (exact op.Sub) h k ∙ same_fraction (minus (worth a) (worth b)) (worth (term head.Sub (terms a (terms b no_terms)))) (sym (minus-value leaf.point (form a) (form b)))

  multiple : (a b : Term) → is_one_constant (constant_value a ∷ constant_value b ∷ []) ≡ true → exactly a ≡ (worth a).fraction → exactly b ≡ (worth b).fraction
      → exactly (term head.Mul (terms a (terms b no_terms))) ≡ (worth (term head.Mul (terms a (terms b no_terms)))).fraction
  multiple a b e h k =
      ap (λ c. cond c (exact op.Mul (exactly a) (exactly b)) (listed_at shapes decls fs leaf product)) e
      ∙ (ap₂ (exact op.Mul) h k
      ∙ same_fraction (rational.times (worth a) (worth b)) (worth product)
      (sym (scaled-worth leaf.point (constant_value a) (constant_value b) (form a) (form b) product (whole-constant leaf.point a) (whole-constant leaf.point b) (λ f g. false≢true (sym (ap₂ (λ c d. is_some c || is_some d) f g) ∙ e)))))
    where
      product : Term
      product = term head.Mul (terms a (terms b no_terms))

  -- ---- relations

  less : (a b : Term) → HasSort shapes decls a sort.Int → HasSort shapes decls b sort.Int → exactly a ≡ (worth a).fraction → exactly b ≡ (worth b).fraction → has parts (term head.Lt (terms a (terms b no_terms))) ≡ true
      → truth (term head.Lt (terms a (terms b no_terms))) ≡ true → IsExactTruth (term head.Lt (terms a (terms b no_terms)))
  less a b ha hb h k m n =
      atomic (term head.Lt (terms a (terms b no_terms))) m (plain-atom shapes decls fs leaf ok head.Lt (terms a (terms b no_terms)) n refl refl)
      (λ c there given. ap₂ (λ x y. truth_value (is_less (order x y))) h k
      ∙ ap truth_value (less-is (worth a) (worth b) ∙ less-met number leaf.point a b (number_here a ha) (number_here b hb) c (ok.point.relations (term head.Lt (terms a (terms b no_terms))) c there given)))

  at_most : (a b : Term) → HasSort shapes decls a sort.Int → HasSort shapes decls b sort.Int → exactly a ≡ (worth a).fraction → exactly b ≡ (worth b).fraction → has parts (term head.Le (terms a (terms b no_terms))) ≡ true
      → truth (term head.Le (terms a (terms b no_terms))) ≡ true → IsExactTruth (term head.Le (terms a (terms b no_terms)))
  at_most a b ha hb h k m n =
      atomic (term head.Le (terms a (terms b no_terms))) m (plain-atom shapes decls fs leaf ok head.Le (terms a (terms b no_terms)) n refl refl)
      (λ c there given. ap₂ (λ x y. truth_value (is_at_most (order x y))) h k
      ∙ ap truth_value (at_most-is (worth a) (worth b) ∙ at_most-met number leaf.point a b (number_here a ha) (number_here b hb) c (ok.point.relations (term head.Le (terms a (terms b no_terms))) c there given)))

  same_number : (a b : Term) (c : Bool) → has parts a ≡ true → has parts b ≡ true → number a ≡ true → number b ≡ true → has (atoms shapes decls fs) (equation a b) ≡ true → leaf.given (equation a b) ≡ Some c
      → is_same (worth a).fraction (worth b).fraction ≡ c
  same_number a b true ma mb ha hb there given =
      ap (λ (x : Rational). is_same x.fraction (worth b).fraction) (ok.point.same a b ma mb ha hb (ok.told.sides a b true there given)) ∙ same-refl (worth b).fraction
  same_number a b false ma mb ha hb there given = by_case (is_same (worth a).fraction (worth b).fraction) refl
    where
      by_case : (d : Bool) → is_same (worth a).fraction (worth b).fraction ≡ d → is_same (worth a).fraction (worth b).fraction ≡ false
      by_case true e = absurd (numbers-apart shapes decls fs leaf ok a b ha hb there given (same (worth a) (worth b) (same-true (worth a).fraction (worth b).fraction e)))
      by_case false e = e

  same_class : (a b : Term) (c : Bool) → has parts a ≡ true → has (atoms shapes decls fs) (equation a b) ≡ true → leaf.given (equation a b) ≡ Some c → is_same (class a) (class b) ≡ c
  same_class a b true m there given =
      ap (λ n. is_same (whole (pos n)) (class b)) (class-one leaf.same (uncomputed truth parts) ok.sameness parts a b (ok.told.sides a b true there given)) ∙ same-refl (class b)
  same_class a b false m there given = by_case (is_same (class a) (class b)) refl
    where
      by_case : (d : Bool) → is_same (class a) (class b) ≡ d → is_same (class a) (class b) ≡ false
      by_case true e = absurd (false≢true (sym (ok.told.sides a b false there given) ∙ class-same shapes decls fs leaf ok a b m (same-true (class a) (class b) e)))
      by_case false e = e

  -- an equation of terms that are worth these
  equation_is : (a b : Term) (x y : Fraction) (c : Bool) → exactly a ≡ x → exactly b ≡ y → is_same x y ≡ c → exactly (equation a b) ≡ truth_value c
  equation_is a b x y c h k e = ap₂ (λ u v. truth_value (is_same u v)) h k ∙ ap truth_value e

  same_truths : (a b : Term) → truth a ≡ true → truth b ≡ true → IsExactTruth a → IsExactTruth b → has parts (equation a b) ≡ true → IsExactTruth (equation a b)
  same_truths a b ha hb h k m =
      connected (equation a b) (bool_eq h.holds k.holds) m
      (ap (λ c. equation_value c (truth_at truth leaf.given a) (truth_at truth leaf.given b) (terms a (terms b no_terms))) (both_true ha (both_true hb refl)) ∙ same-known h.holds k.holds (truth_at truth leaf.given a) (truth_at truth leaf.given b) h.is k.is)
      (equation_is a b (truth_value h.holds) (truth_value k.holds) (bool_eq h.holds k.holds) h.value_is k.value_is (same-values h.holds k.holds))

  no_connective : (a b : Term) → truth a ≡ false → connects (all_truths truth (terms a (terms b no_terms))) head.Eq ≡ false
  no_connective a b h = ap (λ c. c && (truth b && true)) h

  equal : (a b : Term) (s : Sort) → HasSort shapes decls a s → HasSort shapes decls b s → IsExact a → IsExact b → has parts a ≡ true → has parts b ≡ true → has parts (equation a b) ≡ true → truth (equation a b) ≡ true → IsExactTruth (equation a b)
  equal a b s ha hb ra rb ma mb m n = by_truth (truth a) refl
    where
      as_b : (r : Sort) (c : Bool) → has_sort r (term_sort shapes decls a) ≡ c → has_sort r (term_sort shapes decls b) ≡ c
      as_b r c e = ap (has_sort r) (hb ∙ sym ha) ∙ e

      by_number : truth a ≡ false → (c : Bool) → number a ≡ c → IsExactTruth (equation a b)
      by_number f true e =
          atomic (equation a b) m (plain-atom shapes decls fs leaf ok head.Eq (terms a (terms b no_terms)) n (no_connective a b f) refl)
          (λ c there given. equation_is a b (worth a).fraction (worth b).fraction c (ra.numbers e) (rb.numbers (as_b sort.Int true e)) (same_number a b c ma mb e (as_b sort.Int true e) there given))
      by_number f false e =
          atomic (equation a b) m (plain-atom shapes decls fs leaf ok head.Eq (terms a (terms b no_terms)) n (no_connective a b f) refl)
          (λ c there given. equation_is a b (class a) (class b) c (ra.others e f) (rb.others (as_b sort.Int false e) (as_b sort.Bool false f)) (same_class a b c ma there given))

      by_truth : (c : Bool) → truth a ≡ c → IsExactTruth (equation a b)
      by_truth true e = same_truths a b e (as_b sort.Bool true e) (ra.truths e) (rb.truths (as_b sort.Bool true e)) m
      by_truth false e = by_number e (number a) refl

  -- ---- connectives

  true_is : (x : Fraction) (c : Bool) → x ≡ truth_value c → is_true x ≡ c
  true_is x c e = ap is_true e ∙ true-value c

  negated : (a : Term) → IsExactTruth a → has parts (term head.Not (terms a no_terms)) ≡ true → IsExactTruth (term head.Not (terms a no_terms))
  negated a h m = connected (term head.Not (terms a no_terms)) (not h.holds) m (ap not_of h.is) (ap (λ c. truth_value (not c)) (true_is (exactly a) h.holds h.value_is))

  conjoined : (a b : Term) → IsExactTruth a → IsExactTruth b → has parts (term head.And (terms a (terms b no_terms))) ≡ true → IsExactTruth (term head.And (terms a (terms b no_terms)))
  conjoined a b h k m =
      connected (term head.And (terms a (terms b no_terms))) (h.holds && k.holds) m (and-known h.holds k.holds (truth_at truth leaf.given a) (truth_at truth leaf.given b) h.is k.is)
      (ap₂ (λ c d. truth_value (c && d)) (true_is (exactly a) h.holds h.value_is) (true_is (exactly b) k.holds k.value_is))

  disjoined : (a b : Term) → IsExactTruth a → IsExactTruth b → has parts (term head.Or (terms a (terms b no_terms))) ≡ true → IsExactTruth (term head.Or (terms a (terms b no_terms)))
  disjoined a b h k m =
      connected (term head.Or (terms a (terms b no_terms))) (h.holds || k.holds) m (or-known h.holds k.holds (truth_at truth leaf.given a) (truth_at truth leaf.given b) h.is k.is)
      (ap₂ (λ c d. truth_value (c || d)) (true_is (exactly a) h.holds h.value_is) (true_is (exactly b) k.holds k.value_is))

  implying : (a b : Term) → IsExactTruth a → IsExactTruth b → has parts (term head.Implies (terms a (terms b no_terms))) ≡ true → IsExactTruth (term head.Implies (terms a (terms b no_terms)))
  implying a b h k m =
      connected (term head.Implies (terms a (terms b no_terms))) (not h.holds || k.holds) m (implied-known h.holds k.holds (truth_at truth leaf.given a) (truth_at truth leaf.given b) h.is k.is)
      (ap₂ (λ c d. truth_value (not c || d)) (true_is (exactly a) h.holds h.value_is) (true_is (exactly b) k.holds k.value_is))

  -- ---- a term whose value is listed

  own_is : (h : Head) (ts : Terms) → means h (constant_values ts) ≡ false → has parts (term h ts) ≡ true → exactly (term h ts) ≡ number_at shapes decls parts leaf (term h ts)
  own_is h ts e m =
      own_exact h (constant_values ts) (exact_values (listed_at shapes decls fs leaf) ts) (listed_at shapes decls fs leaf (term h ts)) e ∙ listed-number shapes decls fs leaf ok (term h ts) m (ap not e)

  own_right : (h : Head) (ts : Terms) → means h (constant_values ts) ≡ false → has parts (term h ts) ≡ true → IsExact (term h ts)
  own_right h ts e m = record {
    numbers = λ k. own_is h ts e m ∙ (number-at shapes decls fs leaf ok (term h ts) k ∙ same_fraction (leaf.point (term h ts)) (worth (term h ts)) (sym (own-point shapes decls fs leaf ok h ts e)));
    truths = λ k. atomic (term h ts) m (plain-atom shapes decls fs leaf ok h ts k (own-plain h (constant_values ts) (all_truths truth ts) e) (own-open h (constant_values ts) e))
        (λ c there given. own_is h ts e m ∙ (truth-at shapes decls fs leaf ok (term h ts) k ∙ ap (λ o. truth_number (or_else o (computed truth leaf.given (term h ts)))) given));
    others = λ k l. own_is h ts e m ∙ class-at shapes decls fs leaf ok (term h ts) k l;
  }

  -- ---- all of them

  abbrev AllExact : Terms → Type 0
  AllExact no_terms = Unit {0}
  AllExact (terms t ts) = IsExact t × AllExact ts

  abbrev ArgumentsExact : Term → Type 0
  ArgumentsExact (term h ts) = ArgumentsIn parts ts × AllExact ts

  step : (t : Term) (s : Sort) → Kind shapes decls t s → has parts t ≡ true → HasSort shapes decls t s → ArgumentsExact t → IsExact t
  step t s (Own h ts r e) m is all = own_right h ts e m
  step t s (Numeral z) m is all = a_number (term (head.Num z) no_terms) is (same_fraction (rational.whole z) (worth (term (head.Num z) no_terms)) (sym (constant-worth leaf.point z)))
  step t s (Total a b ha hb) m is all = a_number (term head.Add (terms a (terms b no_terms))) is (total a b (worth_of a ha all.1.0) (worth_of b hb all.1.1.0))
  step t s (Remains a b ha hb) m is all = a_number (term head.Sub (terms a (terms b no_terms))) is (remains a b (worth_of a ha all.1.0) (worth_of b hb all.1.1.0))
  step t s (Multiple a b ha hb e) m is all = a_number (term head.Mul (terms a (terms b no_terms))) is (multiple a b e (worth_of a ha all.1.0) (worth_of b hb all.1.1.0))
  step t s (IsLess a b ha hb) m is all =
      a_truth (term head.Lt (terms a (terms b no_terms))) is (less a b ha hb (worth_of a ha all.1.0) (worth_of b hb all.1.1.0) m (truth_here (term head.Lt (terms a (terms b no_terms))) is))
  step t s (IsAtMost a b ha hb) m is all =
      a_truth (term head.Le (terms a (terms b no_terms))) is (at_most a b ha hb (worth_of a ha all.1.0) (worth_of b hb all.1.1.0) m (truth_here (term head.Le (terms a (terms b no_terms))) is))
  step t s (IsEqual a b r ha hb) m is all = a_truth (equation a b) is (equal a b r ha hb all.1.0 all.1.1.0 all.0.0 all.0.1.0 m (truth_here (equation a b) is))
  step t s (Negated a ha) m is all = a_truth (term head.Not (terms a no_terms)) is (negated a (truth_of a ha all.1.0) m)
  step t s (Both a b ha hb) m is all = a_truth (term head.And (terms a (terms b no_terms))) is (conjoined a b (truth_of a ha all.1.0) (truth_of b hb all.1.1.0) m)
  step t s (Either a b ha hb) m is all = a_truth (term head.Or (terms a (terms b no_terms))) is (disjoined a b (truth_of a ha all.1.0) (truth_of b hb all.1.1.0) m)
  step t s (Implied a b ha hb) m is all = a_truth (term head.Implies (terms a (terms b no_terms))) is (implying a b (truth_of a ha all.1.0) (truth_of b hb all.1.1.0) m)
  step t s Truthful m is all = a_truth (term head.True no_terms) is (connected (term head.True no_terms) true m refl refl)
  step t s Untruthful m is all = a_truth (term head.False no_terms) is (connected (term head.False no_terms) false m refl refl)

  mutual
    pub exact_here : (t : Term) → has parts t ≡ true → IsExact t
    exact_here (term h ts) m =
        let s = the_sort shapes decls fs leaf ok (term h ts) m in
        let inside = (closed shapes decls fs leaf ok).inside h ts m in
        step (term h ts) s.item (kind shapes decls (term h ts) s.item s.is) m s.is (inside, all_exact ts inside)

    all_exact : (ts : Terms) → ArgumentsIn parts ts → AllExact ts
    all_exact no_terms m = tt
    all_exact (terms t ts) m = (exact_here t m.0, all_exact ts m.1)

  one_truth : (b c : Bool) → Some b ≡ Some c → b ≡ c
  one_truth b c e = cc

  -- a formula is exactly true where its truth is
  pub exact_formula : (f : Term) (c : Bool) → has fs f ≡ true → truth_at (is_truth shapes decls) leaf.given f ≡ Some c → is_exactly_true (listed_at shapes decls fs leaf) f ≡ c
  exact_formula f c m e =
      let r = (exact_here f (subterms-has fs f m)).truths (ok.formulas f m) in
      true_is (exactly f) r.holds r.value_is ∙ one_truth r.holds c (sym r.is ∙ e)
