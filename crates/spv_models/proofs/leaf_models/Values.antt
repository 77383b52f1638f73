-- What the table of a leaf says of each subterm.
use Rattle.std.proofs.Common.{◌≡◌, ℕ, ℤ, Bool, true, false, cond, ◌&&◌, ◌||◌, not, List, [], ◌∷◌, pos, refl, sym, ap, ◌∙◌, subst, Option, Some, None, Ok}
use mathlib.Core.Path.{ap₂}
use Rattle.std.specs.Prelude.{is_some}
use Rattle.std.specs.Cmp.Derive.{both_true}
use Rattle.std.proofs.lemmas.Bool.{false≢true}
use Rattle.spv_whole.specs.Fraction.{Fraction, whole, order}
use Rattle.spv_frac.specs.declared.frac.Op.TheVariants as op
use Rattle.spv_frac.specs.rational.Rational.{Rational}
use Rattle.spv_frac.specs.rational.Rational as rational
use Rattle.spv_frac.proofs.rational.Field.{same}
use Rattle.spv_logic.specs.declared.types.Sort.{Sort}
use Rattle.spv_logic.specs.declared.types.Sort.TheVariants as sort
use Rattle.spv_logic.specs.declared.types.Shape.{Shape}
use Rattle.spv_logic.specs.declared.types.Decl.{Decl}
use Rattle.spv_logic.specs.declared.operators.Head.{Head}
use Rattle.spv_logic.specs.declared.operators.Head.TheVariants as head
use Rattle.spv_logic.specs.Values.{bool_eq}
use Rattle.spv_logic.specs.Terms.{Term, Terms, term, no_terms, terms}
use Rattle.spv_logic.specs.Formulas.{equation, below}
use Rattle.spv_logic.specs.Sorts.{term_sort}
use Rattle.spv_logic.proofs.Equality.{sort_eq-true}
use Rattle.spv_atoms.specs.Atoms.{has_sort, is_truth, is_number, is_atom, connects, is_fixed}
use Rattle.spv_atoms.specs.Forms.{constant_value, constant_values, form_or_own, form, forms}
use Rattle.spv_atoms.specs.Order.{passing}
use Rattle.spv_atoms.specs.Tables.{all_truths, or_else, computed, not_of, equation_value}
use Rattle.spv_atoms.proofs.Members.{has, or_cases, has-with_terms}
use Rattle.spv_proof_rules.specs.Evaluation.{opposite}
use Rattle.spv_tableau_rules.specs.tableaux.Numbers.{minus}
use Rattle.spv_tableau_rules.specs.constraints.Values.{form_value}
use Rattle.spv_tableau_rules.proofs.constraints.Values.{minus-value}
use Rattle.spv_table.specs.Values.{truth_value, is_same, is_less, is_at_most, of_pair, both, value, values}
use Rattle.spv_models.specs.leaf_models.Subterms.{means, is_listed, is_one_constant, subterms, truth_arguments, uncomputed}
use Rattle.spv_models.specs.leaf_models.Atoms.{atoms, questions, all_equations, is_open}
use Rattle.spv_models.specs.leaf_models.Leaves.{Leaf, IsLeaf, truth_at, worth_at, is_met}
use Rattle.spv_models.specs.leaf_models.Tables.{class_of, truth_number, number_at}
use Rattle.spv_models.specs.leaf_models.Laws.{listed_at}
use Rattle.spv_models.proofs.leaf_models.Classes.{class-one, class-differs}
use Rattle.spv_models.proofs.leaf_models.Closed.{ArgumentsIn, IsClosed, subterms-closed}
use Rattle.spv_models.proofs.leaf_models.TermKinds.{Kind, HasSort, Own, Numeral, Total, Remains, Multiple, IsLess, IsAtMost, IsEqual, Negated, Both, Either, Implied, Truthful, Untruthful, kind}
use Rattle.spv_models.proofs.leaf_models.Worths.{own-worth, constant-worth, plus-worth, scaled-worth, whole-constant}
use Rattle.spv_models.proofs.leaf_models.Owns.{own-value, own-form, own-plain, own-open}
use Rattle.spv_models.proofs.leaf_models.Comparisons.{same-refl, same-true, less-is, at_most-is, less-met, at_most-met, not_positive-itself}
use Rattle.spv_models.proofs.leaf_models.Lookups.{has-passing, listed-beside}
use Rattle.spv_models.proofs.leaf_models.Outcomes.{IsIfOk, ok-is, with_value, both-is, operated-is, compared-is, same-values, negation-is, truths-are}
use Rattle.spv_models.proofs.leaf_models.Truths.{and-known, or-known, implied-known, same-known, settled}

-- ---- options

pub record IsSome {A : Type 0} (o : Option A) : Type 0 where
  pub item : A
  pub is : o ≡ Some item

pub some-is : {A : Type 0} (o : Option A) → is_some o ≡ true → IsSome o
some-is None h = absurd (false≢true h)
some-is (Some x) h = record { item = x; is = refl }

some_sort : (s : Sort) (o : Option Sort) → has_sort s o ≡ true → is_some o ≡ true
some_sort s None h = h
some_sort s (Some r) h = refl

pub sort_known : (s : Sort) (o : Option Sort) → has_sort s o ≡ true → o ≡ Some s
sort_known s None h = absurd (false≢true h)
sort_known s (Some r) h = ap Some (sort_eq-true r s h)

module _ (shapes : List Shape) (decls : List Decl) (fs : List Term) (leaf : Leaf) (ok : IsLeaf shapes decls fs leaf) where
  abbrev pub parts : List Term
  parts = subterms fs

  abbrev pub given_numbers : Term → Fraction
  given_numbers = listed_at shapes decls fs leaf

  abbrev pub number : Term → Bool
  number = is_number shapes decls

  abbrev pub truth : Term → Bool
  truth = is_truth shapes decls

  abbrev pub Sorted : Term → Sort → Type 0
  Sorted t s = HasSort shapes decls t s

  pub closed : IsClosed shapes decls parts
  closed = subterms-closed shapes decls fs (λ f h. some_sort sort.Bool (term_sort shapes decls f) (ok.formulas f h))

  -- ---- sorts

  pub number-of : (t : Term) → Sorted t sort.Int → number t ≡ true
  number-of t e = ap (has_sort sort.Int) e

  pub truth-of : (t : Term) → Sorted t sort.Bool → truth t ≡ true
  truth-of t e = ap (has_sort sort.Bool) e

  no_truth : (t : Term) → Sorted t sort.Int → truth t ≡ true → ⊥
  no_truth t e h = false≢true (sym (ap (has_sort sort.Bool) e) ∙ h)

  no_number : (t : Term) → Sorted t sort.Bool → number t ≡ true → ⊥
  no_number t e h = false≢true (sym (ap (has_sort sort.Int) e) ∙ h)

  pub truth_no_number : (t : Term) → truth t ≡ true → number t ≡ false
  truth_no_number t h = ap (has_sort sort.Int) (sort_known sort.Bool (term_sort shapes decls t) h)

  -- ---- what is listed

  pub listed-number : (t : Term) → has parts t ≡ true → is_listed t ≡ true → given_numbers t ≡ number_at shapes decls parts leaf t
  listed-number t h k = listed-beside (number_at shapes decls parts leaf) (passing is_listed parts) t (has-passing is_listed parts t h k)

  pub own-is : (h : Head) (ts : Terms) → means h (constant_values ts) ≡ false → has parts (term h ts) ≡ true → value given_numbers (term h ts) ≡ Ok (number_at shapes decls parts leaf (term h ts))
  own-is h ts e m =
      own-value h (constant_values ts) (values given_numbers ts) (given_numbers (term h ts)) e ∙ ap (λ x. Ok x) (listed-number (term h ts) m (ap not e))

  pub number-at : (t : Term) → number t ≡ true → number_at shapes decls parts leaf t ≡ (leaf.point t).fraction
  number-at t h = ap (λ b. cond b (leaf.point t).fraction (cond (truth t) (truth_number (truth_at truth leaf.given t)) (whole (pos (class_of leaf.same parts t))))) h

  pub truth-at : (t : Term) → truth t ≡ true → number_at shapes decls parts leaf t ≡ truth_number (truth_at truth leaf.given t)
  truth-at t h =
      ap (λ b. cond b (leaf.point t).fraction (cond (truth t) (truth_number (truth_at truth leaf.given t)) (whole (pos (class_of leaf.same parts t))))) (truth_no_number t h)
      ∙ ap (λ b. cond b (truth_number (truth_at truth leaf.given t)) (whole (pos (class_of leaf.same parts t)))) h

  pub class-at : (t : Term) → number t ≡ false → truth t ≡ false → number_at shapes decls parts leaf t ≡ whole (pos (class_of leaf.same parts t))
  class-at t h k =
      ap (λ b. cond b (leaf.point t).fraction (cond (truth t) (truth_number (truth_at truth leaf.given t)) (whole (pos (class_of leaf.same parts t))))) h
      ∙ ap (λ b. cond b (truth_number (truth_at truth leaf.given t)) (whole (pos (class_of leaf.same parts t)))) k

  pub own-point : (h : Head) (ts : Terms) → means h (constant_values ts) ≡ false → worth_at leaf.point (term h ts) ≡ leaf.point (term h ts)
  own-point h ts e = ap (λ o. form_value leaf.point (form_or_own o (term h ts))) (own-form h (constant_values ts) (forms ts) e) ∙ own-worth leaf.point (term h ts)

  -- ---- atoms

  pub atom-there : (t : Term) → has parts t ≡ true → is_atom truth t ≡ true → has (atoms shapes decls fs) t ≡ true
  atom-there t h k = has-with_terms (passing (is_atom truth) parts) (all_equations shapes decls parts) t (has-passing (is_atom truth) parts t h k)

  pub atom-asked : (t : Term) → has (atoms shapes decls fs) t ≡ true → has (questions shapes decls fs) t ≡ true
  atom-asked t h = has-with_terms (atoms shapes decls fs) (passing is_open (truth_arguments truth parts)) t h

  pub atom-given : (t : Term) → has (atoms shapes decls fs) t ≡ true → IsSome (leaf.given t)
  atom-given t h = some-is (leaf.given t) (ok.full t (atom-asked t h))

  -- an application of no connective that is of sort Bool
  pub plain-atom : (h : Head) (ts : Terms) → truth (term h ts) ≡ true → connects (all_truths truth ts) h ≡ false → is_fixed h ≡ false → is_atom truth (term h ts) ≡ true
  plain-atom h ts k m n = both_true k (both_true (ap not m) (ap not n))

  -- ---- what each subterm has

  -- a term has a truth, and that is its value
  pub record IsTruthful (t : Term) : Type 0 where
    pub holds : Bool
    pub is : truth_at truth leaf.given t ≡ Some holds
    pub value_is : IsIfOk (value given_numbers t) (truth_value holds)

  pub record IsRight (t : Term) : Type 0 where
    pub numbers : number t ≡ true → IsIfOk (value given_numbers t) (worth_at leaf.point t).fraction
    pub truths : truth t ≡ true → IsTruthful t
    pub others : number t ≡ false → truth t ≡ false → value given_numbers t ≡ Ok (whole (pos (class_of leaf.same parts t)))

  a_number : (t : Term) → Sorted t sort.Int → IsIfOk (value given_numbers t) (worth_at leaf.point t).fraction → IsRight t
  a_number t e h = record { numbers = λ k. h; truths = λ k. absurd (no_truth t e k); others = λ k. absurd (false≢true (sym k ∙ number-of t e)) }

  a_truth : (t : Term) → Sorted t sort.Bool → IsTruthful t → IsRight t
  a_truth t e h = record { numbers = λ k. absurd (no_number t e k); truths = λ k. h; others = λ k l. absurd (false≢true (sym l ∙ truth-of t e)) }

  pub value_of_number : (t : Term) → Sorted t sort.Int → IsRight t → IsIfOk (value given_numbers t) (worth_at leaf.point t).fraction
  value_of_number t e r = r.numbers (number-of t e)

  truth_of_right : (t : Term) → Sorted t sort.Bool → IsRight t → IsTruthful t
  truth_of_right t e r = r.truths (truth-of t e)

  -- ---- truths

  -- what a connective gives
  connected : (t : Term) (c : Bool) → has parts t ≡ true → computed truth leaf.given t ≡ Some c → IsIfOk (value given_numbers t) (truth_value c) → IsTruthful t
  connected t c m e v = record {
    holds = c;
    is = ap (or_else (leaf.given t)) e ∙ settled (leaf.given t) c (sym (ap (λ o. opposite o (leaf.given t)) e) ∙ ok.agrees t m);
    value_is = v;
  }

  -- what an atom was given
  atomic : (t : Term) → has parts t ≡ true → is_atom truth t ≡ true → ((b : Bool) → has (atoms shapes decls fs) t ≡ true → leaf.given t ≡ Some b → IsIfOk (value given_numbers t) (truth_value b)) → IsTruthful t
  atomic t m k v =
      let there = atom-there t m k in
      let given = atom-given t there in
      record { holds = given.item; is = ap (λ o. or_else o (computed truth leaf.given t)) given.is; value_is = v given.item there given.is }

  -- ---- each kind of number

  abbrev worth : Term → Rational
  worth = worth_at leaf.point

  abbrev HasWorth : Term → Type 0
  HasWorth t = IsIfOk (value given_numbers t) (worth t).fraction

  same_fraction : (x y : Rational) → x ≡ y → x.fraction ≡ y.fraction
  same_fraction x y e = ap (λ (z : Rational). z.fraction) e

  numeral : (z : ℤ) → HasWorth (term (head.Num z) no_terms)
  numeral z = ok-is (Ok (whole z)) (whole z) (worth (term (head.Num z) no_terms)).fraction refl (same_fraction (rational.whole z) (worth (term (head.Num z) no_terms)) (sym (constant-worth leaf.point z)))

  total : (a b : Term) → HasWorth a → HasWorth b → HasWorth (term head.Add (terms a (terms b no_terms)))
  total a b h k =
      with_value (both (of_pair head.Add) (value given_numbers a) (value given_numbers b)) (rational.plus (worth a) (worth b)).fraction (worth (term head.Add (terms a (terms b no_terms)))).fraction
      (both-is (of_pair head.Add) (value given_numbers a) (value given_numbers b) (worth a).fraction (worth b).fraction (rational.plus (worth a) (worth b)).fraction h k (operated-is op.Add (worth a).fraction (worth b).fraction))
      (same_fraction (rational.plus (worth a) (worth b)) (worth (term head.Add (terms a (terms b no_terms)))) (sym (plus-worth leaf.point (form a) (form b))))

  remains : (a b : Term) → HasWorth a → HasWorth b → HasWorth (term head.Sub (terms a (terms b no_terms)))
  remains a b h k =
      with_value (both (of_pair head.Sub) (value given_numbers a) (value given_numbers b)) (minus (worth a) (worth b)).fraction (worth (term head.Sub (terms a (terms b no_terms)))).fraction
      (both-is (of_pair head.Sub) (value given_numbers a) (value given_numbers b) (worth a).fraction (worth b).fraction (minus (worth a) (worth b)).fraction h k (operated-is op.Sub (worth a).fraction (worth b).fraction))
      (same_fraction (minus (worth a) (worth b)) (worth (term head.Sub (terms a (terms b no_terms)))) (sym (minus-value leaf.point (form a) (form b))))

  multiple : (a b : Term) → is_one_constant (constant_value a ∷ constant_value b ∷ []) ≡ true → HasWorth a → HasWorth b → HasWorth (term head.Mul (terms a (terms b no_terms)))
  multiple a b e h k =
      subst (λ o. IsIfOk o (worth product).fraction) (sym (ap (λ c. cond c (both (of_pair head.Mul) (value given_numbers a) (value given_numbers b)) (Ok (given_numbers product))) e))
      (with_value (both (of_pair head.Mul) (value given_numbers a) (value given_numbers b)) (rational.times (worth a) (worth b)).fraction (worth product).fraction
      (both-is (of_pair head.Mul) (value given_numbers a) (value given_numbers b) (worth a).fraction (worth b).fraction (rational.times (worth a) (worth b)).fraction h k (operated-is op.Mul (worth a).fraction (worth b).fraction))
      (same_fraction (rational.times (worth a) (worth b)) (worth product)
      (sym (scaled-worth leaf.point (constant_value a) (constant_value b) (form a) (form b) product (whole-constant leaf.point a) (whole-constant leaf.point b) (λ f g. false≢true (sym (ap₂ (λ c d. is_some c || is_some d) f g) ∙ e))))))
    where
      product : Term
      product = term head.Mul (terms a (terms b no_terms))

  -- ---- each kind of truth

  less : (a b : Term) → Sorted a sort.Int → Sorted b sort.Int → HasWorth a → HasWorth b → has parts (term head.Lt (terms a (terms b no_terms))) ≡ true → truth (term head.Lt (terms a (terms b no_terms))) ≡ true
      → IsTruthful (term head.Lt (terms a (terms b no_terms)))
  less a b ha hb h k m n =
      atomic (term head.Lt (terms a (terms b no_terms))) m (plain-atom head.Lt (terms a (terms b no_terms)) n refl refl)
      (λ c there given. with_value (both (of_pair head.Lt) (value given_numbers a) (value given_numbers b)) (truth_value (is_less (order (worth a).fraction (worth b).fraction))) (truth_value c)
      (both-is (of_pair head.Lt) (value given_numbers a) (value given_numbers b) (worth a).fraction (worth b).fraction (truth_value (is_less (order (worth a).fraction (worth b).fraction))) h k
      (compared-is is_less (worth a).fraction (worth b).fraction))
      (ap truth_value (less-is (worth a) (worth b) ∙ less-met number leaf.point a b (number-of a ha) (number-of b hb) c (ok.point.relations (term head.Lt (terms a (terms b no_terms))) c there given))))

  at_most : (a b : Term) → Sorted a sort.Int → Sorted b sort.Int → HasWorth a → HasWorth b → has parts (term head.Le (terms a (terms b no_terms))) ≡ true → truth (term head.Le (terms a (terms b no_terms))) ≡ true
      → IsTruthful (term head.Le (terms a (terms b no_terms)))
  at_most a b ha hb h k m n =
      atomic (term head.Le (terms a (terms b no_terms))) m (plain-atom head.Le (terms a (terms b no_terms)) n refl refl)
      (λ c there given. with_value (both (of_pair head.Le) (value given_numbers a) (value given_numbers b)) (truth_value (is_at_most (order (worth a).fraction (worth b).fraction))) (truth_value c)
      (both-is (of_pair head.Le) (value given_numbers a) (value given_numbers b) (worth a).fraction (worth b).fraction (truth_value (is_at_most (order (worth a).fraction (worth b).fraction))) h k
      (compared-is is_at_most (worth a).fraction (worth b).fraction))
      (ap truth_value (at_most-is (worth a) (worth b) ∙ at_most-met number leaf.point a b (number-of a ha) (number-of b hb) c (ok.point.relations (term head.Le (terms a (terms b no_terms))) c there given))))

  -- numbers whose equation is false differ
  pub numbers-apart : (a b : Term) → number a ≡ true → number b ≡ true → has (atoms shapes decls fs) (equation a b) ≡ true → leaf.given (equation a b) ≡ Some false → worth a ≡ worth b → ⊥
  numbers-apart a b ha hb there given e =
      or_cases (is_met number leaf.point (below a b)) (is_met number leaf.point (below b a)) (ok.point.orders a b there given ha)
      (λ m. false≢true (sym (not_positive-itself (worth b) (worth a) (sym e)) ∙ less-met number leaf.point a b ha hb true m))
      (λ m. false≢true (sym (not_positive-itself (worth a) (worth b) e) ∙ less-met number leaf.point b a hb ha true m))

  same_number : (a b : Term) (c : Bool) → has parts a ≡ true → has parts b ≡ true → number a ≡ true → number b ≡ true → has (atoms shapes decls fs) (equation a b) ≡ true → leaf.given (equation a b) ≡ Some c
      → is_same (worth a).fraction (worth b).fraction ≡ c
  same_number a b true ma mb ha hb there given =
      ap (λ (x : Rational). is_same x.fraction (worth b).fraction) (ok.point.same a b ma mb ha hb (ok.told.sides a b true there given)) ∙ same-refl (worth b).fraction
  same_number a b false ma mb ha hb there given = by_case (is_same (worth a).fraction (worth b).fraction) refl
    where
      by_case : (d : Bool) → is_same (worth a).fraction (worth b).fraction ≡ d → is_same (worth a).fraction (worth b).fraction ≡ false
      by_case true e = absurd (numbers-apart a b ha hb there given (same (worth a) (worth b) (same-true (worth a).fraction (worth b).fraction e)))
      by_case false e = e

  abbrev class : Term → Fraction
  class t = whole (pos (class_of leaf.same parts t))

  pub class-same : (a b : Term) → has parts a ≡ true → class a ≡ class b → leaf.same a b ≡ true
  class-same a b m e = class-differs leaf.same (uncomputed truth parts) ok.sameness parts a b m (pos_same (class_of leaf.same parts a) (class_of leaf.same parts b) (ap (λ (x : Fraction). x.num) e))
    where
      pos_same : (i j : ℕ) → pos i ≡ pos j → i ≡ j
      pos_same i j e = cc

  same_class : (a b : Term) (c : Bool) → has parts a ≡ true → has (atoms shapes decls fs) (equation a b) ≡ true → leaf.given (equation a b) ≡ Some c → is_same (class a) (class b) ≡ c
  same_class a b true m there given =
      ap (λ n. is_same (whole (pos n)) (class b)) (class-one leaf.same (uncomputed truth parts) ok.sameness parts a b (ok.told.sides a b true there given)) ∙ same-refl (class b)
  same_class a b false m there given = by_case (is_same (class a) (class b)) refl
    where
      by_case : (d : Bool) → is_same (class a) (class b) ≡ d → is_same (class a) (class b) ≡ false
      by_case true e = absurd (false≢true (sym (ok.told.sides a b false there given) ∙ class-same a b m (same-true (class a) (class b) e)))
      by_case false e = e

  -- the outcome of an equation of these values
  equation_is : (a b : Term) (x y : Fraction) (c : Bool) → IsIfOk (value given_numbers a) x → IsIfOk (value given_numbers b) y → is_same x y ≡ c → IsIfOk (value given_numbers (equation a b)) (truth_value c)
  equation_is a b x y c h k e =
      both-is (of_pair head.Eq) (value given_numbers a) (value given_numbers b) x y (truth_value c) h k (ok-is (Ok (truth_value (is_same x y))) (truth_value (is_same x y)) (truth_value c) refl (ap truth_value e))

  same_truths : (a b : Term) → truth a ≡ true → truth b ≡ true → IsTruthful a → IsTruthful b → has parts (equation a b) ≡ true → IsTruthful (equation a b)
  same_truths a b ha hb h k m =
      connected (equation a b) (bool_eq h.holds k.holds) m
      (ap (λ c. equation_value c (truth_at truth leaf.given a) (truth_at truth leaf.given b) (terms a (terms b no_terms))) (both_true ha (both_true hb refl)) ∙ same-known h.holds k.holds (truth_at truth leaf.given a) (truth_at truth leaf.given b) h.is k.is)
      (equation_is a b (truth_value h.holds) (truth_value k.holds) (bool_eq h.holds k.holds) h.value_is k.value_is (same-values h.holds k.holds))

  no_connective : (a b : Term) → truth a ≡ false → connects (all_truths truth (terms a (terms b no_terms))) head.Eq ≡ false
  no_connective a b h = ap (λ c. c && (truth b && true)) h

  equal : (a b : Term) (s : Sort) → Sorted a s → Sorted b s → IsRight a → IsRight b → has parts a ≡ true → has parts b ≡ true → has parts (equation a b) ≡ true → truth (equation a b) ≡ true → IsTruthful (equation a b)
  equal a b s ha hb ra rb ma mb m n = by_truth (truth a) refl
    where
      as_b : (r : Sort) (c : Bool) → has_sort r (term_sort shapes decls a) ≡ c → has_sort r (term_sort shapes decls b) ≡ c
      as_b r c e = ap (has_sort r) (hb ∙ sym ha) ∙ e

      by_number : truth a ≡ false → (c : Bool) → number a ≡ c → IsTruthful (equation a b)
      by_number f true e =
          atomic (equation a b) m (plain-atom head.Eq (terms a (terms b no_terms)) n (no_connective a b f) refl)
          (λ c there given. equation_is a b (worth a).fraction (worth b).fraction c (ra.numbers e) (rb.numbers (as_b sort.Int true e)) (same_number a b c ma mb e (as_b sort.Int true e) there given))
      by_number f false e =
          atomic (equation a b) m (plain-atom head.Eq (terms a (terms b no_terms)) n (no_connective a b f) refl)
          (λ c there given. equation_is a b (class a) (class b) c (ok-is (value given_numbers a) (class a) (class a) (ra.others e f) refl)
          (ok-is (value given_numbers b) (class b) (class b) (rb.others (as_b sort.Int false e) (as_b sort.Bool false f)) refl) (same_class a b c ma there given))

      by_truth : (c : Bool) → truth a ≡ c → IsTruthful (equation a b)
      by_truth true e = same_truths a b e (as_b sort.Bool true e) (ra.truths e) (rb.truths (as_b sort.Bool true e)) m
      by_truth false e = by_number e (number a) refl

  negated : (a : Term) → IsTruthful a → has parts (term head.Not (terms a no_terms)) ≡ true → IsTruthful (term head.Not (terms a no_terms))
  negated a h m = connected (term head.Not (terms a no_terms)) (not h.holds) m (ap not_of h.is) (negation-is (value given_numbers a) h.holds h.value_is)

  conjoined : (a b : Term) → IsTruthful a → IsTruthful b → has parts (term head.And (terms a (terms b no_terms))) ≡ true → IsTruthful (term head.And (terms a (terms b no_terms)))
  conjoined a b h k m =
      connected (term head.And (terms a (terms b no_terms))) (h.holds && k.holds) m (and-known h.holds k.holds (truth_at truth leaf.given a) (truth_at truth leaf.given b) h.is k.is)
      (both-is (of_pair head.And) (value given_numbers a) (value given_numbers b) (truth_value h.holds) (truth_value k.holds) (truth_value (h.holds && k.holds)) h.value_is k.value_is (truths-are ◌&&◌ h.holds k.holds))

  disjoined : (a b : Term) → IsTruthful a → IsTruthful b → has parts (term head.Or (terms a (terms b no_terms))) ≡ true → IsTruthful (term head.Or (terms a (terms b no_terms)))
  disjoined a b h k m =
      connected (term head.Or (terms a (terms b no_terms))) (h.holds || k.holds) m (or-known h.holds k.holds (truth_at truth leaf.given a) (truth_at truth leaf.given b) h.is k.is)
      (both-is (of_pair head.Or) (value given_numbers a) (value given_numbers b) (truth_value h.holds) (truth_value k.holds) (truth_value (h.holds || k.holds)) h.value_is k.value_is (truths-are ◌||◌ h.holds k.holds))

  implying : (a b : Term) → IsTruthful a → IsTruthful b → has parts (term head.Implies (terms a (terms b no_terms))) ≡ true → IsTruthful (term head.Implies (terms a (terms b no_terms)))
  implying a b h k m =
      connected (term head.Implies (terms a (terms b no_terms))) (not h.holds || k.holds) m (implied-known h.holds k.holds (truth_at truth leaf.given a) (truth_at truth leaf.given b) h.is k.is)
      (both-is (of_pair head.Implies) (value given_numbers a) (value given_numbers b) (truth_value h.holds) (truth_value k.holds) (truth_value (not h.holds || k.holds)) h.value_is k.value_is
      (truths-are (λ c d. not c || d) h.holds k.holds))

  -- ---- a term whose value is listed

  own_right : (h : Head) (ts : Terms) → means h (constant_values ts) ≡ false → has parts (term h ts) ≡ true → IsRight (term h ts)
  own_right h ts e m = record {
    numbers = λ k. ok-is (value given_numbers (term h ts)) (number_at shapes decls parts leaf (term h ts)) (worth (term h ts)).fraction (own-is h ts e m)
        (number-at (term h ts) k ∙ same_fraction (leaf.point (term h ts)) (worth (term h ts)) (sym (own-point h ts e)));
    truths = λ k. atomic (term h ts) m (plain-atom h ts k (own-plain h (constant_values ts) (all_truths truth ts) e) (own-open h (constant_values ts) e))
        (λ c there given. ok-is (value given_numbers (term h ts)) (number_at shapes decls parts leaf (term h ts)) (truth_value c) (own-is h ts e m)
        (truth-at (term h ts) k ∙ ap (λ o. truth_number (or_else o (computed truth leaf.given (term h ts)))) given));
    others = λ k l. own-is h ts e m ∙ ap (λ x. Ok x) (class-at (term h ts) k l);
  }

  -- ---- all of them

  abbrev AllRight : Terms → Type 0
  AllRight no_terms = Unit {0}
  AllRight (terms t ts) = IsRight t × AllRight ts

  abbrev ArgumentsRight : Term → Type 0
  ArgumentsRight (term h ts) = ArgumentsIn parts ts × AllRight ts

  step : (t : Term) (s : Sort) → Kind shapes decls t s → has parts t ≡ true → Sorted t s → ArgumentsRight t → IsRight t
  step t s (Own h ts r e) m is all = own_right h ts e m
  step t s (Numeral z) m is all = a_number (term (head.Num z) no_terms) is (numeral z)
  step t s (Total a b ha hb) m is all = a_number (term head.Add (terms a (terms b no_terms))) is (total a b (value_of_number a ha all.1.0) (value_of_number b hb all.1.1.0))
  step t s (Remains a b ha hb) m is all = a_number (term head.Sub (terms a (terms b no_terms))) is (remains a b (value_of_number a ha all.1.0) (value_of_number b hb all.1.1.0))
  step t s (Multiple a b ha hb e) m is all = a_number (term head.Mul (terms a (terms b no_terms))) is (multiple a b e (value_of_number a ha all.1.0) (value_of_number b hb all.1.1.0))
  step t s (IsLess a b ha hb) m is all =
      a_truth (term head.Lt (terms a (terms b no_terms))) is (less a b ha hb (value_of_number a ha all.1.0) (value_of_number b hb all.1.1.0) m (truth-of (term head.Lt (terms a (terms b no_terms))) is))
  step t s (IsAtMost a b ha hb) m is all =
      a_truth (term head.Le (terms a (terms b no_terms))) is (at_most a b ha hb (value_of_number a ha all.1.0) (value_of_number b hb all.1.1.0) m (truth-of (term head.Le (terms a (terms b no_terms))) is))
  step t s (IsEqual a b r ha hb) m is all = a_truth (equation a b) is (equal a b r ha hb all.1.0 all.1.1.0 all.0.0 all.0.1.0 m (truth-of (equation a b) is))
  step t s (Negated a ha) m is all = a_truth (term head.Not (terms a no_terms)) is (negated a (truth_of_right a ha all.1.0) m)
  step t s (Both a b ha hb) m is all = a_truth (term head.And (terms a (terms b no_terms))) is (conjoined a b (truth_of_right a ha all.1.0) (truth_of_right b hb all.1.1.0) m)
  step t s (Either a b ha hb) m is all = a_truth (term head.Or (terms a (terms b no_terms))) is (disjoined a b (truth_of_right a ha all.1.0) (truth_of_right b hb all.1.1.0) m)
  step t s (Implied a b ha hb) m is all = a_truth (term head.Implies (terms a (terms b no_terms))) is (implying a b (truth_of_right a ha all.1.0) (truth_of_right b hb all.1.1.0) m)
  step t s Truthful m is all = a_truth (term head.True no_terms) is (connected (term head.True no_terms) true m refl (ok-is (Ok (truth_value true)) (truth_value true) (truth_value true) refl refl))
  step t s Untruthful m is all = a_truth (term head.False no_terms) is (connected (term head.False no_terms) false m refl (ok-is (Ok (truth_value false)) (truth_value false) (truth_value false) refl refl))

  pub the_sort : (t : Term) → has parts t ≡ true → IsSome (term_sort shapes decls t)
  the_sort t m = some-is (term_sort shapes decls t) (closed.sorted t m)

  mutual
    pub right : (t : Term) → has parts t ≡ true → IsRight t
    right (term h ts) m =
        let s = the_sort (term h ts) m in
        step (term h ts) s.item (kind shapes decls (term h ts) s.item s.is) m s.is (closed.inside h ts m, all_right ts (closed.inside h ts m))

    all_right : (ts : Terms) → ArgumentsIn parts ts → AllRight ts
    all_right no_terms m = tt
    all_right (terms t ts) m = (right t m.0, all_right ts m.1)
