-- Terms that a derivation joins have one value, where those have it that were told, and those that a table lists.
use Rattle.std.proofs.Common.{◌≡◌, List, Bool, true, false, ◌||◌, not, [], ◌∷◌, refl, sym, ap, ◌∙◌, Option, Some, None}
use mathlib.Core.Path.{ap₂}
use Rattle.std.specs.Prelude.{is_some}
use Rattle.std.proofs.lemmas.Bool.{false≢true}
use Rattle.spv_frac.specs.rational.Rational.{Rational, plus, times}
use Rattle.spv_logic.specs.declared.types.Sort.{Sort}
use Rattle.spv_logic.specs.declared.types.Sort.TheVariants as sort
use Rattle.spv_logic.specs.declared.types.Shape.{Shape}
use Rattle.spv_logic.specs.declared.types.Decl.{Decl}
use Rattle.spv_logic.specs.declared.operators.Head.{Head}
use Rattle.spv_logic.specs.declared.operators.Head.TheVariants as head
use Rattle.spv_logic.specs.Terms.{Term, Terms, term, no_terms, terms}
use Rattle.spv_logic.specs.Sorts.{result_sort, sort_before, term_sort, term_sorts, with_sorts}
use Rattle.spv_atoms.specs.Atoms.{has_sort, is_number}
use Rattle.spv_atoms.specs.Forms.{constant_value, constant_values, form}
use Rattle.spv_term.specs.closure.Joined.{AllJoined, congruent, itself, Joined, more, none, through, told, turned}
use Rattle.spv_tableau_rules.proofs.constraints.Values.{minus-value}
use Rattle.spv_models.specs.leaf_models.Subterms.{is_listed, is_one_constant, means}
use Rattle.spv_models.specs.leaf_models.Leaves.{worth_at}
use Rattle.spv_models.proofs.leaf_models.TermKinds.{Both, Either, HasSort, Implied, IsAtMost, IsEqual, IsLess, Kind, kind, Multiple, Negated, Numeral, Own, Remains, Total, Truthful, Untruthful}
use Rattle.spv_models.proofs.leaf_models.Values.{sort_known}
use Rattle.spv_models.proofs.leaf_models.Worths.{plus-worth, scaled-worth, whole-constant}
use Rattle.spv_tableau_rules.specs.tableaux.Numbers.{minus}

no_int : sort.Bool ≡ sort.Int → ⊥
no_int e = cc

neither_left : (b c : Bool) → (b || c) ≡ false → b ≡ false
neither_left false c e = refl
neither_left true c e = absurd (false≢true (sym e))

neither_right : (b c : Bool) → (b || c) ≡ false → c ≡ false
neither_right false c e = e
neither_right true c e = absurd (false≢true (sym e))

not_false : (b : Bool) → not b ≡ false → b ≡ true
not_false true e = refl
not_false false e = absurd (false≢true (sym e))

abbrev head_of : Term → Head
head_of (term h ts) = h

module _ (shapes : List Shape) (decls : List Decl) (w : Term → Rational) where
  abbrev number : Term → Bool
  number t = is_number shapes decls t

  abbrev worth : Term → Rational
  worth t = worth_at w t

  number_of : (t : Term) → HasSort shapes decls t sort.Int → number t ≡ true
  number_of t e = ap (has_sort sort.Int) e

  -- numbers among the arguments have one value each
  abbrev AllWorth : Terms → Terms → Type 0
  AllWorth no_terms no_terms = Unit {0}
  AllWorth (terms s ss) (terms t ts) = (number s ≡ true → worth s ≡ worth t) × AllWorth ss ts
  AllWorth no_terms (terms t ts) = ⊥
  AllWorth (terms s ss) no_terms = ⊥

  abbrev ArgumentsWorth : Term → Terms → Type 0
  ArgumentsWorth (term h ts) us = AllWorth ts us

  -- ---- linear heads

  total : (a b : Term) → number a ≡ true → number b ≡ true → (us : Terms) → AllWorth (terms a (terms b no_terms)) us → worth (term head.Add (terms a (terms b no_terms))) ≡ worth (term head.Add us)
  total a b na nb no_terms all = absurd all
  total a b na nb (terms c no_terms) all = absurd all.1
  total a b na nb (terms c (terms d no_terms)) all = plus-worth w (form a) (form b) ∙ (ap₂ plus (all.0 na) (all.1.0 nb) ∙ sym (plus-worth w (form c) (form d)))
  total a b na nb (terms c (terms d (terms e es))) all = absurd all.1.1

  remains : (a b : Term) → number a ≡ true → number b ≡ true → (us : Terms) → AllWorth (terms a (terms b no_terms)) us → worth (term head.Sub (terms a (terms b no_terms))) ≡ worth (term head.Sub us)
  remains a b na nb no_terms all = absurd all
  remains a b na nb (terms c no_terms) all = absurd all.1
  remains a b na nb (terms c (terms d no_terms)) all = minus-value w (form a) (form b) ∙ (ap₂ minus (all.0 na) (all.1.0 nb) ∙ sym (minus-value w (form c) (form d)))
  remains a b na nb (terms c (terms d (terms e es))) all = absurd all.1.1

  scaled : (a b : Term) → is_one_constant (constant_value a ∷ constant_value b ∷ []) ≡ true → worth (term head.Mul (terms a (terms b no_terms))) ≡ times (worth a) (worth b)
  scaled a b one =
      scaled-worth w (constant_value a) (constant_value b) (form a) (form b) (term head.Mul (terms a (terms b no_terms))) (whole-constant w a) (whole-constant w b)
      (λ f g. false≢true (sym (ap₂ (λ c d. is_some c || is_some d) f g) ∙ one))

  multiple : (a b : Term) → number a ≡ true → number b ≡ true → is_one_constant (constant_value a ∷ constant_value b ∷ []) ≡ true → (us : Terms) → AllWorth (terms a (terms b no_terms)) us → is_listed (term head.Mul us) ≡ false
      → worth (term head.Mul (terms a (terms b no_terms))) ≡ worth (term head.Mul us)
  multiple a b na nb one no_terms all m = absurd all
  multiple a b na nb one (terms c no_terms) all m = absurd all.1
  multiple a b na nb one (terms c (terms d no_terms)) all m =
      scaled a b one ∙ (ap₂ times (all.0 na) (all.1.0 nb) ∙ sym (scaled c d (not_false (is_one_constant (constant_value c ∷ constant_value d ∷ [])) m)))
  multiple a b na nb one (terms c (terms d (terms e es))) all m = absurd all.1.1

  -- terms of one head that no table lists
  linear : (t : Term) (s : Sort) → Kind shapes decls t s → s ≡ sort.Int → (us : Terms) → ArgumentsWorth t us → is_listed t ≡ false → is_listed (term (head_of t) us) ≡ false → worth t ≡ worth (term (head_of t) us)
  linear t s (Own h ts r e) int us all l m = absurd (false≢true (sym l ∙ ap not e))
  linear t s (Numeral z) int no_terms all l m = refl
  linear t s (Numeral z) int (terms u us) all l m = absurd all
  linear t s (Total a b ha hb) int us all l m = total a b (number_of a ha) (number_of b hb) us all
  linear t s (Remains a b ha hb) int us all l m = remains a b (number_of a ha) (number_of b hb) us all
  linear t s (Multiple a b ha hb one) int us all l m = multiple a b (number_of a ha) (number_of b hb) one us all m
  linear t s (IsLess a b ha hb) int us all l m = absurd (no_int int)
  linear t s (IsAtMost a b ha hb) int us all l m = absurd (no_int int)
  linear t s (IsEqual a b r ha hb) int us all l m = absurd (no_int int)
  linear t s (Negated a ha) int us all l m = absurd (no_int int)
  linear t s (Both a b ha hb) int us all l m = absurd (no_int int)
  linear t s (Either a b ha hb) int us all l m = absurd (no_int int)
  linear t s (Implied a b ha hb) int us all l m = absurd (no_int int)
  linear t s Truthful int us all l m = absurd (no_int int)
  linear t s Untruthful int us all l m = absurd (no_int int)

  -- ---- derivations

  module _ (Added : Term → Type 0) (Told : Term → Term → Type 0) (keeps : (s t : Term) → Told s t → term_sort shapes decls s ≡ term_sort shapes decls t) where
    mutual
      pub sorts_same : (s t : Term) → Joined Added Told s t → term_sort shapes decls s ≡ term_sort shapes decls t
      sorts_same _ _ (told s t h) = keeps s t h
      sorts_same _ _ (itself t) = refl
      sorts_same _ _ (turned s t d) = sym (sorts_same s t d)
      sorts_same _ _ (through s t u d e) = sorts_same s t d ∙ sorts_same t u e
      sorts_same _ _ (congruent h ss ts i j all) = ap (λ o. with_sorts o (result_sort shapes decls h)) (all_sorts_same ss ts all)

      pub all_sorts_same : (ss ts : Terms) → AllJoined Added Told ss ts → term_sorts shapes decls ss ≡ term_sorts shapes decls ts
      all_sorts_same _ _ none = refl
      all_sorts_same _ _ (more s t ss ts d all) = ap₂ sort_before (sorts_same s t d) (all_sorts_same ss ts all)

    module _ (told_equal : (s t : Term) → Told s t → number s ≡ true → worth s ≡ worth t)
        (pair_equal : (h : Head) (ss us : Terms) → Added (term h ss) → Added (term h us) → AllJoined Added Told ss us → number (term h ss) ≡ true → (is_listed (term h ss) || is_listed (term h us)) ≡ true
        → worth (term h ss) ≡ worth (term h us)) where
      number_as : (s t : Term) → term_sort shapes decls s ≡ term_sort shapes decls t → number s ≡ true → number t ≡ true
      number_as s t e n = ap (has_sort sort.Int) (sym e) ∙ n

      by_congruence : (h : Head) (ss us : Terms) → Added (term h ss) → Added (term h us) → AllJoined Added Told ss us → number (term h ss) ≡ true → AllWorth ss us → worth (term h ss) ≡ worth (term h us)
      by_congruence h ss us i j all n worths = by_listed (is_listed (term h ss) || is_listed (term h us)) refl
        where
          by_listed : (b : Bool) → (is_listed (term h ss) || is_listed (term h us)) ≡ b → worth (term h ss) ≡ worth (term h us)
          by_listed true e = pair_equal h ss us i j all n e
          by_listed false e =
              linear (term h ss) sort.Int (kind shapes decls (term h ss) sort.Int (sort_known sort.Int (term_sort shapes decls (term h ss)) n)) refl us worths
              (neither_left (is_listed (term h ss)) (is_listed (term h us)) e) (neither_right (is_listed (term h ss)) (is_listed (term h us)) e)

      mutual
        pub one_value : (s t : Term) → Joined Added Told s t → number s ≡ true → worth s ≡ worth t
        one_value _ _ (told s t h) n = told_equal s t h n
        one_value _ _ (itself t) n = refl
        one_value _ _ (turned s t d) n = sym (one_value s t d (number_as t s (sym (sorts_same s t d)) n))
        one_value _ _ (through s t u d e) n = one_value s t d n ∙ one_value t u e (number_as s t (sorts_same s t d) n)
        one_value _ _ (congruent h ss us i j all) n = by_congruence h ss us i j all n (all_values ss us all)

        all_values : (ss us : Terms) → AllJoined Added Told ss us → AllWorth ss us
        all_values _ _ none = tt
        all_values _ _ (more s t ss ts d all) = ((λ n. one_value s t d n), all_values ss ts all)

-- ---- the sides of an equation

pub sides_sorts : (shapes : List Shape) (decls : List Decl) (x : Term) (r : Sort) → Kind shapes decls x r → (s t : Term) → x ≡ term head.Eq (terms s (terms t no_terms)) → term_sort shapes decls s ≡ term_sort shapes decls t
sides_sorts shapes decls x r (IsEqual a b q ha hb) s t e =
    ap (term_sort shapes decls) (sym (first a b s t e)) ∙ (ha ∙ (sym hb ∙ ap (term_sort shapes decls) (second a b s t e)))
  where
    first : (a b s t : Term) → term head.Eq (terms a (terms b no_terms)) ≡ term head.Eq (terms s (terms t no_terms)) → a ≡ s
    first a b s t e = cc

    second : (a b s t : Term) → term head.Eq (terms a (terms b no_terms)) ≡ term head.Eq (terms s (terms t no_terms)) → b ≡ t
    second a b s t e = cc
sides_sorts shapes decls x r (Own h ts q m) s t e = absurd (false≢true (sym m ∙ meaning h ts s t e))
  where
    meaning : (h : Head) (ts : Terms) (s t : Term) → term h ts ≡ term head.Eq (terms s (terms t no_terms)) → means h (constant_values ts) ≡ true
    meaning h ts s t e = ap (λ k. means k (constant_values ts)) (head_is h head.Eq ts (terms s (terms t no_terms)) e)
      where
        head_is : (h k : Head) (ss ts : Terms) → term h ss ≡ term k ts → h ≡ k
        head_is h k ss ts e = cc
sides_sorts shapes decls x r (Numeral z) s t e = absurd (cc)
sides_sorts shapes decls x r (Total a b ha hb) s t e = absurd (cc)
sides_sorts shapes decls x r (Remains a b ha hb) s t e = absurd (cc)
sides_sorts shapes decls x r (Multiple a b ha hb one) s t e = absurd (cc)
sides_sorts shapes decls x r (IsLess a b ha hb) s t e = absurd (cc)
sides_sorts shapes decls x r (IsAtMost a b ha hb) s t e = absurd (cc)
sides_sorts shapes decls x r (Negated a ha) s t e = absurd (cc)
sides_sorts shapes decls x r (Both a b ha hb) s t e = absurd (cc)
sides_sorts shapes decls x r (Either a b ha hb) s t e = absurd (cc)
sides_sorts shapes decls x r (Implied a b ha hb) s t e = absurd (cc)
sides_sorts shapes decls x r Truthful s t e = absurd (cc)
sides_sorts shapes decls x r Untruthful s t e = absurd (cc)
