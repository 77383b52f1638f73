-- Truth values that are computed are right where those that are given are.
use Rattle.std.proofs.Common.{◌≡◌, Bool, true, false, cond, ◌&&◌, ◌||◌, not, List, [], ◌∷◌, ◌++◌, ℤ, refl, sym, ap, ◌∙◌, subst, Option, Some, None}
use Rattle.std.proofs.lemmas.Bool.{false≢true}
use Rattle.std.specs.Int.RustNames.{int_lt}
use Rattle.std.specs.Ordering.{int_eq}
use Rattle.spv_logic.proofs.list.Tests.{left_true, right_true}
use Rattle.spv_logic.specs.declared.types.Sort.{Sort}
use Rattle.spv_logic.specs.declared.types.Sort.TheVariants as sort
use Rattle.spv_logic.specs.declared.types.Shape.{Shape}
use Rattle.spv_logic.specs.declared.types.Decl.{Decl}
use Rattle.spv_logic.specs.declared.operators.Head.{Head}
use Rattle.spv_logic.specs.declared.operators.Head.TheVariants.{Num, Eq, Lt, Le, Not, And, Or, Implies, True, False}
use Rattle.spv_logic.specs.Values.{Value, Number, Truth, value_eq, bool_eq, number_of, truth_of}
use Rattle.spv_logic.specs.Terms.{Term, Terms, term, no_terms, terms, term_eq, eval, eval_all, first, second}
use Rattle.spv_logic.specs.Shapes.{shapes_ok}
use Rattle.spv_logic.specs.Fits.{fits}
use Rattle.spv_logic.specs.Sorts.{term_sort}
use Rattle.spv_logic.specs.Conditions.{Meaning, Valuation, IsValuation, answers, holds}
use Rattle.spv_logic.proofs.Equality.{term_eq-true, sort_eq-true}
use Rattle.spv_logic.proofs.Sorting.{eval-fits}
use Rattle.spv_atoms.specs.Tables.{not_of, and_of, or_of, implied, same_of, numeral, compare_known, numeral_relation, all_truths, first_of, second_of, equation_value, combined, or_else, computed, values, assigned, truth}
use Rattle.spv_atoms.specs.Laws.{AllHave}
use Rattle.spv_atoms.specs.Atoms.{has_sort, is_truth, is_number}

-- ---- what options tell of truth values

-- where a value is known, it is this truth value
pub record Known (p : Bool) (o : Option Bool) : Type 0 where
  pub tells : (b : Bool) → o ≡ Some b → p ≡ b

pub known_none : (p : Bool) → Known p None
known_none p = record { tells = λ b e. cc }

pub known_some : (p b : Bool) → p ≡ b → Known p (Some b)
known_some p b h = record { tells = λ c e. cc }

pub known_not : (p : Bool) (o : Option Bool) → Known p o → Known (not p) (not_of o)
known_not p None k = known_none (not p)
known_not p (Some a) k = known_some (not p) (not a) (ap not (k.tells a refl))

known_and : (p q : Bool) (x y : Option Bool) → Known p x → Known q y → Known (p && q) (and_of x y)
known_and p q (Some false) y k l = known_some (p && q) false (ap (λ r. r && q) (k.tells false refl))
known_and p q (Some true) y k l = subst (λ r. Known (r && q) y) (sym (k.tells true refl)) l
known_and true q None (Some false) k l = known_some q false (l.tells false refl)
known_and false q None (Some false) k l = known_some false false refl
known_and p q None (Some true) k l = known_none (p && q)
known_and p q None None k l = known_none (p && q)

de_morgan : (p q : Bool) → not (not p && not q) ≡ (p || q)
de_morgan true true = refl
de_morgan true false = refl
de_morgan false true = refl
de_morgan false false = refl

known_or : (p q : Bool) (x y : Option Bool) → Known p x → Known q y → Known (p || q) (or_of x y)
known_or p q x y k l =
    subst (λ r. Known r (or_of x y)) (de_morgan p q) (known_not (not p && not q) (and_of (not_of x) (not_of y)) (known_and (not p) (not q) (not_of x) (not_of y) (known_not p x k) (known_not q y l)))

known_implied : (p q : Bool) (x y : Option Bool) → Known p x → Known q y → Known (not p || q) (implied x y)
known_implied p q x y k l = known_or (not p) q (not_of x) y (known_not p x k) l

known_same : (p q : Bool) (x y : Option Bool) → Known p x → Known q y → Known (bool_eq p q) (same_of x y)
known_same p q None y k l = known_none (bool_eq p q)
known_same p q (Some a) None k l = known_none (bool_eq p q)
known_same p q (Some a) (Some b) k l =
    let e = k.tells a refl in
    let f = l.tells b refl in
    known_some (bool_eq p q) (bool_eq a b) (cc (e, f))

pub known_or_else : (p : Bool) (x y : Option Bool) → Known p x → Known p y → Known p (or_else x y)
known_or_else p None y k l = l
known_or_else p (Some a) y k l = k

-- ---- in one world, under one valuation

module _ (shapes : List Shape) (ok : shapes_ok shapes ≡ true) (decls : List Decl) (world : Meaning) (v : Valuation) (typed : IsValuation shapes v) where
  abbrev pub worth_of : Term → Value
  worth_of t = eval (answers shapes decls world) v t

  abbrev pub true_in : Term → Bool
  true_in t = holds (answers shapes decls world) v t

  -- a value of sort Bool is a truth value
  is_truth_value : (w : Value) → fits shapes w sort.Bool ≡ true → w ≡ Truth (truth_of w)
  is_truth_value (Truth b) h = refl
  is_truth_value _ h = absurd (false≢true h)

  -- a value of sort Int is a number
  is_number_value : (w : Value) → fits shapes w sort.Int ≡ true → w ≡ Number (number_of w)
  is_number_value (Number z) h = refl
  is_number_value _ h = absurd (false≢true h)

  sort_of : (r : Sort) (o : Option Sort) → has_sort r o ≡ true → o ≡ Some r
  sort_of r None h = absurd (false≢true h)
  sort_of r (Some s) h = ap Some (sort_eq-true s r h)

  pub truth_worth : (t : Term) → is_truth shapes decls t ≡ true → worth_of t ≡ Truth (true_in t)
  truth_worth t h = is_truth_value (worth_of t) (eval-fits shapes ok decls world v typed t sort.Bool (sort_of sort.Bool (term_sort shapes decls t) h))

  pub number_worth : (t : Term) → is_number shapes decls t ≡ true → worth_of t ≡ Number (number_of (worth_of t))
  number_worth t h = is_number_value (worth_of t) (eval-fits shapes ok decls world v typed t sort.Int (sort_of sort.Int (term_sort shapes decls t) h))

  -- each term in the list has the value beside it
  abbrev pub Agrees : List (Term × Bool) → Type 0
  Agrees known = AllHave true_in known

  pub agrees_append : (xs ys : List (Term × Bool)) → Agrees xs → Agrees ys → Agrees (xs ++ ys)
  agrees_append [] ys a b = b
  agrees_append (x ∷ xs) ys a b = (a.0, agrees_append xs ys a.1 b)

  pub assigned_known : (xs : List (Term × Bool)) (t : Term) → Agrees xs → Known (true_in t) (assigned xs t)
  assigned_known [] t a = known_none (true_in t)
  assigned_known (x ∷ xs) t a = by_case (term_eq x.0 t) refl (assigned_known xs t a.1)
    where
      by_case : (b : Bool) → term_eq x.0 t ≡ b → Known (true_in t) (assigned xs t) → Known (true_in t) (cond b (Some x.1) (assigned xs t))
      by_case true e later = known_some (true_in t) x.1 (ap true_in (sym (term_eq-true x.0 t e)) ∙ a.0)
      by_case false e later = later

  -- ---- computed values

  numeral_worth : (t : Term) (z : ℤ) → numeral t ≡ Some z → worth_of t ≡ Number z
  numeral_worth (term (Num x) ts) z e = let same : x ≡ z = cc in ap Number same
  numeral_worth _ z e = cc

  compare_worth : (test : ℤ → ℤ → Bool) (s t : Term) (x y : Option ℤ) → numeral s ≡ x → numeral t ≡ y → Known (test (number_of (worth_of s)) (number_of (worth_of t))) (compare_known test x y)
  compare_worth test s t None y e f = known_none _
  compare_worth test s t (Some x) None e f = known_none _
  compare_worth test s t (Some x) (Some y) e f =
      let a = ap number_of (numeral_worth s x e) in
      let b = ap number_of (numeral_worth t y f) in
      known_some _ (test x y) (cc (a, b))

  equal_worth : (s t : Term) (x y : Option ℤ) → numeral s ≡ x → numeral t ≡ y → Known (value_eq (worth_of s) (worth_of t)) (compare_known int_eq x y)
  equal_worth s t None y e f = known_none _
  equal_worth s t (Some x) None e f = known_none _
  equal_worth s t (Some x) (Some y) e f =
      let a = numeral_worth s x e in
      let b = numeral_worth t y f in
      known_some _ (int_eq x y) (ap (λ w. value_eq w (worth_of t)) a ∙ ap (value_eq (Number x)) b)

  pub relation_known : (t : Term) → Known (true_in t) (numeral_relation t)
  relation_known (term Eq (terms s (terms t no_terms))) = equal_worth s t (numeral s) (numeral t) refl refl
  relation_known (term Lt (terms s (terms t no_terms))) = compare_worth int_lt s t (numeral s) (numeral t) refl refl
  relation_known (term Le (terms s (terms t no_terms))) = compare_worth (λ a b. not (int_lt b a)) s t (numeral s) (numeral t) refl refl
  relation_known t = known_none (true_in t)

  abbrev firsts : Terms → Bool
  firsts ts = truth_of (first (eval_all (answers shapes decls world) v ts))

  abbrev seconds : Terms → Bool
  seconds ts = truth_of (second (eval_all (answers shapes decls world) v ts))

  -- what the arguments' values tell
  record ArgumentsKnown (ts : Terms) (xs : List (Option Bool)) : Type 0 where
    first_known : Known (firsts ts) (first_of xs)
    second_known : Known (seconds ts) (second_of xs)

  -- of no argument nothing is known
  no_first : (given : Term → Option Bool) (ts : Terms) → ts ≡ no_terms → first_of (values (is_truth shapes decls) given ts) ≡ None
  no_first given ts e = ap (λ us. first_of (values (is_truth shapes decls) given us)) e

  no_second : (given : Term → Option Bool) (ts : Terms) (t : Term) → ts ≡ terms t no_terms → second_of (values (is_truth shapes decls) given ts) ≡ None
  no_second given ts t e = ap (λ us. second_of (values (is_truth shapes decls) given us)) e

  same_none : (p : Bool) (x : Option Bool) → Known p (same_of x None)
  same_none p None = known_none p
  same_none p (Some a) = known_none p

  equation_known : (ts : Terms) (x y : Option Bool) (b : Bool) → all_truths (is_truth shapes decls) ts ≡ b → Known (firsts ts) x → Known (seconds ts) y → (ts ≡ no_terms → x ≡ None) → ((t : Term) → ts ≡ terms t no_terms → y ≡ None) → Known (true_in (term Eq ts)) (equation_value b x y ts)
  equation_known ts x y false e k l n m = relation_known (term Eq ts)
  equation_known no_terms x y true e k l n m = subst (λ o. Known (true_in (term Eq no_terms)) (same_of o y)) (sym (n refl)) (known_none _)
  equation_known (terms t no_terms) x y true e k l n m =
      subst (λ o. Known (true_in (term Eq (terms t no_terms))) (same_of x o)) (sym (m t refl)) (same_none _ x)
  equation_known (terms s (terms t ts)) x y true e k l n m =
      let a = truth_worth s (left_true _ _ e) in
      let b = truth_worth t (left_true _ _ (right_true (is_truth shapes decls s) _ e)) in
      let same : true_in (term Eq (terms s (terms t ts))) ≡ bool_eq (true_in s) (true_in t) = ap (λ w. value_eq w (worth_of t)) a ∙ ap (value_eq (Truth (true_in s))) b in
      subst (λ r. Known r (same_of x y)) (sym same) (known_same (true_in s) (true_in t) x y k l)

  combined_known : (h : Head) (ts : Terms) (x y : Option Bool) (b : Bool) → all_truths (is_truth shapes decls) ts ≡ b → Known (firsts ts) x → Known (seconds ts) y → (ts ≡ no_terms → x ≡ None) → ((t : Term) → ts ≡ terms t no_terms → y ≡ None) → Known (true_in (term h ts)) (combined b h x y ts)
  combined_known Not ts x y b e k l n m = known_not (firsts ts) x k
  combined_known And ts x y b e k l n m = known_and (firsts ts) (seconds ts) x y k l
  combined_known Or ts x y b e k l n m = known_or (firsts ts) (seconds ts) x y k l
  combined_known Implies ts x y b e k l n m = known_implied (firsts ts) (seconds ts) x y k l
  combined_known Eq ts x y b e k l n m = equation_known ts x y b e k l n m
  combined_known Lt ts x y b e k l n m = relation_known (term Lt ts)
  combined_known Le ts x y b e k l n m = relation_known (term Le ts)
  combined_known True ts x y b e k l n m = known_some _ true refl
  combined_known False ts x y b e k l n m = known_some _ false refl
  combined_known h ts x y b e k l n m = known_none (true_in (term h ts))

  mutual
    -- if each given value is right, each computed one is
    pub computed_known : (given : Term → Option Bool) → ((t : Term) → Known (true_in t) (given t)) → (t : Term) → Known (true_in t) (computed (is_truth shapes decls) given t)
    computed_known given h (term k ts) =
        let args = values_known given h ts in
        combined_known k ts (first_of (values (is_truth shapes decls) given ts)) (second_of (values (is_truth shapes decls) given ts)) (all_truths (is_truth shapes decls) ts) refl args.first_known args.second_known (no_first given ts) (no_second given ts)

    values_known : (given : Term → Option Bool) → ((t : Term) → Known (true_in t) (given t)) → (ts : Terms) → ArgumentsKnown ts (values (is_truth shapes decls) given ts)
    values_known given h no_terms = record { first_known = known_none _; second_known = known_none _ }
    values_known given h (terms t ts) = record {
      first_known = known_or_else (true_in t) (given t) (computed (is_truth shapes decls) given t) (h t) (computed_known given h t);
      second_known = (values_known given h ts).first_known;
    }

  -- a known value is that of the formula
  pub truth_known : (known : List (Term × Bool)) (t : Term) → Agrees known → Known (true_in t) (truth (is_truth shapes decls) known t)
  truth_known known t a =
      known_or_else (true_in t) (assigned known t) (computed (is_truth shapes decls) (assigned known) t) (assigned_known known t a)
      (computed_known (assigned known) (λ u. assigned_known known u a) t)
