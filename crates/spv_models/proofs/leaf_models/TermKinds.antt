-- The kinds of terms that have a sort: those that a table lists, and each head with a meaning of its own over its arguments.
use Rattle.std.proofs.Common.{◌≡◌, Bool, true, false, List, [], ◌∷◌, refl, sym, ap, ◌∙◌, subst, Option, Some, None, ℤ}
use Rattle.spv_logic.specs.declared.types.Sort.{Sort}
use Rattle.spv_logic.specs.declared.types.Sort.TheVariants as sort
use Rattle.spv_logic.specs.declared.types.Shape.{Shape}
use Rattle.spv_logic.specs.declared.types.Decl.{Decl}
use Rattle.spv_logic.specs.declared.operators.Head.{Head}
use Rattle.spv_logic.specs.declared.operators.Head.TheVariants as head
use Rattle.spv_logic.specs.Terms.{Term, Terms, term, no_terms, terms}
use Rattle.spv_logic.specs.Sorts.{term_sort, term_sorts, with_sorts, sort_before, result_sort, takes, first_sort}
use Rattle.spv_logic.proofs.Sorting.{taken}
use Rattle.spv_atoms.specs.Forms.{constant_value, constant_values}
use Rattle.spv_models.specs.leaf_models.Subterms.{is_one_constant, means}

-- ---- arguments by their sorts

not_none : {A : Type 0} (x : A) → None ≡ Some x → ⊥
not_none x e = cc

pub record IsHead (o : Option (List Sort)) (go : List Sort → Option Sort) (s : Sort) : Type 0 where
  pub sorts : List Sort
  pub sorts_are : o ≡ Some sorts
  pub result : go sorts ≡ Some s

pub head_parts : (o : Option (List Sort)) (go : List Sort → Option Sort) (s : Sort) → with_sorts o go ≡ Some s → IsHead o go s
head_parts None go s e = absurd (not_none s e)
head_parts (Some ss) go s e = record { sorts = ss; sorts_are = refl; result = e }

record AreBefore (a : Option Sort) (b : Option (List Sort)) (s : Sort) (ss : List Sort) : Type 0 where
  first : a ≡ Some s
  others : b ≡ Some ss

before : (a : Option Sort) (b : Option (List Sort)) (s : Sort) (ss : List Sort) → sort_before a b ≡ Some (s ∷ ss) → AreBefore a b s ss
before None b s ss e = absurd (not_none (s ∷ ss) e)
before (Some x) None s ss e = absurd (not_none (s ∷ ss) e)
before (Some x) (Some xs) s ss e = record { first = cc; others = cc }

not_empty : (a : Option Sort) (b : Option (List Sort)) → sort_before a b ≡ Some [] → ⊥
not_empty None b e = cc
not_empty (Some x) None e = cc
not_empty (Some x) (Some xs) e = cc

module _ (shapes : List Shape) (decls : List Decl) where
  abbrev pub HasSort : Term → Sort → Type 0
  HasSort t s = term_sort shapes decls t ≡ Some s

  record IsNoArgument (ts : Terms) : Type 0 where
    is : ts ≡ no_terms

  record IsOneArgument (ts : Terms) (s : Sort) : Type 0 where
    first : Term
    is : ts ≡ terms first no_terms
    first_sort : HasSort first s

  record AreTwoArguments (ts : Terms) (r s : Sort) : Type 0 where
    first : Term
    second : Term
    is : ts ≡ terms first (terms second no_terms)
    first_sort : HasSort first r
    second_sort : HasSort second s

  no_argument : (ts : Terms) → term_sorts shapes decls ts ≡ Some [] → IsNoArgument ts
  no_argument no_terms e = record { is = refl }
  no_argument (terms t ts) e = absurd (not_empty (term_sort shapes decls t) (term_sorts shapes decls ts) e)

  some_nothing : (s : Sort) (ss : List Sort) → term_sorts shapes decls no_terms ≡ Some (s ∷ ss) → ⊥
  some_nothing s ss e = cc

  one_argument : (ts : Terms) (s : Sort) → term_sorts shapes decls ts ≡ Some (s ∷ []) → IsOneArgument ts s
  one_argument no_terms s e = absurd (some_nothing s [] e)
  one_argument (terms t ts) s e =
      let b = before (term_sort shapes decls t) (term_sorts shapes decls ts) s [] e in
      record { first = t; is = ap (terms t) (no_argument ts b.others).is; first_sort = b.first }

  two_arguments : (ts : Terms) (r s : Sort) → term_sorts shapes decls ts ≡ Some (r ∷ s ∷ []) → AreTwoArguments ts r s
  two_arguments no_terms r s e = absurd (some_nothing r (s ∷ []) e)
  two_arguments (terms t ts) r s e =
      let b = before (term_sort shapes decls t) (term_sorts shapes decls ts) r (s ∷ []) e in
      let o = one_argument ts s b.others in
      record { first = t; second = o.first; is = ap (terms t) o.is; first_sort = b.first; second_sort = o.first_sort }

  -- ---- kinds

  pub data Kind : Term → Sort → Type 0 where
    Own : (h : Head) (ts : Terms) (s : Sort) → means h (constant_values ts) ≡ false → Kind (term h ts) s
    Numeral : (z : ℤ) → Kind (term (head.Num z) no_terms) sort.Int
    Total : (a b : Term) → HasSort a sort.Int → HasSort b sort.Int → Kind (term head.Add (terms a (terms b no_terms))) sort.Int
    Remains : (a b : Term) → HasSort a sort.Int → HasSort b sort.Int → Kind (term head.Sub (terms a (terms b no_terms))) sort.Int
    Multiple : (a b : Term) → HasSort a sort.Int → HasSort b sort.Int → is_one_constant (constant_value a ∷ constant_value b ∷ []) ≡ true → Kind (term head.Mul (terms a (terms b no_terms))) sort.Int
    IsLess : (a b : Term) → HasSort a sort.Int → HasSort b sort.Int → Kind (term head.Lt (terms a (terms b no_terms))) sort.Bool
    IsAtMost : (a b : Term) → HasSort a sort.Int → HasSort b sort.Int → Kind (term head.Le (terms a (terms b no_terms))) sort.Bool
    IsEqual : (a b : Term) (s : Sort) → HasSort a s → HasSort b s → Kind (term head.Eq (terms a (terms b no_terms))) sort.Bool
    Negated : (a : Term) → HasSort a sort.Bool → Kind (term head.Not (terms a no_terms)) sort.Bool
    Both : (a b : Term) → HasSort a sort.Bool → HasSort b sort.Bool → Kind (term head.And (terms a (terms b no_terms))) sort.Bool
    Either : (a b : Term) → HasSort a sort.Bool → HasSort b sort.Bool → Kind (term head.Or (terms a (terms b no_terms))) sort.Bool
    Implied : (a b : Term) → HasSort a sort.Bool → HasSort b sort.Bool → Kind (term head.Implies (terms a (terms b no_terms))) sort.Bool
    Truthful : Kind (term head.True no_terms) sort.Bool
    Untruthful : Kind (term head.False no_terms) sort.Bool

  -- a head over two arguments of given sorts
  of_two : (h : Head) (ts : Terms) (r q result s : Sort) (o : List Sort) → term_sorts shapes decls ts ≡ Some o → takes (r ∷ q ∷ []) o result ≡ Some s
      → ((a b : Term) → ts ≡ terms a (terms b no_terms) → HasSort a r → HasSort b q → Kind (term h (terms a (terms b no_terms))) result) → Kind (term h ts) s
  of_two h ts r q result s o sorts_are is make =
      let t = taken (r ∷ q ∷ []) o result s is in
      let two = two_arguments ts r q (sorts_are ∙ ap Some (sym t.wanted_is)) in
      subst (Kind (term h ts)) t.result_is (subst (λ (us : Terms). Kind (term h us) result) (sym two.is) (make two.first two.second two.is two.first_sort two.second_sort))

  of_one : (h : Head) (ts : Terms) (r result s : Sort) (o : List Sort) → term_sorts shapes decls ts ≡ Some o → takes (r ∷ []) o result ≡ Some s
      → ((a : Term) → HasSort a r → Kind (term h (terms a no_terms)) result) → Kind (term h ts) s
  of_one h ts r result s o sorts_are is make =
      let t = taken (r ∷ []) o result s is in
      let one = one_argument ts r (sorts_are ∙ ap Some (sym t.wanted_is)) in
      subst (Kind (term h ts)) t.result_is (subst (λ (us : Terms). Kind (term h us) result) (sym one.is) (make one.first one.first_sort))

  of_none : (h : Head) (ts : Terms) (result s : Sort) (o : List Sort) → term_sorts shapes decls ts ≡ Some o → takes [] o result ≡ Some s → Kind (term h no_terms) result → Kind (term h ts) s
  of_none h ts result s o sorts_are is made =
      let t = taken [] o result s is in
      let none = no_argument ts (sorts_are ∙ ap Some (sym t.wanted_is)) in
      subst (Kind (term h ts)) t.result_is (subst (λ (us : Terms). Kind (term h us) result) (sym none.is) made)

  product : (ts : Terms) (s : Sort) (o : List Sort) → term_sorts shapes decls ts ≡ Some o → takes (sort.Int ∷ sort.Int ∷ []) o sort.Int ≡ Some s → (b : Bool) → is_one_constant (constant_values ts) ≡ b → Kind (term head.Mul ts) s
  product ts s o sorts_are is false e = Own head.Mul ts s e
  product ts s o sorts_are is true e =
      of_two head.Mul ts sort.Int sort.Int sort.Int s o sorts_are is (λ a b known ha hb. Multiple a b ha hb (ap (λ us. is_one_constant (constant_values us)) (sym known) ∙ e))

  kind_over : (h : Head) (ts : Terms) (s : Sort) (o : List Sort) → term_sorts shapes decls ts ≡ Some o → result_sort shapes decls h o ≡ Some s → Kind (term h ts) s
  kind_over (head.Num z) ts s o sorts_are is = of_none (head.Num z) ts sort.Int s o sorts_are is (Numeral z)
  kind_over head.True ts s o sorts_are is = of_none head.True ts sort.Bool s o sorts_are is Truthful
  kind_over head.False ts s o sorts_are is = of_none head.False ts sort.Bool s o sorts_are is Untruthful
  kind_over head.Not ts s o sorts_are is = of_one head.Not ts sort.Bool sort.Bool s o sorts_are is Negated
  kind_over head.Add ts s o sorts_are is = of_two head.Add ts sort.Int sort.Int sort.Int s o sorts_are is (λ a b e. Total a b)
  kind_over head.Sub ts s o sorts_are is = of_two head.Sub ts sort.Int sort.Int sort.Int s o sorts_are is (λ a b e. Remains a b)
  kind_over head.Mul ts s o sorts_are is = product ts s o sorts_are is (is_one_constant (constant_values ts)) refl
  kind_over head.Lt ts s o sorts_are is = of_two head.Lt ts sort.Int sort.Int sort.Bool s o sorts_are is (λ a b e. IsLess a b)
  kind_over head.Le ts s o sorts_are is = of_two head.Le ts sort.Int sort.Int sort.Bool s o sorts_are is (λ a b e. IsAtMost a b)
  kind_over head.Eq ts s o sorts_are is = of_two head.Eq ts (first_sort o) (first_sort o) sort.Bool s o sorts_are is (λ a b e. IsEqual a b (first_sort o))
  kind_over head.And ts s o sorts_are is = of_two head.And ts sort.Bool sort.Bool sort.Bool s o sorts_are is (λ a b e. Both a b)
  kind_over head.Or ts s o sorts_are is = of_two head.Or ts sort.Bool sort.Bool sort.Bool s o sorts_are is (λ a b e. Either a b)
  kind_over head.Implies ts s o sorts_are is = of_two head.Implies ts sort.Bool sort.Bool sort.Bool s o sorts_are is (λ a b e. Implied a b)
  kind_over h ts s o sorts_are is = Own h ts s refl

  pub kind : (t : Term) (s : Sort) → HasSort t s → Kind t s
  kind (term h ts) s e =
      let p = head_parts (term_sorts shapes decls ts) (result_sort shapes decls h) s e in
      kind_over h ts s p.sorts p.sorts_are p.result
