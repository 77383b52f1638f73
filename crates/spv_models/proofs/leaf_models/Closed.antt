-- The subterms of formulas: the arguments of each are among them, and each has a sort.
use Rattle.std.proofs.Common.{◌≡◌, Bool, true, false, cond, List, [], ◌∷◌, ◌++◌, refl, sym, ap, ◌∙◌, subst, Option, Some, None, is_some}
use Rattle.std.proofs.lemmas.Bool.{false≢true}
use Rattle.spv_logic.specs.declared.types.Sort.{Sort}
use Rattle.spv_logic.specs.declared.types.Shape.{Shape}
use Rattle.spv_logic.specs.declared.types.Decl.{Decl}
use Rattle.spv_logic.specs.declared.operators.Head.{Head}
use Rattle.spv_logic.specs.Terms.{Term, Terms, term, no_terms, terms, term_eq}
use Rattle.spv_logic.specs.Sorts.{term_sort, term_sorts, with_sorts, sort_before, result_sort}
use Rattle.spv_logic.proofs.Equality.{term_eq-true, term_eq-refl}
use Rattle.spv_atoms.specs.Atoms.{with_term}
use Rattle.spv_atoms.specs.Order.{order, order_all}
use Rattle.spv_atoms.proofs.Members.{has, or_cases, or_left, or_right, has-with_term, with_term-has, has-parts, has_one}
use Rattle.spv_models.specs.leaf_models.Subterms.{enters_each, with_subterms, subterms}

-- each of these arguments is among the terms
abbrev pub ArgumentsIn : List Term → Terms → Type 0
ArgumentsIn xs no_terms = Unit {0}
ArgumentsIn xs (terms t ts) = (has xs t ≡ true) × ArgumentsIn xs ts

ArgumentsIn-more : (xs ys : List Term) (ts : Terms) → ((u : Term) → has xs u ≡ true → has ys u ≡ true) → ArgumentsIn xs ts → ArgumentsIn ys ts
ArgumentsIn-more xs ys no_terms more h = tt
ArgumentsIn-more xs ys (terms t ts) more h = (more t h.0, ArgumentsIn-more xs ys ts more h.1)

pub with_term-parts : {A : Type 0} (xs : List Term) (t u : Term) → has (with_term xs t) u ≡ true → (has xs u ≡ true → A) → (u ≡ t → A) → A
with_term-parts {A = A} xs t u h f g = by_case (has xs t) h
  where
    by_case : (b : Bool) → has (cond b xs (xs ++ t ∷ [])) u ≡ true → A
    by_case true k = f k
    by_case false k = has-parts xs (t ∷ []) u k f (λ m. g (has_one u t m))

-- ---- the order keeps what there is, and has what it goes through

mutual
  order-keeps : (t : Term) (done : List Term) (u : Term) → has done u ≡ true → has (order enters_each t done) u ≡ true
  order-keeps (term h ts) done u k = by_known (has done (term h ts)) (order_all-keeps ts done u k)
    where
      by_known : (b : Bool) → has (order_all enters_each ts done) u ≡ true → has (cond b done (with_term (order_all enters_each ts done) (term h ts))) u ≡ true
      by_known true m = k
      by_known false m = has-with_term (order_all enters_each ts done) (term h ts) u m

  order_all-keeps : (ts : Terms) (done : List Term) (u : Term) → has done u ≡ true → has (order_all enters_each ts done) u ≡ true
  order_all-keeps no_terms done u k = k
  order_all-keeps (terms t ts) done u k = order_all-keeps ts (order enters_each t done) u (order-keeps t done u k)

order-has : (t : Term) (done : List Term) → has (order enters_each t done) t ≡ true
order-has (term h ts) done = by_known (has done (term h ts)) refl
  where
    by_known : (b : Bool) → has done (term h ts) ≡ b → has (cond b done (with_term (order_all enters_each ts done) (term h ts))) (term h ts) ≡ true
    by_known true e = e
    by_known false e = with_term-has (order_all enters_each ts done) (term h ts)

order_all-has : (ts : Terms) (done : List Term) → ArgumentsIn (order_all enters_each ts done) ts
order_all-has no_terms done = tt
order_all-has (terms t ts) done = (order_all-keeps ts (order enters_each t done) t (order-has t done), order_all-has ts (order enters_each t done))

-- ---- sorts of arguments

pub arguments_sorted : (o : Option (List Sort)) (go : List Sort → Option Sort) → is_some (with_sorts o go) ≡ true → is_some o ≡ true
arguments_sorted None go h = h
arguments_sorted (Some ss) go h = refl

pub first_sorted : (s : Option Sort) (ss : Option (List Sort)) → is_some (sort_before s ss) ≡ true → is_some s ≡ true
first_sorted None ss h = h
first_sorted (Some s) ss h = refl

pub others_sorted : (s : Option Sort) (ss : Option (List Sort)) → is_some (sort_before s ss) ≡ true → is_some ss ≡ true
others_sorted None ss h = absurd (false≢true h)
others_sorted (Some s) None h = h
others_sorted (Some s) (Some ss) h = refl

-- ---- closed lists

module _ (shapes : List Shape) (decls : List Decl) where
  -- the arguments of each term are among the terms, and each has a sort
  pub record IsClosed (xs : List Term) : Type 0 where
    pub inside : (h : Head) (ts : Terms) → has xs (term h ts) ≡ true → ArgumentsIn xs ts
    pub sorted : (t : Term) → has xs t ≡ true → is_some (term_sort shapes decls t) ≡ true

  nothing-closed : IsClosed []
  nothing-closed = record { inside = λ h ts k. absurd (false≢true k); sorted = λ t k. absurd (false≢true k) }

  rest_is : (h k : Head) (ss ts : Terms) → term h ss ≡ term k ts → ss ≡ ts
  rest_is h k ss ts e = cc

  one_more-closed : (xs : List Term) (h : Head) (ts : Terms) → IsClosed xs → ArgumentsIn xs ts → is_some (term_sort shapes decls (term h ts)) ≡ true → IsClosed (with_term xs (term h ts))
  one_more-closed xs h ts c inside sorted = record {
    inside = λ k us m. ArgumentsIn-more xs (with_term xs (term h ts)) us (has-with_term xs (term h ts))
        (with_term-parts xs (term h ts) (term k us) m (c.inside k us) (λ e. subst (ArgumentsIn xs) (sym (rest_is k h us ts e)) inside));
    sorted = λ u m. with_term-parts xs (term h ts) u m (c.sorted u) (λ e. ap (λ v. is_some (term_sort shapes decls v)) e ∙ sorted);
  }

  mutual
    order-closed : (t : Term) (done : List Term) → IsClosed done → is_some (term_sort shapes decls t) ≡ true → IsClosed (order enters_each t done)
    order-closed (term h ts) done c sorted =
        by_known (has done (term h ts)) (order_all-closed ts done c (arguments_sorted (term_sorts shapes decls ts) (result_sort shapes decls h) sorted))
      where
        by_known : (b : Bool) → IsClosed (order_all enters_each ts done) → IsClosed (cond b done (with_term (order_all enters_each ts done) (term h ts)))
        by_known true later = c
        by_known false later = one_more-closed (order_all enters_each ts done) h ts later (order_all-has ts done) sorted

    order_all-closed : (ts : Terms) (done : List Term) → IsClosed done → is_some (term_sorts shapes decls ts) ≡ true → IsClosed (order_all enters_each ts done)
    order_all-closed no_terms done c sorted = c
    order_all-closed (terms t ts) done c sorted =
        order_all-closed ts (order enters_each t done) (order-closed t done c (first_sorted (term_sort shapes decls t) (term_sorts shapes decls ts) sorted))
        (others_sorted (term_sort shapes decls t) (term_sorts shapes decls ts) sorted)

  with_subterms-closed : (fs done : List Term) → IsClosed done → ((f : Term) → has fs f ≡ true → is_some (term_sort shapes decls f) ≡ true) → IsClosed (with_subterms done fs)
  with_subterms-closed [] done c sorted = c
  with_subterms-closed (f ∷ fs) done c sorted =
      with_subterms-closed fs (order enters_each f done) (order-closed f done c (sorted f (or_left (term_eq f f) (has fs f) (term_eq-refl f))))
      (λ g k. sorted g (or_right (term_eq g f) (has fs g) k))

  pub subterms-closed : (fs : List Term) → ((f : Term) → has fs f ≡ true → is_some (term_sort shapes decls f) ≡ true) → IsClosed (subterms fs)
  subterms-closed fs sorted = with_subterms-closed fs [] nothing-closed sorted

-- ---- the formulas are among their subterms

with_subterms-keeps : (fs done : List Term) (u : Term) → has done u ≡ true → has (with_subterms done fs) u ≡ true
with_subterms-keeps [] done u h = h
with_subterms-keeps (f ∷ fs) done u h = with_subterms-keeps fs (order enters_each f done) u (order-keeps f done u h)

with_subterms-has : (fs done : List Term) (u : Term) → has fs u ≡ true → has (with_subterms done fs) u ≡ true
with_subterms-has [] done u h = absurd (false≢true h)
with_subterms-has (f ∷ fs) done u h =
    or_cases (term_eq u f) (has fs u) h
    (λ e. with_subterms-keeps fs (order enters_each f done) u (ap (has (order enters_each f done)) (term_eq-true u f e) ∙ order-has f done))
    (λ e. with_subterms-has fs (order enters_each f done) u e)

pub subterms-has : (fs : List Term) (f : Term) → has fs f ≡ true → has (subterms fs) f ≡ true
subterms-has fs f h = with_subterms-has fs [] f h
