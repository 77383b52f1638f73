-- What the atoms of a search are: those of all subterms, and equations of subterms.
use Rattle.std.proofs.Common.{◌≡◌, Bool, true, false, cond, ◌&&◌, ◌||◌, not, List, [], ◌∷◌, refl, sym, ap, ◌∙◌, Option, Some, None}
use mathlib.Core.Path.{ap₂}
use Rattle.std.specs.Prelude.{is_some}
use Rattle.std.specs.List.{flat_map}
use Rattle.std.specs.Cmp.Derive.{both_true}
use Rattle.std.proofs.lemmas.Bool.{false≢true}
use Rattle.spv_logic.proofs.list.Tests.{left_true, right_true, right_false}
use Rattle.spv_logic.specs.declared.types.Sort.{Sort}
use Rattle.spv_logic.specs.declared.types.Sort.TheVariants as sort
use Rattle.spv_logic.specs.declared.types.Shape.{Shape}
use Rattle.spv_logic.specs.declared.types.Decl.{Decl}
use Rattle.spv_logic.specs.declared.operators.Head.{Head}
use Rattle.spv_logic.specs.declared.operators.Head.TheVariants as head
use Rattle.spv_logic.specs.Terms.{Term, Terms, term, no_terms, terms, term_eq, head_eq, sort_eq}
use Rattle.spv_logic.specs.Formulas.{equation}
use Rattle.spv_logic.specs.Sorts.{term_sort, term_sorts, with_sorts, sort_before, result_sort}
use Rattle.spv_logic.proofs.Equality.{head_eq-true, sort_eq-true, sort_eq-refl, term_eq-true, term_eq-refl as same_term}
use Rattle.spv_logic.proofs.Sorting.{taken}
use Rattle.spv_atoms.specs.Atoms.{has_sort, is_truth, is_number, is_atom, connects, only_if, with_term, with_terms, atoms_in, atoms_in_all}
use Rattle.spv_atoms.specs.Order.{passing}
use Rattle.spv_atoms.specs.Tables.{all_truths}
use Rattle.spv_atoms.proofs.Members.{has, or_cases, or_left, or_right, has_one, has-parts, has-with_terms}
use Rattle.spv_models.specs.leaf_models.Subterms.{subterms, list_of, arguments}
use Rattle.spv_models.specs.leaf_models.Atoms.{same_sorts, argument_equations, are_comparable, equations_of, pair_equations, all_equations, atoms}
use Rattle.spv_models.specs.leaf_models.Laws.{AreFormulas}
use Rattle.spv_models.proofs.leaf_models.Closed.{ArgumentsIn, IsClosed, subterms-closed, with_term-parts}
use Rattle.spv_models.proofs.leaf_models.Lookups.{has-passing, passing-parts}
use Rattle.spv_models.proofs.leaf_models.Values.{sort_known}

-- ---- members of lists that are put together

with_terms-parts : {A : Type 0} (xs ts : List Term) (u : Term) → has (with_terms xs ts) u ≡ true → (has xs u ≡ true → A) → (has ts u ≡ true → A) → A
with_terms-parts xs [] u h f g = f h
with_terms-parts xs (t ∷ ts) u h f g =
    with_terms-parts (with_term xs t) ts u h
    (λ k. with_term-parts xs t u k f (λ e. g (or_left (term_eq u t) (has ts u) (ap (term_eq u) (sym e) ∙ same_term u))))
    (λ k. g (or_right (term_eq u t) (has ts u) k))

-- a term of one of these lists
pub record IsOfOne (f : Term → List Term) (ts : List Term) (e : Term) : Type 0 where
  pub origin : Term
  pub among : has ts origin ≡ true
  pub there : has (f origin) e ≡ true

flat_map-parts : (f : Term → List Term) (ts : List Term) (e : Term) → has (flat_map f ts) e ≡ true → IsOfOne f ts e
flat_map-parts f [] e h = absurd (false≢true h)
flat_map-parts f (t ∷ ts) e h =
    has-parts (f t) (flat_map f ts) e h (λ k. record { origin = t; among = or_left (term_eq t t) (has ts t) (same_term t); there = k })
    (λ k. let o = flat_map-parts f ts e k in record { origin = o.origin; among = or_right (term_eq o.origin t) (has ts o.origin) o.among; there = o.there })

only_one : (b : Bool) (t e : Term) → has (only_if b t) e ≡ true → (b ≡ true) × (e ≡ t)
only_one true t e h = (refl, has_one e t h)
only_one false t e h = absurd (false≢true h)

argument-in : (xs : List Term) (ts : Terms) (t : Term) → ArgumentsIn xs ts → has (list_of ts) t ≡ true → has xs t ≡ true
argument-in xs no_terms t h k = absurd (false≢true k)
argument-in xs (terms u us) t h k = or_cases (term_eq t u) (has (list_of us) t) k (λ e. ap (has xs) (term_eq-true t u e) ∙ h.0) (λ e. argument-in xs us t h.1 e)

-- ---- equations of terms of one sort

not_true : (a : Bool) → not a ≡ true → a ≡ false
not_true true h = sym h
not_true false h = refl

module _ (shapes : List Shape) (decls : List Decl) where
  abbrev truth : Term → Bool
  truth = is_truth shapes decls

  abbrev sort_of : Term → Option Sort
  sort_of t = term_sort shapes decls t

  equation_sort : (r : Sort) (o p : Option Sort) → o ≡ Some r → p ≡ Some r → has_sort sort.Bool (with_sorts (sort_before o (sort_before p (Some []))) (result_sort shapes decls head.Eq)) ≡ true
  equation_sort r o p e f =
      ap₂ (λ x y. has_sort sort.Bool (with_sorts (sort_before x (sort_before y (Some []))) (result_sort shapes decls head.Eq))) e f
      ∙ ap (λ b. has_sort sort.Bool (cond b (Some sort.Bool) None)) (both_true (sort_eq-refl r) (both_true (sort_eq-refl r) refl))

  pub equation-atom : (a b : Term) (r : Sort) → sort_of a ≡ Some r → sort_of b ≡ Some r → truth a ≡ false → is_atom truth (equation a b) ≡ true
  equation-atom a b r ha hb plain = both_true (equation_sort r (sort_of a) (sort_of b) ha hb) (both_true (ap (λ c. not (c && (truth b && true))) plain) refl)

  -- the sorts of two lists at one place
  record AreOfOneSort (s t : Option Sort) (ss ts : Option (List Sort)) : Type 0 where
    sort : Sort
    left : s ≡ Some sort
    right : t ≡ Some sort
    others : same_sorts ss ts ≡ true

  one_sort : (s t : Option Sort) (ss ts : Option (List Sort)) → same_sorts (sort_before s ss) (sort_before t ts) ≡ true → AreOfOneSort s t ss ts
  one_sort None t ss ts h = absurd (false≢true h)
  one_sort (Some x) t None ts h = absurd (false≢true h)
  one_sort (Some x) None (Some xs) ts h = absurd (false≢true h)
  one_sort (Some x) (Some y) (Some xs) None h = absurd (false≢true h)
  one_sort (Some x) (Some y) (Some xs) (Some ys) h = record { sort = x; left = refl; right = ap Some (sym (sort_eq-true x y (left_true _ _ h))); others = right_true (sort_eq x y) _ h }

  sorts_equal : (o p : Option (List Sort)) → same_sorts o p ≡ true → o ≡ p
  sorts_equal None p h = absurd (false≢true h)
  sorts_equal (Some ss) None h = absurd (false≢true h)
  sorts_equal (Some ss) (Some ts) h = ap Some (taken ss ts sort.Bool sort.Bool (ap (λ b. cond b (Some sort.Bool) None) h)).wanted_is

  -- an equation of terms of these lists, which is an atom
  record IsEquation (ss ts : List Term) (e : Term) : Type 0 where
    left : Term
    right : Term
    is : e ≡ equation left right
    left_in : has ss left ≡ true
    right_in : has ts right ≡ true
    atom : is_atom truth e ≡ true

  made : (ss ts : List Term) (e a b : Term) → e ≡ equation a b → has ss a ≡ true → has ts b ≡ true → is_atom truth (equation a b) ≡ true → IsEquation ss ts e
  made ss ts e a b is ha hb atom = record { left = a; right = b; is = is; left_in = ha; right_in = hb; atom = ap (is_atom truth) is ∙ atom }

  equations-are : (ss ts : Terms) (e : Term) → same_sorts (term_sorts shapes decls ss) (term_sorts shapes decls ts) ≡ true → has (argument_equations truth ss ts) e ≡ true → IsEquation (list_of ss) (list_of ts) e
  equations-are no_terms no_terms e same h = absurd (false≢true h)
  equations-are no_terms (terms t ts) e same h = absurd (false≢true h)
  equations-are (terms s ss) no_terms e same h = absurd (false≢true h)
  equations-are (terms s ss) (terms t ts) e same h =
      let o = one_sort (sort_of s) (sort_of t) (term_sorts shapes decls ss) (term_sorts shapes decls ts) same in
      has-parts (only_if (not (term_eq s t || truth s)) (equation s t)) (argument_equations truth ss ts) e h
      (λ k. let p = only_one (not (term_eq s t || truth s)) (equation s t) e k in
      made (list_of (terms s ss)) (list_of (terms t ts)) e s t p.1 (or_left (term_eq s s) (has (list_of ss) s) (same_term s)) (or_left (term_eq t t) (has (list_of ts) t) (same_term t))
      (equation-atom s t o.sort o.left o.right (right_false (term_eq s t) (truth s) (not_true (term_eq s t || truth s) p.0))))
      (λ k. let q = equations-are ss ts e o.others k in
      record { left = q.left; right = q.right; is = q.is; left_in = or_right (term_eq q.left s) (has (list_of ss) q.left) q.left_in; right_in = or_right (term_eq q.right t) (has (list_of ts) q.right) q.right_in; atom = q.atom })

  chosen : (b : Bool) (xs : List Term) (e : Term) → has (cond b xs []) e ≡ true → (b ≡ true) × (has xs e ≡ true)
  chosen true xs e h = (refl, h)
  chosen false xs e h = absurd (false≢true h)

  module _ (xs : List Term) (c : IsClosed shapes decls xs) where
    -- the equation of two applications of sort Int
    own_equation : (h k : Head) (ss ts : Terms) (e : Term) → has xs (term h ss) ≡ true → has xs (term k ts) ≡ true → head_eq h k ≡ true → term_sorts shapes decls ss ≡ term_sorts shapes decls ts
        → is_number shapes decls (term h ss) ≡ true → e ≡ equation (term h ss) (term k ts) → IsEquation xs xs e
    own_equation h k ss ts e hs ht heads sorts number is =
        let int : sort_of (term h ss) ≡ Some sort.Int = sort_known sort.Int (sort_of (term h ss)) number in
        let other : sort_of (term k ts) ≡ Some sort.Int =
        ap₂ (λ o g. with_sorts o (result_sort shapes decls g)) (sym sorts) (sym (head_eq-true h k heads)) ∙ int in
        made xs xs e (term h ss) (term k ts) is hs ht (equation-atom (term h ss) (term k ts) sort.Int int other (ap (has_sort sort.Bool) int))

    pair-are : (s t e : Term) → has xs s ≡ true → has xs t ≡ true → has (pair_equations shapes decls s t) e ≡ true → IsEquation xs xs e
    pair-are (term h ss) (term k ts) e hs ht there =
        let p = chosen (are_comparable shapes decls (term h ss) (term k ts)) (equations_of shapes decls (term h ss) (term k ts)) e there in
        let sorts = left_true (same_sorts (term_sorts shapes decls ss) (term_sorts shapes decls ts)) _ (right_true (head_eq h k) _ p.0) in
        has-parts (argument_equations truth ss ts) (only_if (is_number shapes decls (term h ss)) (equation (term h ss) (term k ts))) e p.1
        (λ m. let q = equations-are ss ts e sorts m in
        record { left = q.left; right = q.right; is = q.is; left_in = argument-in xs ss q.left (c.inside h ss hs) q.left_in; right_in = argument-in xs ts q.right (c.inside k ts ht) q.right_in; atom = q.atom })
        (λ m. let q = only_one (is_number shapes decls (term h ss)) (equation (term h ss) (term k ts)) e m in
        own_equation h k ss ts e hs ht (left_true (head_eq h k) _ p.0) (sorts_equal (term_sorts shapes decls ss) (term_sorts shapes decls ts) sorts) q.0 q.1)

    all-are : (us : List Term) (e : Term) → ((u : Term) → has us u ≡ true → has xs u ≡ true) → has (all_equations shapes decls us) e ≡ true → IsEquation xs xs e
    all-are [] e sub h = absurd (false≢true h)
    all-are (u ∷ us) e sub h =
        has-parts (flat_map (pair_equations shapes decls u) us) (all_equations shapes decls us) e h
        (λ k. let o = flat_map-parts (pair_equations shapes decls u) us e k in
        pair-are u o.origin e (sub u (or_left (term_eq u u) (has us u) (same_term u))) (sub o.origin (or_right (term_eq o.origin u) (has us o.origin) o.among)) o.there)
        (λ k. all-are us e (λ v m. sub v (or_right (term_eq v u) (has us v) m)) k)

  -- ---- the atoms

  pub some_sort : (o : Option Sort) → has_sort sort.Bool o ≡ true → is_some o ≡ true
  some_sort None h = h
  some_sort (Some r) h = refl

  module _ (fs : List Term) (are : AreFormulas shapes decls fs) where
    pub parts-closed : IsClosed shapes decls (subterms fs)
    parts-closed = subterms-closed shapes decls fs (λ f h. some_sort (sort_of f) (are f h))

    mutual
      pub atoms-there : (f t : Term) → has (subterms fs) f ≡ true → has (atoms_in truth f) t ≡ true → has (atoms shapes decls fs) t ≡ true
      atoms-there (term h ts) t m k = by_case (connects (all_truths truth ts) h) k (atoms_all-there ts t (parts-closed.inside h ts m))
        where
          by_case : (b : Bool) → has (cond b (atoms_in_all truth ts) (only_if (is_atom truth (term h ts)) (term h ts))) t ≡ true → (has (atoms_in_all truth ts) t ≡ true → has (atoms shapes decls fs) t ≡ true)
              → has (atoms shapes decls fs) t ≡ true
          by_case true l later = later l
          by_case false l later =
              let p = only_one (is_atom truth (term h ts)) (term h ts) t l in
              has-with_terms (passing (is_atom truth) (subterms fs)) (all_equations shapes decls (subterms fs)) t
              (has-passing (is_atom truth) (subterms fs) t (ap (has (subterms fs)) p.1 ∙ m) (ap (is_atom truth) p.1 ∙ p.0))

      atoms_all-there : (ts : Terms) (t : Term) → ArgumentsIn (subterms fs) ts → has (atoms_in_all truth ts) t ≡ true → has (atoms shapes decls fs) t ≡ true
      atoms_all-there no_terms t m k = absurd (false≢true k)
      atoms_all-there (terms u us) t m k = has-parts (atoms_in truth u) (atoms_in_all truth us) t k (λ l. atoms-there u t m.0 l) (λ l. atoms_all-there us t m.1 l)

    pub atoms-are : (t : Term) → has (atoms shapes decls fs) t ≡ true → is_atom truth t ≡ true
    atoms-are t m =
        with_terms-parts (passing (is_atom truth) (subterms fs)) (all_equations shapes decls (subterms fs)) t m
        (λ k. (passing-parts (is_atom truth) (subterms fs) t k).passes) (λ k. (all-are (subterms fs) parts-closed (subterms fs) t (λ u l. l) k).atom)

    of_equation : (t u : Term) → IsEquation (subterms fs) (subterms fs) t → has (arguments t) u ≡ true → has (subterms fs) u ≡ true
    of_equation t u q k =
        argument-in (subterms fs) (terms q.left (terms q.right no_terms)) u (q.left_in, (q.right_in, tt)) (ap (λ v. has (arguments v) u) (sym q.is) ∙ k)

    pub part-arguments : (t u : Term) → has (subterms fs) t ≡ true → has (arguments t) u ≡ true → has (subterms fs) u ≡ true
    part-arguments (term h ts) u m k = argument-in (subterms fs) ts u (parts-closed.inside h ts m) k

    pub atoms-over : (t u : Term) → has (atoms shapes decls fs) t ≡ true → has (arguments t) u ≡ true → has (subterms fs) u ≡ true
    atoms-over t u m k =
        with_terms-parts (passing (is_atom truth) (subterms fs)) (all_equations shapes decls (subterms fs)) t m
        (λ l. part-arguments t u (passing-parts (is_atom truth) (subterms fs) t l).among k) (λ l. of_equation t u (all-are (subterms fs) parts-closed (subterms fs) t (λ v n. n) l) k)
