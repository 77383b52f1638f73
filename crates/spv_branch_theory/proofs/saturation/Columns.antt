-- Each column of parts stands for a subterm of the condition that is of sort Int, and no two for one.
use Rattle.std.proofs.Common.{◌≡◌, ℕ, zero, suc, ◌<◌, Bool, true, false, cond, ◌||◌, List, [], ◌∷◌, ◌++◌, map, length, ℤ, pos, negsuc, ◌+ℤ◌, ◌*ℤ◌, refl, sym, ap, ◌∙◌, subst, Option, Some, None}
use Rattle.std.specs.Prelude.{slice_get}
use Rattle.std.specs.List.{list_any}
use Rattle.std.proofs.lemmas.Bool.{false≢true}
use Rattle.std.proofs.lemmas.List.Folds.{list_any-append}
use Rattle.std.proofs.lemmas.Option.{same_Some}
use Rattle.spv_logic.specs.declared.conditions.TermId.{TermId}
use Rattle.spv_logic.specs.declared.operators.Head.TheVariants as head
use Rattle.spv_logic.specs.declared.types.Sort.{Sort}
use Rattle.spv_logic.specs.declared.types.Sort.TheVariants as sort
use Rattle.spv_logic.specs.declared.types.Shape.{Shape}
use Rattle.spv_logic.specs.declared.types.Decl.{Decl}
use Rattle.spv_logic.specs.Sorts.{term_sort}
use Rattle.spv_logic.specs.Terms.{Term, Terms, term, no_terms, terms, term_eq}
use Rattle.spv_logic.proofs.Equality.{term_eq-true, term_eq-refl}
use Rattle.spv_term.specs.Arena.{Arena, IsArena, AllBelow, tree}
use Rattle.spv_atoms.specs.Atoms.{has_sort, is_number}
use Rattle.spv_atoms.specs.Forms.{Form, form, forms, form_or_own, own_part, product_form, constant_value, constant_values, multiple, with_part, with_parts}
use Rattle.spv_atoms.specs.Linear.{IdForm, ArePartsFrom, coefficient, over_trees}
use Rattle.spv_atoms.specs.Order.{same_id, with_id}
use Rattle.spv_atoms.proofs.Members.{has}
use Rattle.spv_atoms.proofs.Walks.{term_eq-ids}
use Rattle.spv_tableau_rules.proofs.pivots.Sums.{eq_flip}
use Rattle.spv_tableau_rules.specs.tableaux.Forms as columns
use Rattle.spv_tableau_rules.specs.tableaux.Numbers.{nothing}
use Rattle.spv_tableau_rules.specs.tableaux.Rows.{Point}
use Rattle.spv_tableau_rules.specs.constraints.Values.{value_among}
use Rattle.spv_models.proofs.leaf_models.Closed.{ArgumentsIn, IsClosed}
use Rattle.spv_models.proofs.leaf_models.Owns.{own-form}
use Rattle.spv_models.proofs.leaf_models.TermKinds.{Kind, Own, Numeral, Total, Remains, Multiple, IsLess, IsAtMost, IsEqual, Negated, Both, Either, Implied, Truthful, Untruthful, kind}
use Rattle.spv_models.proofs.leaf_models.Values.{sort_known}

-- ---- parts of forms

-- each part is such a term
abbrev pub AllParts : (Term → Type 0) → List (Term × ℤ) → Type 0
AllParts P [] = Unit {0}
AllParts P (p ∷ parts) = P p.0 × AllParts P parts

with_part_keeps : (P : Term → Type 0) (t : Term) (n : ℤ) (parts : List (Term × ℤ)) → P t → AllParts P parts → AllParts P (with_part ◌+ℤ◌ t n parts)
with_part_keeps P t n [] k all = (k, tt)
with_part_keeps P t n (p ∷ parts) k all = by_case (term_eq p.0 t) (with_part_keeps P t n parts k all.1)
  where
    by_case : (b : Bool) → AllParts P (with_part ◌+ℤ◌ t n parts) → AllParts P (cond b ((p.0, p.1 +ℤ n) ∷ parts) (p ∷ with_part ◌+ℤ◌ t n parts))
    by_case true later = (all.0, all.1)
    by_case false later = (all.0, later)

with_parts_keeps : (P : Term → Type 0) (times : ℤ → ℤ) (others parts : List (Term × ℤ)) → AllParts P others → AllParts P parts → AllParts P (with_parts ◌+ℤ◌ times others parts)
with_parts_keeps P times [] parts more all = all
with_parts_keeps P times (p ∷ others) parts more all = with_parts_keeps P times others (with_part ◌+ℤ◌ p.0 (times p.1) parts) more.1 (with_part_keeps P p.0 (times p.1) parts more.0 all)

multiple_keeps : (P : Term → Type 0) (z : ℤ) (parts : List (Term × ℤ)) → AllParts P parts → AllParts P (map (λ (p : Term × ℤ). (p.0, z *ℤ p.1)) parts)
multiple_keeps P z [] all = tt
multiple_keeps P z (p ∷ parts) all = (all.0, multiple_keeps P z parts all.1)

pub difference_keeps : (P : Term → Type 0) (f g : Form) → AllParts P f.parts → AllParts P g.parts → AllParts P (with_parts ◌+ℤ◌ (λ n. n) (multiple (negsuc 0) g).parts f.parts)
difference_keeps P f g all more = with_parts_keeps P (λ n. n) (multiple (negsuc 0) g).parts f.parts (multiple_keeps P (negsuc 0) g.parts more) all

-- what is multiplied by another number than 0 is a part
pub part_of : (P : Term → Type 0) (parts : List (Term × ℤ)) (x : Term) → AllParts P parts → (coefficient parts x ≡ pos 0 → ⊥) → P x
part_of P [] x all h = absurd (h refl)
part_of P (p ∷ parts) x all h = by_case (term_eq p.0 x) refl h (part_of P parts x all.1)
  where
    by_case : (b : Bool) → term_eq p.0 x ≡ b → (cond b p.1 (coefficient parts x) ≡ pos 0 → ⊥) → ((coefficient parts x ≡ pos 0 → ⊥) → P x) → P x
    by_case true e k later = subst P (term_eq-true p.0 x e) all.0
    by_case false e k later = later k

-- no part of a form is multiplied by 0
pub not_zero : (a : Arena) (low : ℕ) (parts : List (TermId × ℤ)) → ArePartsFrom low parts → (j : ℕ) (p : TermId × ℤ) → slice_get parts j ≡ Some p → coefficient (over_trees a parts) (tree a p.0) ≡ pos 0 → ⊥
not_zero a low [] are j p at e = absurd (cc)
not_zero a low (q ∷ parts) are j p at e = by_case (term_eq (tree a q.0) (tree a p.0)) refl e j at (not_zero a (suc q.0.0) parts are.1)
  where
    by_case : (b : Bool) → term_eq (tree a q.0) (tree a p.0) ≡ b → cond b q.1 (coefficient (over_trees a parts) (tree a p.0)) ≡ pos 0 → (i : ℕ) → slice_get (q ∷ parts) i ≡ Some p
        → ((k : ℕ) (r : TermId × ℤ) → slice_get parts k ≡ Some r → coefficient (over_trees a parts) (tree a r.0) ≡ pos 0 → ⊥) → ⊥
    by_case true f g i there later = are.0.nonzero g
    by_case false f g zero there later =
        false≢true (sym f ∙ (ap (λ (r : TermId × ℤ). term_eq (tree a r.0) (tree a p.0)) (same_Some q p there) ∙ term_eq-refl (tree a p.0)))
    by_case false f g (suc i) there later = later i p there g

-- ---- the parts of a subterm's form

no_int : sort.Bool ≡ sort.Int → ⊥
no_int e = cc

module _ (shapes : List Shape) (decls : List Decl) (xs : List Term) (closed : IsClosed shapes decls xs) where
  -- one of these terms, of sort Int
  pub record IsNumberIn (t : Term) : Type 0 where
    pub among : has xs t ≡ true
    pub number : is_number shapes decls t ≡ true

  abbrev FormIn : Term → Type 0
  FormIn t = AllParts (λ u. IsNumberIn u) (form t).parts

  abbrev EachIn : Terms → Type 0
  EachIn no_terms = Unit {0}
  EachIn (terms t ts) = (IsNumberIn t → FormIn t) × EachIn ts

  abbrev ArgumentsHere : Term → Type 0
  ArgumentsHere (term h ts) = ArgumentsIn xs ts × EachIn ts

  own_in : (t : Term) → IsNumberIn t → AllParts (λ u. IsNumberIn u) (own_part t).parts
  own_in t k = (k, tt)

  product_in : (c d : Option ℤ) (f g : Form) (t : Term) → AllParts (λ u. IsNumberIn u) f.parts → AllParts (λ u. IsNumberIn u) g.parts → IsNumberIn t → AllParts (λ u. IsNumberIn u) (form_or_own (product_form c d f g) t).parts
  product_in (Some z) d f g t all more k = multiple_keeps (λ u. IsNumberIn u) z g.parts more
  product_in None (Some z) f g t all more k = multiple_keeps (λ u. IsNumberIn u) z f.parts all
  product_in None None f g t all more k = own_in t k

  argument_in : (t : Term) → has xs t ≡ true → term_sort shapes decls t ≡ Some sort.Int → (IsNumberIn t → FormIn t) → FormIn t
  argument_in t m e all = all (record { among = m; number = ap (has_sort sort.Int) e })

  step : (t : Term) (s : Sort) → Kind shapes decls t s → s ≡ sort.Int → IsNumberIn t → ArgumentsHere t → FormIn t
  step t s (Own h ts r e) int k all = subst (λ (o : Option Form). AllParts (λ u. IsNumberIn u) (form_or_own o (term h ts)).parts) (sym (own-form h (constant_values ts) (forms ts) e)) (own_in (term h ts) k)
  step t s (Numeral z) int k all = tt
  step t s (Total a b ha hb) int k all =
      with_parts_keeps (λ u. IsNumberIn u) (λ n. n) (form b).parts (form a).parts (argument_in b all.0.1.0 hb all.1.1.0) (argument_in a all.0.0 ha all.1.0)
  step t s (Remains a b ha hb) int k all = difference_keeps (λ u. IsNumberIn u) (form a) (form b) (argument_in a all.0.0 ha all.1.0) (argument_in b all.0.1.0 hb all.1.1.0)
  step t s (Multiple a b ha hb e) int k all =
      product_in (constant_value a) (constant_value b) (form a) (form b) (term head.Mul (terms a (terms b no_terms))) (argument_in a all.0.0 ha all.1.0) (argument_in b all.0.1.0 hb all.1.1.0) k
  step t s (IsLess a b ha hb) int k all = absurd (no_int int)
  step t s (IsAtMost a b ha hb) int k all = absurd (no_int int)
  step t s (IsEqual a b r ha hb) int k all = absurd (no_int int)
  step t s (Negated a ha) int k all = absurd (no_int int)
  step t s (Both a b ha hb) int k all = absurd (no_int int)
  step t s (Either a b ha hb) int k all = absurd (no_int int)
  step t s (Implied a b ha hb) int k all = absurd (no_int int)
  step t s Truthful int k all = absurd (no_int int)
  step t s Untruthful int k all = absurd (no_int int)

  mutual
    pub form_in : (t : Term) → IsNumberIn t → AllParts (λ u. IsNumberIn u) (form t).parts
    form_in (term h ts) k =
        step (term h ts) sort.Int (kind shapes decls (term h ts) sort.Int (sort_known sort.Int (term_sort shapes decls (term h ts)) k.number)) refl k (closed.inside h ts k.among, each_in ts)

    each_in : (ts : Terms) → EachIn ts
    each_in no_terms = tt
    each_in (terms t ts) = ((λ k. form_in t k), each_in ts)

-- ---- ids of columns

abbrev AllOf : (TermId → Type 0) → List TermId → Type 0
AllOf P [] = Unit {0}
AllOf P (t ∷ ids) = P t × AllOf P ids

all_last : (P : TermId → Type 0) (ids : List TermId) (t : TermId) → AllOf P ids → P t → AllOf P (ids ++ t ∷ [])
all_last P [] t all k = (k, tt)
all_last P (u ∷ ids) t all k = (all.0, all_last P ids t all.1 k)

all_with : (P : TermId → Type 0) (ids : List TermId) (t : TermId) → AllOf P ids → P t → AllOf P (with_id ids t)
all_with P ids t all k = by_case (list_any (same_id t) ids)
  where
    by_case : (b : Bool) → AllOf P (cond b ids (ids ++ t ∷ []))
    by_case true = all
    by_case false = all_last P ids t all k

all_parts : (P : TermId → Type 0) (parts : List (TermId × ℤ)) (ids : List TermId) → ((j : ℕ) (p : TermId × ℤ) → slice_get parts j ≡ Some p → P p.0) → AllOf P ids → AllOf P (columns.with_parts ids parts)
all_parts P [] ids h all = all
all_parts P (p ∷ parts) ids h all = all_parts P parts (with_id ids p.0) (λ j q at. h (suc j) q at) (all_with P ids p.0 all (h 0 p refl))

all_forms : (P : TermId → Type 0) (fs : List IdForm) (ids : List TermId) → ((i : ℕ) (f : IdForm) (j : ℕ) (p : TermId × ℤ) → slice_get fs i ≡ Some f → slice_get f.parts j ≡ Some p → P p.0) → AllOf P ids → AllOf P (columns.with_forms ids fs)
all_forms P [] ids h all = all
all_forms P (f ∷ fs) ids h all = all_forms P fs (columns.with_parts ids f.parts) (λ i g j p at there. h (suc i) g j p at there) (all_parts P f.parts ids (λ j p there. h 0 f j p refl there) all)

all_at : (P : TermId → Type 0) (ids : List TermId) (c : ℕ) (t : TermId) → AllOf P ids → slice_get ids c ≡ Some t → P t
all_at P [] c t all at = absurd (cc)
all_at P (u ∷ ids) zero t all at = subst P (same_Some u t at) all.0
all_at P (u ∷ ids) (suc c) t all at = all_at P ids c t all.1 at

pub column_is : (P : TermId → Type 0) (fs : List IdForm) → ((i : ℕ) (f : IdForm) (j : ℕ) (p : TermId × ℤ) → slice_get fs i ≡ Some f → slice_get f.parts j ≡ Some p → P p.0)
    → (c : ℕ) (t : TermId) → slice_get (columns.part_ids fs) c ≡ Some t → P t
column_is P fs h c t at = all_at P (columns.part_ids fs) c t (all_forms P fs [] h tt) at

-- ---- no id has two columns

abbrev AreDistinct : List TermId → Type 0
AreDistinct [] = Unit {0}
AreDistinct (t ∷ ids) = (list_any (same_id t) ids ≡ false) × AreDistinct ids

neither : (b c : Bool) → b ≡ false → c ≡ false → (b || c) ≡ false
neither true c e f = e
neither false c e f = f

first_false : (b c : Bool) → (b || c) ≡ false → b ≡ false
first_false true c e = e
first_false false c e = refl

second_false : (b c : Bool) → (b || c) ≡ false → c ≡ false
second_false true c e = absurd (false≢true (sym e))
second_false false c e = e

distinct_last : (ids : List TermId) (t : TermId) → AreDistinct ids → list_any (same_id t) ids ≡ false → AreDistinct (ids ++ t ∷ [])
distinct_last [] t d h = (refl, tt)
distinct_last (u ∷ ids) t d h = (
  list_any-append (same_id u) ids (t ∷ []) ∙ neither (list_any (same_id u) ids) (same_id u t || false) d.0 (neither (same_id u t) false (eq_flip t.0 u.0 (first_false (same_id t u) (list_any (same_id t) ids) h)) refl),
  distinct_last ids t d.1 (second_false (same_id t u) (list_any (same_id t) ids) h),
)

distinct_with : (ids : List TermId) (t : TermId) → AreDistinct ids → AreDistinct (with_id ids t)
distinct_with ids t d = by_case (list_any (same_id t) ids) refl
  where
    by_case : (b : Bool) → list_any (same_id t) ids ≡ b → AreDistinct (cond b ids (ids ++ t ∷ []))
    by_case true e = d
    by_case false e = distinct_last ids t d e

distinct_parts : (parts : List (TermId × ℤ)) (ids : List TermId) → AreDistinct ids → AreDistinct (columns.with_parts ids parts)
distinct_parts [] ids d = d
distinct_parts (p ∷ parts) ids d = distinct_parts parts (with_id ids p.0) (distinct_with ids p.0 d)

distinct_forms : (fs : List IdForm) (ids : List TermId) → AreDistinct ids → AreDistinct (columns.with_forms ids fs)
distinct_forms [] ids d = d
distinct_forms (f ∷ fs) ids d = distinct_forms fs (columns.with_parts ids f.parts) (distinct_parts f.parts ids d)

-- ---- the value at a column

not_at : (ids : List TermId) (u : TermId) → list_any (same_id u) ids ≡ false → (c : ℕ) (t : TermId) → slice_get ids c ≡ Some t → same_id u t ≡ false
not_at [] u h c t at = absurd (cc)
not_at (v ∷ ids) u h zero t at = ap (same_id u) (sym (same_Some v t at)) ∙ first_false (same_id u v) (list_any (same_id u) ids) h
not_at (v ∷ ids) u h (suc c) t at = not_at ids u (second_false (same_id u v) (list_any (same_id u) ids) h) c t at

module _ (a : Arena) (ok : IsArena a) where
  value_at : (ids : List TermId) → AllBelow (length a.nodes) ids → AreDistinct ids → (c : ℕ) (t : TermId) → slice_get ids c ≡ Some t → t.0 < length a.nodes → (v : Point) → value_among a ids v (tree a t) ≡ v c
  value_at [] below d c t at within v = absurd (cc)
  value_at (u ∷ ids) below d zero t at within v =
      ap (λ b. cond b (v 0) (value_among a ids (λ n. v (suc n)) (tree a t))) (ap (λ (x : TermId). term_eq (tree a t) (tree a x)) (same_Some u t at) ∙ term_eq-refl (tree a t))
  value_at (u ∷ ids) below d (suc c) t at within v =
      ap (λ b. cond b (v 0) (value_among a ids (λ n. v (suc n)) (tree a t))) (sym (term_eq-ids a ok t u within below.0) ∙ eq_flip u.0 t.0 (not_at ids u d.0 c t at))
      ∙ value_at ids below.1 d.1 c t at within (λ n. v (suc n))

  pub column_value : (fs : List IdForm) → AllBelow (length a.nodes) (columns.part_ids fs) → (c : ℕ) (t : TermId) → slice_get (columns.part_ids fs) c ≡ Some t → t.0 < length a.nodes → (v : Point)
      → value_among a (columns.part_ids fs) v (tree a t) ≡ v c
  column_value fs below c t at within v = value_at (columns.part_ids fs) below (distinct_forms fs [] tt) c t at within v

-- what is no column is worth nothing
pub value_nowhere : (a : Arena) (ids : List TermId) (x : Term) → ((c : ℕ) (t : TermId) → slice_get ids c ≡ Some t → tree a t ≡ x → ⊥) → (v : Point) → value_among a ids v x ≡ nothing
value_nowhere a [] x h v = refl
value_nowhere a (u ∷ ids) x h v = by_case (term_eq x (tree a u)) refl (value_nowhere a ids x (λ c t at e. h (suc c) t at e) (λ n. v (suc n)))
  where
    by_case : (b : Bool) → term_eq x (tree a u) ≡ b → value_among a ids (λ n. v (suc n)) x ≡ nothing → cond b (v 0) (value_among a ids (λ n. v (suc n)) x) ≡ nothing
    by_case true e later = absurd (h 0 u refl (sym (term_eq-true x (tree a u) e)))
    by_case false e later = later
