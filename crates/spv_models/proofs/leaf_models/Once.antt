-- No subterm is listed twice.
use Rattle.std.proofs.Common.{◌≡◌, ℕ, zero, suc, Bool, true, false, cond, List, [], ◌∷◌, ◌++◌, refl, sym, ap, ◌∙◌, Some}
use Rattle.std.specs.Prelude.{slice_get}
use Rattle.std.proofs.lemmas.Bool.{false≢true}
use Rattle.std.proofs.lemmas.Option.{same_Some}
use Rattle.spv_logic.proofs.list.Tests.{left_false, right_false}
use Rattle.spv_logic.specs.Terms.{Term, Terms, term, no_terms, terms, term_eq}
use Rattle.spv_logic.proofs.Equality.{term_eq-refl}
use Rattle.spv_atoms.specs.Atoms.{with_term}
use Rattle.spv_atoms.specs.Order.{order, order_all}
use Rattle.spv_atoms.proofs.Members.{has, or_left, or_right, has-parts, has_one}
use Rattle.spv_tableau_rules.proofs.pivots.Algebra.{false_of}
use Rattle.spv_models.specs.leaf_models.Subterms.{enters_each, with_subterms, subterms}

abbrev AreDistinct : List Term → Type 0
AreDistinct [] = Unit {0}
AreDistinct (t ∷ ts) = (has ts t ≡ false) × AreDistinct ts

distinct_last : (ts : List Term) (t : Term) → AreDistinct ts → has ts t ≡ false → AreDistinct (ts ++ t ∷ [])
distinct_last [] t d h = (refl, tt)
distinct_last (u ∷ us) t d h = (
  false_of (has (us ++ t ∷ []) u) (λ k. has-parts us (t ∷ []) u k (λ m. false≢true (sym d.0 ∙ m))
      (λ m. false≢true (sym (left_false (term_eq t u) (has us t) h) ∙ (ap (term_eq t) (has_one u t m) ∙ term_eq-refl t)))),
  distinct_last us t d.1 (right_false (term_eq t u) (has us t) h),
)

distinct_with : (ts : List Term) (t : Term) → AreDistinct ts → AreDistinct (with_term ts t)
distinct_with ts t d = by_case (has ts t) refl
  where
    by_case : (b : Bool) → has ts t ≡ b → AreDistinct (cond b ts (ts ++ t ∷ []))
    by_case true e = d
    by_case false e = distinct_last ts t d e

mutual
  order-distinct : (t : Term) (done : List Term) → AreDistinct done → AreDistinct (order enters_each t done)
  order-distinct (term h ts) done d = by_known (has done (term h ts)) (order_all-distinct ts done d)
    where
      by_known : (b : Bool) → AreDistinct (order_all enters_each ts done) → AreDistinct (cond b done (with_term (order_all enters_each ts done) (term h ts)))
      by_known true later = d
      by_known false later = distinct_with (order_all enters_each ts done) (term h ts) later

  order_all-distinct : (ts : Terms) (done : List Term) → AreDistinct done → AreDistinct (order_all enters_each ts done)
  order_all-distinct no_terms done d = d
  order_all-distinct (terms t ts) done d = order_all-distinct ts (order enters_each t done) (order-distinct t done d)

with_subterms-distinct : (fs done : List Term) → AreDistinct done → AreDistinct (with_subterms done fs)
with_subterms-distinct [] done d = d
with_subterms-distinct (f ∷ fs) done d = with_subterms-distinct fs (order enters_each f done) (order-distinct f done d)

pub at-has : (ts : List Term) (i : ℕ) (t : Term) → slice_get ts i ≡ Some t → has ts t ≡ true
at-has [] i t e = absurd (cc)
at-has (u ∷ us) zero t e = or_left (term_eq t u) (has us t) (ap (term_eq t) (same_Some u t e) ∙ term_eq-refl t)
at-has (u ∷ us) (suc i) t e = or_right (term_eq t u) (has us t) (at-has us i t e)

at_first : (ts : List Term) (u : Term) (j : ℕ) (t : Term) → has ts u ≡ false → u ≡ t → slice_get ts j ≡ Some t → ⊥
at_first ts u j t h e at = false≢true (sym h ∙ (ap (has ts) e ∙ at-has ts j t at))

one_place : (ts : List Term) → AreDistinct ts → (i j : ℕ) (t : Term) → slice_get ts i ≡ Some t → slice_get ts j ≡ Some t → i ≡ j
one_place [] d i j t e f = absurd (cc)
one_place (u ∷ us) d zero zero t e f = refl
one_place (u ∷ us) d zero (suc j) t e f = absurd (at_first us u j t d.0 (same_Some u t e) f)
one_place (u ∷ us) d (suc i) zero t e f = absurd (at_first us u i t d.0 (same_Some u t f) e)
one_place (u ∷ us) d (suc i) (suc j) t e f = ap suc (one_place us d.1 i j t e f)

pub subterms-once : (fs : List Term) (i j : ℕ) (t : Term) → slice_get (subterms fs) i ≡ Some t → slice_get (subterms fs) j ≡ Some t → i ≡ j
subterms-once fs i j t e f = one_place (subterms fs) (with_subterms-distinct fs [] tt) i j t e f
