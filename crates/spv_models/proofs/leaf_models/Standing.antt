-- Each subterm whose truth is not computed stands in an atom.
use Rattle.std.proofs.Common.{◌≡◌, Bool, true, false, cond, ◌&&◌, not, List, [], ◌∷◌, refl, sym, ap, ◌∙◌}
use Rattle.std.specs.Cmp.Derive.{both_true}
use Rattle.std.proofs.lemmas.Bool.{false≢true}
use Rattle.spv_logic.proofs.list.Tests.{left_true, right_true}
use Rattle.spv_logic.specs.declared.types.Sort.{Sort}
use Rattle.spv_logic.specs.declared.types.Sort.TheVariants as sort
use Rattle.spv_logic.specs.declared.types.Shape.{Shape}
use Rattle.spv_logic.specs.declared.types.Decl.{Decl}
use Rattle.spv_logic.specs.Terms.{Term, Terms, term, no_terms, terms, term_eq}
use Rattle.spv_logic.specs.Sorts.{term_sort}
use Rattle.spv_logic.proofs.Equality.{term_eq-refl}
use Rattle.spv_atoms.specs.Atoms.{has_sort, is_truth, is_atom, with_term}
use Rattle.spv_atoms.specs.Forms.{constant_values}
use Rattle.spv_atoms.specs.Order.{order, order_all, passing}
use Rattle.spv_atoms.specs.Tables.{all_truths}
use Rattle.spv_atoms.proofs.Members.{has, or_left, or_right, has-with_terms}
use Rattle.spv_models.specs.leaf_models.Subterms.{enters_each, with_subterms, subterms, is_uncomputed, uncomputed}
use Rattle.spv_models.specs.leaf_models.Atoms.{atoms, all_equations}
use Rattle.spv_models.specs.leaf_models.Laws.{AreFormulas}
use Rattle.spv_models.proofs.leaf_models.Closed.{ArgumentsIn, IsClosed, subterms-closed, subterms-has, with_term-parts}
use Rattle.spv_models.proofs.leaf_models.Covering.{some_sort, atoms-are, parts-closed}
use Rattle.spv_models.proofs.leaf_models.Lookups.{has-passing, passing-parts}
use Rattle.spv_models.proofs.leaf_models.Owns.{own-plain, own-open}
use Rattle.spv_models.proofs.leaf_models.TermKinds.{Kind, HasSort, Own, Numeral, Total, Remains, Multiple, IsLess, IsAtMost, IsEqual, Negated, Both, Either, Implied, Truthful, Untruthful, kind}
use Rattle.spv_models.proofs.leaf_models.Values.{some-is}

not_and : (b : Bool) → (not b && true) ≡ false → b ≡ true
not_and true e = refl
not_and false e = absurd (false≢true (sym e))

module _ (shapes : List Shape) (decls : List Decl) where
  abbrev truth : Term → Bool
  truth = is_truth shapes decls

  truth_of : (t : Term) → HasSort shapes decls t sort.Bool → truth t ≡ true
  truth_of t e = ap (has_sort sort.Bool) e

  -- the arguments of a term are of sort Bool
  abbrev HasTruths : Term → Type 0
  HasTruths (term h ts) = all_truths truth ts ≡ true

  -- so are those of a term whose truth is computed
  truths_under : (t : Term) (s : Sort) → Kind shapes decls t s → is_uncomputed truth t ≡ false → HasTruths t
  truths_under t s (Own h ts r e) k = absurd (false≢true (sym k ∙ both_true (ap not (own-plain h (constant_values ts) (all_truths truth ts) e)) (ap not (own-open h (constant_values ts) e))))
  truths_under t s (Numeral z) k = refl
  truths_under t s (Total a b ha hb) k = absurd (false≢true (sym k))
  truths_under t s (Remains a b ha hb) k = absurd (false≢true (sym k))
  truths_under t s (Multiple a b ha hb e) k = absurd (false≢true (sym k))
  truths_under t s (IsLess a b ha hb) k = absurd (false≢true (sym k))
  truths_under t s (IsAtMost a b ha hb) k = absurd (false≢true (sym k))
  truths_under t s (IsEqual a b r ha hb) k = not_and (all_truths truth (terms a (terms b no_terms))) k
  truths_under t s (Negated a ha) k = both_true (truth_of a ha) refl
  truths_under t s (Both a b ha hb) k = both_true (truth_of a ha) (both_true (truth_of b hb) refl)
  truths_under t s (Either a b ha hb) k = both_true (truth_of a ha) (both_true (truth_of b hb) refl)
  truths_under t s (Implied a b ha hb) k = both_true (truth_of a ha) (both_true (truth_of b hb) refl)
  truths_under t s Truthful k = refl
  truths_under t s Untruthful k = refl

  module _ (fs : List Term) (are : AreFormulas shapes decls fs) where
    abbrev within : List Term
    within = subterms (atoms shapes decls fs)

    atom_truth : (t : Term) → has (atoms shapes decls fs) t ≡ true → truth t ≡ true
    atom_truth t m = left_true (truth t) _ (atoms-are shapes decls fs are t m)

    within_closed : IsClosed shapes decls within
    within_closed = subterms-closed shapes decls (atoms shapes decls fs) (λ t m. some_sort shapes decls (term_sort shapes decls t) (atom_truth t m))

    -- a term is computed, or stands in an atom
    record IsCovered (t : Term) : Type 0 where
      is : is_uncomputed truth t ≡ true → has within t ≡ true

    abbrev mutual
      AllCovered : Term → Type 0
      AllCovered (term h ts) = IsCovered (term h ts) × EachCovered ts

      EachCovered : Terms → Type 0
      EachCovered no_terms = Unit {0}
      EachCovered (terms t ts) = AllCovered t × EachCovered ts

    -- what stands in an atom has all its parts there
    mutual
      inside_covered : (t : Term) → has within t ≡ true → AllCovered t
      inside_covered (term h ts) m = (record { is = λ k. m }, each_inside ts (within_closed.inside h ts m))

      each_inside : (ts : Terms) → ArgumentsIn within ts → EachCovered ts
      each_inside no_terms m = tt
      each_inside (terms t ts) m = (inside_covered t m.0, each_inside ts m.1)

    sorted_kind : (t : Term) → truth t ≡ true → is_uncomputed truth t ≡ false → HasTruths t
    sorted_kind t k e = let s = some-is (term_sort shapes decls t) (some_sort shapes decls (term_sort shapes decls t) k) in truths_under t s.item (kind shapes decls t s.item s.is) e

    -- a formula among the subterms has its parts covered
    mutual
      formula_covered : (f : Term) → has (subterms fs) f ≡ true → truth f ≡ true → AllCovered f
      formula_covered (term h ts) m k = by_case (is_uncomputed truth (term h ts)) refl (λ e. each_covered ts ((parts-closed shapes decls fs are).inside h ts m) e)
        where
          by_case : (b : Bool) → is_uncomputed truth (term h ts) ≡ b → (all_truths truth ts ≡ true → EachCovered ts) → AllCovered (term h ts)
          by_case true e later =
              inside_covered (term h ts)
              (subterms-has (atoms shapes decls fs) (term h ts)
              (has-with_terms (passing (is_atom truth) (subterms fs)) (all_equations shapes decls (subterms fs)) (term h ts) (has-passing (is_atom truth) (subterms fs) (term h ts) m (both_true k e))))
          by_case false e later = (record { is = λ i. absurd (false≢true (sym e ∙ i)) }, later (sorted_kind (term h ts) k e))

      each_covered : (ts : Terms) → ArgumentsIn (subterms fs) ts → all_truths truth ts ≡ true → EachCovered ts
      each_covered no_terms m k = tt
      each_covered (terms t ts) m k = (formula_covered t m.0 (left_true (truth t) _ k), each_covered ts m.1 (right_true (truth t) _ k))

    -- each of these is covered
    record AreCovered (ts : List Term) : Type 0 where
      each : (t : Term) → has ts t ≡ true → IsCovered t

    one_covered : (ts : List Term) (t : Term) → AreCovered ts → IsCovered t → AreCovered (with_term ts t)
    one_covered ts t c i = record { each = λ u m. with_term-parts ts t u m (c.each u) (λ e. record { is = λ k. ap (has within) e ∙ i.is (ap (is_uncomputed truth) (sym e) ∙ k) }) }

    mutual
      order_covered : (t : Term) (done : List Term) → AreCovered done → AllCovered t → AreCovered (order enters_each t done)
      order_covered (term h ts) done c a = by_known (has done (term h ts)) (all_in_order_covered ts done c a.1)
        where
          by_known : (b : Bool) → AreCovered (order_all enters_each ts done) → AreCovered (cond b done (with_term (order_all enters_each ts done) (term h ts)))
          by_known true later = c
          by_known false later = one_covered (order_all enters_each ts done) (term h ts) later a.0

      all_in_order_covered : (ts : Terms) (done : List Term) → AreCovered done → EachCovered ts → AreCovered (order_all enters_each ts done)
      all_in_order_covered no_terms done c a = c
      all_in_order_covered (terms t ts) done c a = all_in_order_covered ts (order enters_each t done) (order_covered t done c a.0) a.1

    with_subterms_covered : (gs done : List Term) → AreCovered done → ((g : Term) → has gs g ≡ true → AllCovered g) → AreCovered (with_subterms done gs)
    with_subterms_covered [] done c a = c
    with_subterms_covered (g ∷ gs) done c a =
        with_subterms_covered gs (order enters_each g done) (order_covered g done c (a g (or_left (term_eq g g) (has gs g) (term_eq-refl g)))) (λ f m. a f (or_right (term_eq f g) (has gs f) m))

    pub uncomputed-in-atoms : (t : Term) → has (uncomputed truth (subterms fs)) t ≡ true → has within t ≡ true
    uncomputed-in-atoms t m =
        let p = passing-parts (is_uncomputed truth) (subterms fs) t m in
        ((with_subterms_covered fs [] (record { each = λ u e. absurd (false≢true e) }) (λ g e. formula_covered g (subterms-has fs g e) (are g e))).each t p.among).is p.passes
