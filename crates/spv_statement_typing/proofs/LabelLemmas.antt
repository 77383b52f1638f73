-- The numbers of a set are those of a list, and one more is put into both.
use Rattle.std.proofs.Common.{◌≡◌, ℤ, Bool, true, false, ◌||◌, cond, List, [], ◌∷◌, ◌++◌, int_cmp, int_eq, is_eq, refl, sym, ap, ◌∙◌, arith}
use Rattle.std.specs.BTreeSet.{BTreeSet, Updates, contains_by}
use Rattle.std.specs.List.{list_any}
use Rattle.std.proofs.lemmas.Bool.Decides.{nat_tests}
use Rattle.std.proofs.lemmas.Cmp.{int_eq_equiv}
use Rattle.std.proofs.lemmas.Int.{ints}
use Rattle.std.proofs.lemmas.List.Folds.{list_any-append}
use Rattle.spv_statement_typing.specs.Labels.{AreThose}

-- the order tells two numbers apart exactly where they differ
same : (x y : ℤ) → is_eq (int_cmp x y) ≡ int_eq x y
same x y = grind (arith, ints, nat_tests)

either : (b c : Bool) → cond b true c ≡ (c || (b || false))
either true true = refl
either true false = refl
either false true = refl
either false false = refl

module _ (y z : ℤ) (is : y ≡ z) where
  pub found-there : (sorted : BTreeSet ℤ) (listed : List ℤ) → AreThose sorted listed → contains_by (int_cmp y) sorted ≡ list_any (int_eq z) listed
  found-there sorted listed those = ap (λ x. contains_by (int_cmp x) sorted) is ∙ those.each z

  pub AreThose-put : (old new : BTreeSet ℤ) (listed more : List ℤ) → AreThose old listed → Updates int_cmp old new y true → more ≡ listed ++ y ∷ [] → AreThose new more
  AreThose-put old new listed more those put grown = record {
    each = λ q. put.0 q ∙ (λ i. cond (is_eq (int_cmp (is i) q)) true (those.each q i)) ∙ ap (λ b. cond b true (list_any (int_eq q) listed)) (same z q)
        ∙ either (int_eq z q) (list_any (int_eq q) listed)
        ∙ ap (λ b. list_any (int_eq q) listed || (b || false)) (int_eq_equiv.symm z q)
        ∙ sym (list_any-append (int_eq q) listed (z ∷ [])) ∙ ap (list_any (int_eq q)) (sym (grown ∙ ap (λ x. listed ++ x ∷ []) is));
  }
