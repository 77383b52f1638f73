-- Lists without two items that are the same, and their parts.
use Rattle.std.proofs.Common.{◌≡◌, Bool, true, false, not, List, [], ◌∷◌, ◌++◌, refl, sym, ap, ◌∙◌}
use Rattle.std.specs.List.{list_any}
use Rattle.std.specs.Cmp.Derive.{both_true}
use Rattle.std.proofs.lemmas.Bool.{false≢true}
use Rattle.std.proofs.lemmas.List.Folds.{list_any-append}
use Rattle.spv_logic.proofs.list.Tests.{left_true, right_true, left_false, right_false, both_false}
use Rattle.spv_program.specs.Lists.{all_differ}

pub not_true : (b : Bool) → not b ≡ true → b ≡ false
not_true true h = absurd (false≢true h)
not_true false h = refl

pub not_false : (b : Bool) → b ≡ false → not b ≡ true
not_false b e = ap not e

-- ---- no item is the same

pub none_left : {X : Type 0} (test : X → Bool) (xs ys : List X) → list_any test (xs ++ ys) ≡ false → list_any test xs ≡ false
none_left test xs ys h = left_false (list_any test xs) (list_any test ys) (sym (list_any-append test xs ys) ∙ h)

pub none_right : {X : Type 0} (test : X → Bool) (xs ys : List X) → list_any test (xs ++ ys) ≡ false → list_any test ys ≡ false
none_right test xs ys h = right_false (list_any test xs) (list_any test ys) (sym (list_any-append test xs ys) ∙ h)

pub none_both : {X : Type 0} (test : X → Bool) (xs ys : List X) → list_any test xs ≡ false → list_any test ys ≡ false → list_any test (xs ++ ys) ≡ false
none_both test xs ys h k = list_any-append test xs ys ∙ both_false (list_any test xs) (list_any test ys) h k

-- ---- parts of a list without two that are the same

module _ {X : Type 0} (same : X → X → Bool) where
  pub first_differs : (x : X) (xs : List X) → all_differ same (x ∷ xs) ≡ true → list_any (same x) xs ≡ false
  first_differs x xs h = not_true (list_any (same x) xs) (left_true (not (list_any (same x) xs)) (all_differ same xs) h)

  pub others_differ : (x : X) (xs : List X) → all_differ same (x ∷ xs) ≡ true → all_differ same xs ≡ true
  others_differ x xs h = right_true (not (list_any (same x) xs)) (all_differ same xs) h

  pub one_more : (x : X) (xs : List X) → list_any (same x) xs ≡ false → all_differ same xs ≡ true → all_differ same (x ∷ xs) ≡ true
  one_more x xs none h = both_true (not_false (list_any (same x) xs) none) h

  pub differ_right : (xs ys : List X) → all_differ same (xs ++ ys) ≡ true → all_differ same ys ≡ true
  differ_right [] ys h = h
  differ_right (x ∷ xs) ys h = differ_right xs ys (others_differ x (xs ++ ys) h)

  pub differ_left : (xs ys : List X) → all_differ same (xs ++ ys) ≡ true → all_differ same xs ≡ true
  differ_left [] ys h = refl
  differ_left (x ∷ xs) ys h = one_more x xs (none_left (same x) xs ys (first_differs x (xs ++ ys) h)) (differ_left xs ys (others_differ x (xs ++ ys) h))

  -- what stands at the end may go
  pub differ_front : (xs ys zs : List X) → all_differ same (xs ++ (ys ++ zs)) ≡ true → all_differ same (xs ++ ys) ≡ true
  differ_front [] [] zs h = refl
  differ_front [] (y ∷ ys) zs h =
      one_more y ys (none_left (same y) ys zs (first_differs y (ys ++ zs) h)) (differ_front [] ys zs (others_differ y (ys ++ zs) h))
  differ_front (x ∷ xs) ys zs h =
      let none = first_differs x (xs ++ (ys ++ zs)) h in
      let behind = none_right (same x) xs (ys ++ zs) none in
      one_more x (xs ++ ys) (none_both (same x) xs ys (none_left (same x) xs (ys ++ zs) none) (none_left (same x) ys zs behind))
      (differ_front xs ys zs (others_differ x (xs ++ (ys ++ zs)) h))

  -- what stands in the middle may go
  pub differ_around : (xs ys zs : List X) → all_differ same (xs ++ (ys ++ zs)) ≡ true → all_differ same (xs ++ zs) ≡ true
  differ_around [] ys zs h = differ_right ys zs h
  differ_around (x ∷ xs) ys zs h =
      let none = first_differs x (xs ++ (ys ++ zs)) h in
      let behind = none_right (same x) xs (ys ++ zs) none in
      one_more x (xs ++ zs) (none_both (same x) xs zs (none_left (same x) xs (ys ++ zs) none) (none_right (same x) ys zs behind))
      (differ_around xs ys zs (others_differ x (xs ++ (ys ++ zs)) h))

  -- an item that is another than each may come into the middle
  pub differ_with : ((a b : X) → same a b ≡ false → same b a ≡ false) → (q : X) (xs ys : List X) → list_any (same q) (xs ++ ys) ≡ false → all_differ same (xs ++ ys) ≡ true → all_differ same (xs ++ q ∷ ys) ≡ true
  differ_with swap q [] ys none h = one_more q ys none h
  differ_with swap q (x ∷ xs) ys none h =
      let here = first_differs x (xs ++ ys) h in
      one_more x (xs ++ q ∷ ys)
      (none_both (same x) xs (q ∷ ys) (none_left (same x) xs ys here)
      (both_false (same x q) (list_any (same x) ys) (swap q x (left_false (same q x) (list_any (same q) (xs ++ ys)) none)) (none_right (same x) xs ys here)))
      (differ_with swap q xs ys (right_false (same q x) (list_any (same q) (xs ++ ys)) none) (others_differ x (xs ++ ys) h))
