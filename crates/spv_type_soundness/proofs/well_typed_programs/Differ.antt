-- Lists of which no two items are the same.
use Rattle.std.proofs.Common.{◌≡◌, Bool, true, false, ◌||◌, not, List, [], ◌∷◌, ◌++◌, refl, sym, ap, ◌∙◌, subst}
use Rattle.std.specs.List.{list_any}
use Rattle.std.specs.Cmp.Derive.{both_true}
use Rattle.std.proofs.lemmas.Bool.{false≢true, eq-eqb, eqb-true}
use Rattle.std.proofs.lemmas.List.Folds.{list_any-append}
use Rattle.spv_logic.proofs.list.Tests.{left_true, right_true, left_false, right_false, both_false}
use Rattle.spv_logic.specs.declared.names.names.Symbol.{Symbol}
use Rattle.spv_program.specs.Lists.{same_name, all_differ}

pub or_left : (a b : Bool) → a ≡ true → (a || b) ≡ true
or_left true b e = refl
or_left false b e = absurd (false≢true e)

pub or_right : (a b : Bool) → b ≡ true → (a || b) ≡ true
or_right true b e = refl
or_right false b e = e

pub not_true : (b : Bool) → not b ≡ true → b ≡ false
not_true false e = refl
not_true true e = absurd (false≢true e)

pub name-refl : (x : Symbol) → same_name x x ≡ true
name-refl x = eq-eqb x.0 x.0 refl

pub same_names : (x y : Symbol) → same_name x y ≡ true → x ≡ y
same_names x y h = let e = eqb-true x.0 y.0 h in λ i. record { 0 = e i }

-- either a test fails or it passes
pub by_test : (b : Bool) (P : Type 0) → (b ≡ true → P) → (b ≡ false → P) → P
by_test true P yes_so not_so = yes_so refl
by_test false P yes_so not_so = not_so refl

module _ {X : Type 0} (same : X → X → Bool) (itself : (x : X) → same x x ≡ true) (decides : (x y : X) → same x y ≡ true → x ≡ y) where
  -- no item of the one is in the other
  pub record Apart (xs ys : List X) : Type 0 where
    pub apart : (x : X) → list_any (same x) xs ≡ true → list_any (same x) ys ≡ false

  pub differ_append : (xs ys : List X) → all_differ same xs ≡ true → all_differ same ys ≡ true → Apart xs ys
      → all_differ same (xs ++ ys) ≡ true
  differ_append [] ys one two a = two
  differ_append (x ∷ xs) ys one two a =
      both_true
      (ap not (list_any-append (same x) xs ys
      ∙ both_false (list_any (same x) xs) (list_any (same x) ys) (not_true (list_any (same x) xs) (left_true _ _ one))
      (a.apart x (or_left (same x x) _ (itself x)))))
      (differ_append xs ys (right_true (not (list_any (same x) xs)) _ one) two
      (record { apart = λ y h. a.apart y (or_right (same y x) _ h) }))

  pub differ_first : (xs ys : List X) → all_differ same (xs ++ ys) ≡ true → all_differ same xs ≡ true
  differ_first [] ys h = refl
  differ_first (x ∷ xs) ys h =
      both_true
      (ap not (left_false (list_any (same x) xs) (list_any (same x) ys)
      (sym (list_any-append (same x) xs ys) ∙ not_true (list_any (same x) (xs ++ ys)) (left_true _ _ h))))
      (differ_first xs ys (right_true (not (list_any (same x) (xs ++ ys))) _ h))

  pub differ_rest : (xs ys : List X) → all_differ same (xs ++ ys) ≡ true → all_differ same ys ≡ true
  differ_rest [] ys h = h
  differ_rest (x ∷ xs) ys h = differ_rest xs ys (right_true (not (list_any (same x) (xs ++ ys))) _ h)

  pub differ_apart : (xs ys : List X) → all_differ same (xs ++ ys) ≡ true → Apart xs ys
  differ_apart [] ys h = record { apart = λ x e. absurd (false≢true e) }
  differ_apart (x ∷ xs) ys h =
      let rest = differ_apart xs ys (right_true (not (list_any (same x) (xs ++ ys))) _ h) in
      record { apart = λ y e. by_case y (same y x) refl e rest }
    where
      by_case : (y : X) (b : Bool) → same y x ≡ b → (b || list_any (same y) xs) ≡ true → Apart xs ys → list_any (same y) ys ≡ false
      by_case y true e k rest =
          subst (λ z. list_any (same z) ys ≡ false) (sym (decides y x e))
          (right_false (list_any (same x) xs) (list_any (same x) ys)
          (sym (list_any-append (same x) xs ys) ∙ not_true (list_any (same x) (xs ++ ys)) (left_true _ _ h)))
      by_case y false e k rest = rest.apart y k

  -- an item that is not in a list
  pub apart_one : (xs : List X) (y : X) → list_any (same y) xs ≡ false → Apart xs (y ∷ [])
  apart_one xs y h = record {
    apart =
        λ x e. both_false (same x y) false
        (by_test (same x y) (same x y ≡ false)
        (λ k. absurd (false≢true (sym h ∙ subst (λ z. list_any (same z) xs ≡ true) (decides x y k) e))) (λ k. k)) refl;
  }

  pub differ_one : (xs : List X) (y : X) → all_differ same xs ≡ true → list_any (same y) xs ≡ false → all_differ same (xs ++ y ∷ []) ≡ true
  differ_one xs y one h = differ_append xs (y ∷ []) one refl (apart_one xs y h)

  pub apart_turned : (xs ys : List X) → Apart xs ys → Apart ys xs
  apart_turned xs ys a = record {
    apart = λ x e. by_test (list_any (same x) xs) (list_any (same x) xs ≡ false) (λ k. absurd (false≢true (sym (a.apart x k) ∙ e)))
        (λ k. k);
  }

  pub apart_both : (xs ys zs : List X) → Apart xs ys → Apart xs zs → Apart xs (ys ++ zs)
  apart_both xs ys zs a b = record {
    apart = λ x e. list_any-append (same x) ys zs ∙ both_false (list_any (same x) ys) (list_any (same x) zs) (a.apart x e) (b.apart x e);
  }
