-- Sums and multiples of parts, over plain variables: one part after the other is taken off the front.
use Rattle.std.proofs.Common.{◌≡◌, ℕ, zero, suc, ◌+◌, ◌<◌, ◌≤◌, Bool, true, false, cond, List, [], ◌∷◌, ◌++◌, length, drop, get_or, ℤ, pos, negsuc, ◌+ℤ◌, ◌*ℤ◌, nat_eq, nat_lt, refl, sym, ap, ◌∙◌, subst, Option, Some, None, arith}
use Rattle.std.proofs.lemmas.Int.{to_z-of_z}
use mir.Val.{to_z, of_z}
use mir.Syntax.{w128}
use Rattle.spv_atoms.proofs.Values.{number-fits}
use mathlib.Core.Path.{ap₂}
use Rattle.std.specs.Ordering.{int_eq}
use Rattle.std.proofs.lemmas.Bool.{false≢true, eqb-true}
use Rattle.std.proofs.lemmas.Bool.Decides.{nat_tests}
use Rattle.std.proofs.lemmas.Int.{ints}
use Rattle.std.proofs.lemmas.List.{drop_more, drop_all}
use Rattle.std.proofs.lemmas.Option.{same_Some}
use Rattle.spv_logic.specs.declared.conditions.TermId.{TermId}
use Rattle.spv_logic.proofs.Equality.{int_eq-true}
use Rattle.spv_frac.specs.Range.{fits}
use Rattle.spv_atoms.specs.Linear.{IdForm, IsIdForm, coefficient_at, IsPart, ArePartsFrom}
use Rattle.spv_atoms.specs.Sums.{number_in_front, behind, lesser_id, least_id, with_number, AreSummed, IsWideAt, AreScaled, ScaledParts, SummedParts, IsWideMultiple, IsMultiple, IsWideSum}

-- ---- numbers

pub refused : (b : Bool) → (b ≡ true → false ≡ true) → b ≡ false
refused true h = sym (h refl)
refused false h = refl

-- a number that fits is one of 128 bits
pub narrow : (z : ℤ) → fits z ≡ true → to_z w128 (of_z w128 z) ≡ z
narrow z h = to_z-of_z w128 z (number-fits z h)

zero-+ℤ : (a : ℤ) → a ≡ pos 0 +ℤ a
zero-+ℤ a = omega (arith, ints)

+ℤ-zero : (a : ℤ) → a ≡ a +ℤ pos 0
+ℤ-zero a = omega (arith, ints)

-- ---- parts from a number up

-- each id is below a number
abbrev pub AreUnder : ℕ → List (TermId × ℤ) → Type 0
AreUnder high [] = Unit {0}
AreUnder high (p ∷ parts) = (p.0.0 < high) × AreUnder high parts

not-same : (n m : ℕ) → n < m → nat_eq n m ≡ false
not-same n m h = grind (arith, nat_tests)

not-same-after : (n m : ℕ) → m < n → nat_eq n m ≡ false
not-same-after n m h = grind (arith, nat_tests)

same-self : (n : ℕ) → nat_eq n n ≡ true
same-self n = grind (arith, nat_tests)

-- what is under all parts is not listed
pub not-from : (low : ℕ) (parts : List (TermId × ℤ)) (t : TermId) → ArePartsFrom low parts → t.0 < low → coefficient_at parts t ≡ pos 0
not-from low [] t h k = refl
not-from low (p ∷ parts) t h k =
    let o = h.0.order in
    ap (λ b. cond b p.1 (coefficient_at parts t)) (not-same-after p.0.0 t.0 (omega (arith, o, k)))
    ∙ not-from (suc p.0.0) parts t h.1 (omega (arith, o, k))

-- what is above all parts is not listed
pub not-under : (high : ℕ) (parts : List (TermId × ℤ)) (t : TermId) → AreUnder high parts → high ≤ t.0 → coefficient_at parts t ≡ pos 0
not-under high [] t h k = refl
not-under high (p ∷ parts) t h k =
    ap (λ b. cond b p.1 (coefficient_at parts t)) (not-same p.0.0 t.0 (omega (arith, h.0, k))) ∙ not-under high parts t h.1 k

-- the same part, from another number up
moved : (low n : ℕ) (p : TermId × ℤ) → IsPart low p → n ≤ p.0.0 → IsPart n p
moved low n p is k = record { order = k; nonzero = is.nonzero; fits = is.fits }

under-more : (high higher : ℕ) (parts : List (TermId × ℤ)) → AreUnder high parts → high ≤ higher → AreUnder higher parts
under-more high higher [] h k = tt
under-more high higher (p ∷ parts) h k = (omega (arith, h.0, k), under-more high higher parts h.1 k)

-- ---- a part at the end

from-push : (low : ℕ) (parts : List (TermId × ℤ)) (p : TermId × ℤ) → ArePartsFrom low parts → AreUnder p.0.0 parts → IsPart low p → ArePartsFrom low (parts ++ p ∷ [])
from-push low [] p h k is = (is, tt)
from-push low (q ∷ parts) p h k is = (h.0, from-push (suc q.0.0) parts p h.1 k.1 (moved low (suc q.0.0) p is (omega (arith, k.0))))

under-push : (high : ℕ) (parts : List (TermId × ℤ)) (p : TermId × ℤ) → AreUnder high parts → p.0.0 < high → AreUnder high (parts ++ p ∷ [])
under-push high [] p h k = (k, tt)
under-push high (q ∷ parts) p h k = (h.0, under-push high parts p h.1 k)

push-coefficient : (parts : List (TermId × ℤ)) (p : TermId × ℤ) (t : TermId) → AreUnder p.0.0 parts
    → coefficient_at (parts ++ p ∷ []) t ≡ coefficient_at parts t +ℤ cond (nat_eq p.0.0 t.0) p.1 (pos 0)
push-coefficient [] p t h = zero-+ℤ (cond (nat_eq p.0.0 t.0) p.1 (pos 0))
push-coefficient (q ∷ parts) p t h = by_case (nat_eq q.0.0 t.0) refl (push-coefficient parts p t h.1)
  where
    by_case : (b : Bool) → nat_eq q.0.0 t.0 ≡ b → coefficient_at (parts ++ p ∷ []) t ≡ coefficient_at parts t +ℤ cond (nat_eq p.0.0 t.0) p.1 (pos 0)
        → cond b q.1 (coefficient_at (parts ++ p ∷ []) t) ≡ cond b q.1 (coefficient_at parts t) +ℤ cond (nat_eq p.0.0 t.0) p.1 (pos 0)
    by_case true e later =
        let other : nat_eq p.0.0 t.0 ≡ false = ap (nat_eq p.0.0) (sym (eqb-true q.0.0 t.0 e)) ∙ not-same-after p.0.0 q.0.0 h.0 in
        +ℤ-zero q.1 ∙ sym (ap (λ b. q.1 +ℤ cond b p.1 (pos 0)) other)
    by_case false e later = later

-- one more number, from what was there
pub with_number-coefficient : (parts : List (TermId × ℤ)) (t : TermId) (n : ℤ) (u : TermId) → AreUnder t.0 parts
    → coefficient_at (with_number parts t n) u ≡ coefficient_at parts u +ℤ cond (nat_eq t.0 u.0) n (pos 0)
with_number-coefficient parts t n u h = by_case (int_eq n (pos 0)) refl
  where
    nothing : (b : Bool) → pos 0 ≡ cond b (pos 0) (pos 0)
    nothing true = refl
    nothing false = refl

    by_case : (b : Bool) → int_eq n (pos 0) ≡ b → coefficient_at (cond b parts (parts ++ (t, n) ∷ [])) u ≡ coefficient_at parts u +ℤ cond (nat_eq t.0 u.0) n (pos 0)
    by_case true e =
        +ℤ-zero (coefficient_at parts u) ∙ (ap (λ z. coefficient_at parts u +ℤ z) (nothing (nat_eq t.0 u.0)) ∙ ap (λ z. coefficient_at parts u +ℤ cond (nat_eq t.0 u.0) z (pos 0)) (sym (int_eq-true n (pos 0) e)))
    by_case false e = push-coefficient parts (t, n) u h

pub with_number-from : (low : ℕ) (parts : List (TermId × ℤ)) (t : TermId) (n : ℤ) → ArePartsFrom low parts → AreUnder t.0 parts → low ≤ t.0 → fits n ≡ true → ArePartsFrom low (with_number parts t n)
with_number-from low parts t n h k below f = by_case (int_eq n (pos 0)) refl
  where
    by_case : (b : Bool) → int_eq n (pos 0) ≡ b → ArePartsFrom low (cond b parts (parts ++ (t, n) ∷ []))
    by_case true e = h
    by_case false e =
        from-push low parts (t, n) h k (record {
          order = below;
          nonzero = λ z. absurd (false≢true (sym e ∙ (ap (λ m. int_eq m (pos 0)) z ∙ refl)));
          fits = f;
        })

pub with_number-under : (high : ℕ) (parts : List (TermId × ℤ)) (t : TermId) (n : ℤ) → AreUnder high parts → t.0 < high → AreUnder high (with_number parts t n)
with_number-under high parts t n h k = by_case (int_eq n (pos 0))
  where
    by_case : (b : Bool) → AreUnder high (cond b parts (parts ++ (t, n) ∷ []))
    by_case true = h
    by_case false = under-push high parts (t, n) h k

-- ---- the first part

-- a number from which the first part's id is lets the parts ascend from there
from-first : (low n : ℕ) (p : TermId × ℤ) (parts : List (TermId × ℤ)) → ArePartsFrom low (p ∷ parts) → n ≤ p.0.0 → ArePartsFrom n (p ∷ parts)
from-first low n p parts h k = (moved low n p h.0 k, h.1)

front-and-behind : (parts : List (TermId × ℤ)) (t u : TermId) → ArePartsFrom t.0 parts
    → coefficient_at parts u ≡ cond (nat_eq t.0 u.0) (number_in_front parts t) (pos 0) +ℤ coefficient_at (behind parts t) u
front-and-behind [] t u h = by_case (nat_eq t.0 u.0)
  where
    by_case : (b : Bool) → pos 0 ≡ cond b (pos 0) (pos 0) +ℤ pos 0
    by_case true = refl
    by_case false = refl
front-and-behind (p ∷ parts) t u h = by_case (nat_eq p.0.0 t.0) refl
  where
    here : p.0.0 ≡ t.0 → (b : Bool) → nat_eq t.0 u.0 ≡ b → cond (nat_eq p.0.0 u.0) p.1 (coefficient_at parts u) ≡ cond b p.1 (pos 0) +ℤ coefficient_at parts u
    here e true f =
        let same : nat_eq p.0.0 u.0 ≡ true = ap (λ n. nat_eq n u.0) e ∙ f in
        let is : t.0 ≡ u.0 = eqb-true t.0 u.0 f in
        ap (λ b. cond b p.1 (coefficient_at parts u)) same
        ∙ (+ℤ-zero p.1 ∙ ap (λ z. p.1 +ℤ z) (sym (not-from (suc p.0.0) parts u h.1 (omega (arith, e, is)))))
    here e false f =
        let other : nat_eq p.0.0 u.0 ≡ false = ap (λ n. nat_eq n u.0) e ∙ f in
        ap (λ b. cond b p.1 (coefficient_at parts u)) other ∙ zero-+ℤ (coefficient_at parts u)

    nothing : (b : Bool) → (z : ℤ) → z ≡ cond b (pos 0) (pos 0) +ℤ z
    nothing true z = zero-+ℤ z
    nothing false z = zero-+ℤ z

    by_case : (b : Bool) → nat_eq p.0.0 t.0 ≡ b → coefficient_at (p ∷ parts) u ≡ cond (nat_eq t.0 u.0) (cond b p.1 (pos 0)) (pos 0) +ℤ coefficient_at (cond b parts (p ∷ parts)) u
    by_case true e = here (eqb-true p.0.0 t.0 e) (nat_eq t.0 u.0) refl
    by_case false e = nothing (nat_eq t.0 u.0) (coefficient_at (p ∷ parts) u)

behind-from : (parts : List (TermId × ℤ)) (t : TermId) → ArePartsFrom t.0 parts → ArePartsFrom (suc t.0) (behind parts t)
behind-from [] t h = tt
behind-from (p ∷ parts) t h = by_case (nat_eq p.0.0 t.0) refl
  where
    by_case : (b : Bool) → nat_eq p.0.0 t.0 ≡ b → ArePartsFrom (suc t.0) (cond b parts (p ∷ parts))
    by_case true e = subst (λ n. ArePartsFrom (suc n) parts) (eqb-true p.0.0 t.0 e) h.1
    by_case false e = from-first t.0 (suc t.0) p parts h (above p.0.0 t.0 h.0.order e)
      where
        above : (n m : ℕ) → m ≤ n → nat_eq n m ≡ false → suc m ≤ n
        above n m k e = grind (arith, nat_tests)

behind-length : (parts : List (TermId × ℤ)) (t : TermId) → length (behind parts t) ≤ length parts
behind-length [] t = omega arith
behind-length (p ∷ parts) t = by_case (nat_eq p.0.0 t.0)
  where
    by_case : (b : Bool) → length (cond b parts (p ∷ parts)) ≤ suc (length parts)
    by_case true = omega arith
    by_case false = omega arith

behind-first : (p : TermId × ℤ) (parts : List (TermId × ℤ)) → length (behind (p ∷ parts) p.0) ≡ length parts
behind-first p parts = ap (λ b. length (cond b parts (p ∷ parts))) (same-self p.0.0)

pub front-fits : (low : ℕ) (parts : List (TermId × ℤ)) (t : TermId) → ArePartsFrom low parts → fits (number_in_front parts t) ≡ true
front-fits low [] t h = refl
front-fits low (p ∷ parts) t h = by_case (nat_eq p.0.0 t.0)
  where
    by_case : (b : Bool) → fits (cond b p.1 (pos 0)) ≡ true
    by_case true = h.0.fits
    by_case false = refl

-- ---- the least id of both

record IsLeast (low : ℕ) (left right : List (TermId × ℤ)) (t : TermId) : Type 0 where
  above : low ≤ t.0
  left_from : ArePartsFrom t.0 left
  right_from : ArePartsFrom t.0 right
  less : length (behind left t) + length (behind right t) < length left + length right

least-is : (low : ℕ) (left right : List (TermId × ℤ)) (t : TermId) → least_id left right ≡ Some t → ArePartsFrom low left → ArePartsFrom low right → IsLeast low left right t
least-is low [] [] t e h k = absurd (cc)
least-is low [] (q ∷ right) t e h k = subst (IsLeast low [] (q ∷ right)) (same_Some q.0 t e) (record {
  above = k.0.order;
  left_from = tt;
  right_from = from-first low q.0.0 q right k (omega arith);
  less = let l = behind-first q right in omega (arith, l);
})
least-is low (p ∷ left) [] t e h k = subst (IsLeast low (p ∷ left) []) (same_Some p.0 t e) (record {
  above = h.0.order;
  left_from = from-first low p.0.0 p left h (omega arith);
  right_from = tt;
  less = let l = behind-first p left in omega (arith, l);
})
least-is low (p ∷ left) (q ∷ right) t e h k = subst (IsLeast low (p ∷ left) (q ∷ right)) (same_Some (lesser_id p.0 (q ∷ right)) t e) (by_case (nat_lt q.0.0 p.0.0) refl)
  where
    before : (n m : ℕ) → nat_lt n m ≡ true → n ≤ m
    before n m e = grind (arith, nat_tests)

    not_before : (n m : ℕ) → nat_lt n m ≡ false → m ≤ n
    not_before n m e = grind (arith, nat_tests)

    by_case : (b : Bool) → nat_lt q.0.0 p.0.0 ≡ b → IsLeast low (p ∷ left) (q ∷ right) (cond b q.0 p.0)
    by_case true f = record {
      above = k.0.order;
      left_from = from-first low q.0.0 p left h (before q.0.0 p.0.0 f);
      right_from = from-first low q.0.0 q right k (omega arith);
      less = let l = behind-first q right in let m = behind-length (p ∷ left) q.0 in omega (arith, l, m);
    }
    by_case false f = record {
      above = h.0.order;
      left_from = from-first low p.0.0 p left h (omega arith);
      right_from = from-first low p.0.0 q right k (not_before q.0.0 p.0.0 f);
      less = let l = behind-first p left in let m = behind-length (q ∷ right) p.0 in omega (arith, l, m);
    }

-- ---- sums

-- the sums so far, and what of both is still to come
pub record Summing (left right out l r : List (TermId × ℤ)) : Type 0 where
  pub low : ℕ
  pub kept : ArePartsFrom 0 out
  pub under : AreUnder low out
  pub left_from : ArePartsFrom low l
  pub right_from : ArePartsFrom low r
  pub same : (u : TermId) → coefficient_at out u +ℤ (coefficient_at l u +ℤ coefficient_at r u) ≡ coefficient_at left u +ℤ coefficient_at right u

pub summing_starts : (left right : List (TermId × ℤ)) → ArePartsFrom 0 left → ArePartsFrom 0 right → Summing left right [] left right
summing_starts left right h k = record {
  low = 0;
  kept = tt;
  under = tt;
  left_from = h;
  right_from = k;
  same = λ u. sym (zero-+ℤ (coefficient_at left u +ℤ coefficient_at right u));
}

module _ (left right out l r : List (TermId × ℤ)) (s : Summing left right out l r) where
  pub summing_less : (t : TermId) → least_id l r ≡ Some t → length (behind l t) + length (behind r t) < length l + length r
  summing_less t e = (least-is s.low l r t e s.left_from s.right_from).less

  summing_stepped : (t : TermId) (n : ℤ) (more : List (TermId × ℤ)) → least_id l r ≡ Some t → n ≡ number_in_front l t +ℤ number_in_front r t → fits n ≡ true → more ≡ with_number out t n
      → Summing left right more (behind l t) (behind r t)
  summing_stepped t n more e is f put = subst (λ (o : List (TermId × ℤ)). Summing left right o (behind l t) (behind r t)) (sym put) (record {
    low = suc t.0;
    kept = with_number-from 0 out t n s.kept under (omega arith) f;
    under = with_number-under (suc t.0) out t n (under-more s.low (suc t.0) out s.under (omega (arith, above))) (omega arith);
    left_from = behind-from l t least.left_from;
    right_from = behind-from r t least.right_from;
    same = λ u. together u (nat_eq t.0 u.0) refl;
  })
    where
      least : IsLeast s.low l r t
      least = least-is s.low l r t e s.left_from s.right_from

      above : s.low ≤ t.0
      above = least.above

      under : AreUnder t.0 out
      under = under-more s.low t.0 out s.under above

      taken : (o a b x y : ℤ) → o +ℤ (x +ℤ y) +ℤ (a +ℤ b) ≡ o +ℤ ((x +ℤ a) +ℤ (y +ℤ b))
      taken o a b x y = omega (arith, ints)

      together : (u : TermId) (b : Bool) → nat_eq t.0 u.0 ≡ b
          → coefficient_at (with_number out t n) u +ℤ (coefficient_at (behind l t) u +ℤ coefficient_at (behind r t) u) ≡ coefficient_at left u +ℤ coefficient_at right u
      together u b g =
          ap (λ z. z +ℤ (coefficient_at (behind l t) u +ℤ coefficient_at (behind r t) u)) (with_number-coefficient out t n u under)
          ∙ (regroup b g
          ∙ (ap (λ z. coefficient_at out u +ℤ z) (ap₂ ◌+ℤ◌ (sym (front-and-behind l t u least.left_from)) (sym (front-and-behind r t u least.right_from))) ∙ s.same u))
        where
          regroup : (b : Bool) → nat_eq t.0 u.0 ≡ b
              → coefficient_at out u +ℤ cond (nat_eq t.0 u.0) n (pos 0) +ℤ (coefficient_at (behind l t) u +ℤ coefficient_at (behind r t) u)
              ≡ coefficient_at out u +ℤ ((cond (nat_eq t.0 u.0) (number_in_front l t) (pos 0) +ℤ coefficient_at (behind l t) u) +ℤ (cond (nat_eq t.0 u.0) (number_in_front r t) (pos 0) +ℤ coefficient_at (behind r t) u))
          regroup b g =
              ap (λ z. coefficient_at out u +ℤ z +ℤ (coefficient_at (behind l t) u +ℤ coefficient_at (behind r t) u)) (split (nat_eq t.0 u.0))
              ∙ taken (coefficient_at out u) (coefficient_at (behind l t) u) (coefficient_at (behind r t) u) (cond (nat_eq t.0 u.0) (number_in_front l t) (pos 0)) (cond (nat_eq t.0 u.0) (number_in_front r t) (pos 0))
            where
              split : (b : Bool) → cond b n (pos 0) ≡ cond b (number_in_front l t) (pos 0) +ℤ cond b (number_in_front r t) (pos 0)
              split true = is
              split false = refl

  pub summing_step : (t : TermId) (n : ℤ) (more l' r' : List (TermId × ℤ)) → Some t ≡ least_id l r → n ≡ number_in_front l t +ℤ number_in_front r t → fits n ≡ true → more ≡ with_number out t (to_z w128 (of_z w128 n))
      → l' ≡ behind l t → r' ≡ behind r t → Summing left right more l' r'
  summing_step t n more l' r' e is f wide_put lb rb =
      let put : more ≡ with_number out t n = wide_put ∙ ap (with_number out t) (narrow n f) in
      subst (λ (ps : List (TermId × ℤ)). Summing left right more ps r') (sym lb) (subst (λ (ps : List (TermId × ℤ)). Summing left right more (behind l t) ps) (sym rb) (summing_stepped t n more (sym e) is f put))

  pub left-narrow : (t : TermId) (x : ℤ) → x ≡ number_in_front l t → to_z w128 (of_z w128 x) ≡ number_in_front l t
  left-narrow t x e = narrow x (ap fits e ∙ front-fits s.low l t s.left_from) ∙ e

  pub right-narrow : (t : TermId) (x : ℤ) → x ≡ number_in_front r t → to_z w128 (of_z w128 x) ≡ number_in_front r t
  right-narrow t x e = narrow x (ap fits e ∙ front-fits s.low r t s.right_from) ∙ e

  pub summing_wide : (t : TermId) (x y : ℤ) → Some t ≡ least_id l r → x ≡ number_in_front l t → y ≡ number_in_front r t → fits (x +ℤ y) ≡ false → IsWideAt (λ u. coefficient_at left u +ℤ coefficient_at right u)
  summing_wide t x y e xe ye f = record { not_all = λ h. false≢true (sym f ∙ (ap fits (ap₂ ◌+ℤ◌ xe ye ∙ here) ∙ h t)) }
    where
      least : IsLeast s.low l r t
      least = least-is s.low l r t (sym e) s.left_from s.right_from

      alone : (parts : List (TermId × ℤ)) → ArePartsFrom t.0 parts → number_in_front parts t ≡ coefficient_at parts t
      alone parts k =
          +ℤ-zero (number_in_front parts t)
          ∙ (ap (λ z. number_in_front parts t +ℤ z) (sym (not-from (suc t.0) (behind parts t) t (behind-from parts t k) (omega arith)))
          ∙ (ap (λ b. cond b (number_in_front parts t) (pos 0) +ℤ coefficient_at (behind parts t) t) (sym (same-self t.0)) ∙ sym (front-and-behind parts t t k)))

      here : number_in_front l t +ℤ number_in_front r t ≡ coefficient_at left t +ℤ coefficient_at right t
      here =
          ap₂ ◌+ℤ◌ (alone l least.left_from) (alone r least.right_from)
          ∙ (zero-+ℤ (coefficient_at l t +ℤ coefficient_at r t)
          ∙ (ap (λ z. z +ℤ (coefficient_at l t +ℤ coefficient_at r t)) (sym (not-under s.low out t s.under least.above)) ∙ s.same t))

pub summing_ends : (left right out l r : List (TermId × ℤ)) → Summing left right out l r → least_id l r ≡ None → AreSummed left right out
summing_ends left right out [] [] s e = record { kept = s.kept; same = λ u. +ℤ-zero (coefficient_at out u) ∙ s.same u }
summing_ends left right out [] (q ∷ r) s e = absurd (cc)
summing_ends left right out (p ∷ l) r s e = absurd (cc)

-- ---- multiples

-- the multiples so far, and what is still to come
pub record Scaling (z : ℤ) (from out rest : List (TermId × ℤ)) : Type 0 where
  pub low : ℕ
  pub kept : ArePartsFrom 0 out
  pub under : AreUnder low out
  pub rest_from : ArePartsFrom low rest
  pub same : (u : TermId) → coefficient_at out u +ℤ z *ℤ coefficient_at rest u ≡ z *ℤ coefficient_at from u

pub scaling_starts : (z : ℤ) (from : List (TermId × ℤ)) → ArePartsFrom 0 from → Scaling z from [] from
scaling_starts z from h = record {
  low = 0;
  kept = tt;
  under = tt;
  rest_from = h;
  same = λ u. sym (zero-+ℤ (z *ℤ coefficient_at from u));
}

module _ (z : ℤ) (from out rest : List (TermId × ℤ)) (p : TermId × ℤ) (s : Scaling z from out (p ∷ rest)) where
  scaling_under : AreUnder p.0.0 out
  scaling_under = under-more s.low p.0.0 out s.under s.rest_from.0.order

  pub scaling_step : (n : ℤ) (more : List (TermId × ℤ)) → n ≡ z *ℤ p.1 → fits n ≡ true → more ≡ with_number out p.0 n → Scaling z from more rest
  scaling_step n more is f put = subst (λ (o : List (TermId × ℤ)). Scaling z from o rest) (sym put) (record {
    low = suc p.0.0;
    kept = with_number-from 0 out p.0 n s.kept scaling_under (omega arith) f;
    under = with_number-under (suc p.0.0) out p.0 n (under-more p.0.0 (suc p.0.0) out scaling_under (omega arith)) (omega arith);
    rest_from = s.rest_from.1;
    same = λ u. ap (λ m. m +ℤ z *ℤ coefficient_at rest u) (with_number-coefficient out p.0 n u scaling_under) ∙ (together u (nat_eq p.0.0 u.0) refl ∙ s.same u);
  })
    where
      times_zero : (a : ℤ) → pos 0 ≡ a *ℤ pos 0
      times_zero a = omega (arith, ints)

      together : (u : TermId) (b : Bool) → nat_eq p.0.0 u.0 ≡ b
          → coefficient_at out u +ℤ cond b n (pos 0) +ℤ z *ℤ coefficient_at rest u ≡ coefficient_at out u +ℤ z *ℤ cond b p.1 (coefficient_at rest u)
      together u true e =
          let same : p.0.0 ≡ u.0 = eqb-true p.0.0 u.0 e in
          let gone : coefficient_at rest u ≡ pos 0 = not-from (suc p.0.0) rest u s.rest_from.1 (omega (arith, same)) in
          ap (λ m. coefficient_at out u +ℤ n +ℤ z *ℤ m) gone ∙ (ap (λ m. coefficient_at out u +ℤ n +ℤ m) (sym (times_zero z)) ∙ (sym (+ℤ-zero (coefficient_at out u +ℤ n)) ∙ ap (λ m. coefficient_at out u +ℤ m) is))
      together u false e = ap (λ m. m +ℤ z *ℤ coefficient_at rest u) (sym (+ℤ-zero (coefficient_at out u)))

  pub scaling_wide : fits (z *ℤ p.1) ≡ false → IsWideAt (λ u. z *ℤ coefficient_at from u)
  scaling_wide f = record { not_all = λ h. false≢true (sym f ∙ (ap fits here ∙ h p.0)) }
    where
      here : z *ℤ p.1 ≡ z *ℤ coefficient_at from p.0
      here =
          ap (λ b. z *ℤ cond b p.1 (coefficient_at rest p.0)) (sym (same-self p.0.0))
          ∙ (zero-+ℤ (z *ℤ coefficient_at (p ∷ rest) p.0)
          ∙ (ap (λ m. m +ℤ z *ℤ coefficient_at (p ∷ rest) p.0) (sym (not-under p.0.0 out p.0 scaling_under (omega arith))) ∙ s.same p.0))

pub scaling_ends : (z : ℤ) (from out : List (TermId × ℤ)) → Scaling z from out [] → AreScaled z from out
scaling_ends z from out s = record {
  kept = s.kept;
  same = λ u. ends z (coefficient_at out u) ∙ s.same u;
}
  where
    ends : (z a : ℤ) → a ≡ a +ℤ z *ℤ pos 0
    ends z a = omega (arith, ints)

-- ---- turns of the loop over a list

module _ (z : ℤ) (from out : List (TermId × ℤ)) (i : ℕ) (d : TermId × ℤ) (below : i < length from) (s : Scaling z from out (drop i from)) where
  scaling_here : Scaling z from out (get_or from i d ∷ drop (i + 1) from)
  scaling_here = subst (λ (ps : List (TermId × ℤ)). Scaling z from out ps) (drop_more from i d below) s

  pub part-narrow : to_z w128 (of_z w128 (get_or from i d).1) ≡ (get_or from i d).1
  part-narrow = narrow (get_or from i d).1 scaling_here.rest_from.0.fits

  pub scaling_turn : (x n : ℤ) (more : List (TermId × ℤ)) → x ≡ (get_or from i d).1 → n ≡ z *ℤ x → fits (z *ℤ x) ≡ true
      → more ≡ with_number out (get_or from i d).0 (to_z w128 (of_z w128 n)) → Scaling z from more (drop (i + 1) from)
  scaling_turn x n more xe is f put =
      let fit : fits n ≡ true = ap fits is ∙ f in
      scaling_step z from out (drop (i + 1) from) (get_or from i d) scaling_here n more (is ∙ ap (λ y. z *ℤ y) xe) fit (put ∙ ap (with_number out (get_or from i d).0) (narrow n fit))

  pub scaling_turn_wide : (y x : ℤ) → z ≡ y → x ≡ (get_or from i d).1 → fits (z *ℤ x) ≡ false → IsWideAt (λ u. y *ℤ coefficient_at from u)
  scaling_turn_wide y x e xe f =
      subst (λ (m : ℤ). IsWideAt (λ u. m *ℤ coefficient_at from u)) e (scaling_wide z from out (drop (i + 1) from) (get_or from i d) scaling_here (ap (λ m. fits (z *ℤ m)) (sym xe) ∙ f))

pub scaling_done : (z y : ℤ) (from out : List (TermId × ℤ)) (i : ℕ) → z ≡ y → length from ≤ i → Scaling z from out (drop i from) → AreScaled y from out
scaling_done z y from out i e h s =
    subst (λ (m : ℤ). AreScaled m from out) e (scaling_ends z from out (subst (λ (ps : List (TermId × ℤ)). Scaling z from out ps) (drop_all i from h) s))

-- ---- forms

pub wide_parts : (z y : ℤ) (from : List (TermId × ℤ)) (f : IdForm) (o : Option (List (TermId × ℤ))) → ScaledParts y from o → o ≡ None → y ≡ z → from ≡ f.parts → IsWideMultiple z f
wide_parts z y from f None w e g h = record { not_all = λ k l. w.not_all (λ t. (λ i. fits (g i *ℤ coefficient_at (h i) t)) ∙ k t) }
wide_parts z y from f (Some parts) w e g h = absurd (cc)

pub wide_sum_parts : (left right : List (TermId × ℤ)) (f g : IdForm) (o : Option (List (TermId × ℤ))) → SummedParts left right o → o ≡ None → left ≡ f.parts → right ≡ g.parts → IsWideSum f g
wide_sum_parts left right f g None w e h k =
    record { not_all = λ l m. w.not_all (λ t. (λ i. fits (coefficient_at (h i) t +ℤ coefficient_at (k i) t)) ∙ l t) }
wide_sum_parts left right f g (Some parts) w e h k = absurd (cc)

-- what fits still does with the other sign
negated-fits : (z : ℤ) → fits z ≡ true → fits (negsuc 0 *ℤ z) ≡ true
negated-fits (pos zero) h = refl
negated-fits (pos (suc n)) h = ap fits (turned n) ∙ h
  where
    turned : (n : ℕ) → negsuc 0 *ℤ pos (suc n) ≡ negsuc n
    turned n = omega (arith, ints)
negated-fits (negsuc n) h = ap fits (turned n) ∙ h
  where
    turned : (n : ℕ) → negsuc 0 *ℤ negsuc n ≡ pos (suc n)
    turned n = omega (arith, ints)

pub coefficients-fit : (low : ℕ) (parts : List (TermId × ℤ)) → ArePartsFrom low parts → (t : TermId) → fits (coefficient_at parts t) ≡ true
coefficients-fit low [] h t = refl
coefficients-fit low (p ∷ parts) h t = by_case (nat_eq p.0.0 t.0) (coefficients-fit (suc p.0.0) parts h.1 t)
  where
    by_case : (b : Bool) → fits (coefficient_at parts t) ≡ true → fits (cond b p.1 (coefficient_at parts t)) ≡ true
    by_case true later = h.0.fits
    by_case false later = later

pub never-wide : (f : IdForm) (o : Option IdForm) → IsIdForm f → IsMultiple (negsuc 0) f o → o ≡ None → ⊥
never-wide f None k w e = w.not_all (λ t. negated-fits (coefficient_at f.parts t) (coefficients-fit 0 f.parts k.parts t)) (negated-fits f.constant k.constant)
never-wide f (Some g) k w e = absurd (cc)
