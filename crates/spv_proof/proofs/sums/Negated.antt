-- Parts with their numbers negated: a difference is a sum with these.
use Rattle.std.proofs.Common.{◌≡◌, ℕ, zero, suc, ◌+◌, ◌<◌, Bool, true, false, cond, List, [], ◌∷◌, length, ℤ, pos, negsuc, ◌+ℤ◌, ◌*ℤ◌, ◌-ℤ◌, nat_eq, nat_lt, ◌^◌, refl, sym, ap, ◌∙◌, subst, Option, Some, None, arith}
use mathlib.Core.Path.{ap₂}
use mir.Val.{to_z, of_z}
use mir.Syntax.{w128}
use Rattle.std.specs.Int.RustNames.{int_lt}
use Rattle.std.proofs.lemmas.Bool.Decides.{nat_tests}
use Rattle.std.proofs.lemmas.Int.{ints}
use Rattle.std.proofs.lemmas.Bool.{false≢true}
use Rattle.std.proofs.lemmas.Option.{same_Some}
use Rattle.spv_logic.specs.declared.conditions.TermId.{TermId}
use Rattle.spv_frac.specs.Range.{fits}
use Rattle.spv_atoms.specs.Linear.{IdForm, IsIdForm, coefficient_at, ArePartsFrom}
use Rattle.spv_atoms.specs.Sums.{number_in_front, behind, lesser_id, least_id, with_number, IsWideAt, SummedParts}
use Rattle.spv_atoms.proofs.Sums.{Summing, summing_less, summing_step, summing_wide, narrow, front-fits}
use Rattle.spv_proof.specs.sums.Differences.{more, IsConstant, negated_parts, IsDifferenceWith, IsWideWith}

-- ---- numbers

-- what fits still does with the other sign
pub negated-fits : (z : ℤ) → fits z ≡ true → fits (negsuc 0 *ℤ z) ≡ true
negated-fits (pos zero) h = refl
negated-fits (pos (suc n)) h = ap fits (turned n) ∙ h
  where
    turned : (n : ℕ) → negsuc 0 *ℤ pos (suc n) ≡ negsuc n
    turned n = omega (arith, ints)
negated-fits (negsuc n) h = ap fits (turned n) ∙ h
  where
    turned : (n : ℕ) → negsuc 0 *ℤ negsuc n ≡ pos (suc n)
    turned n = omega (arith, ints)

not-zero : (z : ℤ) → negsuc 0 *ℤ z ≡ pos 0 → z ≡ pos 0
not-zero z e = omega (arith, ints)

times_zero : pos 0 ≡ negsuc 0 *ℤ pos 0
times_zero = refl

-- a number with the other sign, as it is computed
pub other_sign : (r : ℤ) → fits r ≡ true → to_z w128 (of_z w128 (pos 0 -ℤ to_z w128 (of_z w128 r))) ≡ negsuc 0 *ℤ r
other_sign r h =
    let same : pos 0 -ℤ to_z w128 (of_z w128 r) ≡ negsuc 0 *ℤ r = ap (λ z. pos 0 -ℤ z) (narrow r h) ∙ turned r in
    ap (λ z. to_z w128 (of_z w128 z)) same ∙ narrow (negsuc 0 *ℤ r) (negated-fits r h)
  where
    turned : (r : ℤ) → pos 0 -ℤ r ≡ negsuc 0 *ℤ r
    turned r = omega (arith, ints)

-- a difference that is made with the other sign
pub minus_made : (l r n x y : ℤ) → x ≡ l → y ≡ negsuc 0 *ℤ r → n ≡ x +ℤ y → fits (x +ℤ y) ≡ true → IsConstant (l +ℤ negsuc 0 *ℤ r) (Some (to_z w128 (of_z w128 n)))
minus_made l r n x y xe ye e f =
    let same : x +ℤ y ≡ l +ℤ negsuc 0 *ℤ r = ap₂ ◌+ℤ◌ xe ye in
    (narrow n (ap fits e ∙ f) ∙ (e ∙ same), ap fits (sym same) ∙ f)

-- 1 more than a difference is the difference from 1 less
pub less_constant : (b : Bool) (l r x y : ℤ) (o : Option ℤ) → b ≡ true → x ≡ l → y ≡ r -ℤ pos 1 → IsConstant (x +ℤ negsuc 0 *ℤ y) o → IsConstant (l +ℤ negsuc 0 *ℤ r +ℤ more b) o
less_constant b l r x y o above xe ye h =
    subst (λ z. IsConstant z o) (ap₂ (λ v w. v +ℤ negsuc 0 *ℤ w) xe ye ∙ (moved l r ∙ ap (λ c. l +ℤ negsuc 0 *ℤ r +ℤ more c) (sym above))) h
  where
    moved : (l r : ℤ) → l +ℤ negsuc 0 *ℤ (r -ℤ pos 1) ≡ l +ℤ negsuc 0 *ℤ r +ℤ pos 1
    moved l r = omega (arith, ints)

less-fits : (r : ℤ) → fits r ≡ true → int_lt (pos 0) r ≡ true → fits (r -ℤ pos 1) ≡ true
less-fits (pos zero) h k = absurd (false≢true k)
less-fits (pos (suc n)) h k = ap fits (one_less n) ∙ below n (2 ^ 127) h
  where
    one_less : (n : ℕ) → pos (suc n) -ℤ pos 1 ≡ pos n
    one_less n = omega (arith, ints)

    below : (n m : ℕ) → nat_lt (suc n) m ≡ true → nat_lt n m ≡ true
    below n m e = grind (arith, nat_tests)
less-fits (negsuc n) h k = absurd (false≢true k)

-- 1 less than a number above 0, as it is computed
pub one_less : (r : ℤ) → fits r ≡ true → int_lt (pos 0) (to_z w128 (of_z w128 r)) ≡ true → to_z w128 (of_z w128 (to_z w128 (of_z w128 r) -ℤ pos 1)) ≡ r -ℤ pos 1
one_less r h k =
    ap (λ z. to_z w128 (of_z w128 (z -ℤ pos 1))) (narrow r h) ∙ narrow (r -ℤ pos 1) (less-fits r h (ap (int_lt (pos 0)) (sym (narrow r h)) ∙ k))

-- ---- parts

pub negated-from : (low : ℕ) (parts : List (TermId × ℤ)) → ArePartsFrom low parts → ArePartsFrom low (negated_parts parts)
negated-from low [] h = tt
negated-from low (p ∷ parts) h =
    (record { order = h.0.order; nonzero = λ e. h.0.nonzero (not-zero p.1 e); fits = negated-fits p.1 h.0.fits }, negated-from (suc p.0.0) parts h.1)

pub negated-coefficient : (parts : List (TermId × ℤ)) (t : TermId) → coefficient_at (negated_parts parts) t ≡ negsuc 0 *ℤ coefficient_at parts t
negated-coefficient [] t = times_zero
negated-coefficient (p ∷ parts) t = by_case (nat_eq p.0.0 t.0) (negated-coefficient parts t)
  where
    by_case : (b : Bool) → coefficient_at (negated_parts parts) t ≡ negsuc 0 *ℤ coefficient_at parts t
        → cond b (negsuc 0 *ℤ p.1) (coefficient_at (negated_parts parts) t) ≡ negsuc 0 *ℤ cond b p.1 (coefficient_at parts t)
    by_case true later = refl
    by_case false later = later

negated-front : (parts : List (TermId × ℤ)) (t : TermId) → number_in_front (negated_parts parts) t ≡ negsuc 0 *ℤ number_in_front parts t
negated-front [] t = times_zero
negated-front (p ∷ parts) t = by_case (nat_eq p.0.0 t.0)
  where
    by_case : (b : Bool) → cond b (negsuc 0 *ℤ p.1) (pos 0) ≡ negsuc 0 *ℤ cond b p.1 (pos 0)
    by_case true = refl
    by_case false = times_zero

pub negated-behind : (parts : List (TermId × ℤ)) (t : TermId) → behind (negated_parts parts) t ≡ negated_parts (behind parts t)
negated-behind [] t = refl
negated-behind (p ∷ parts) t = by_case (nat_eq p.0.0 t.0)
  where
    by_case : (b : Bool) → cond b (negated_parts parts) ((p.0, negsuc 0 *ℤ p.1) ∷ negated_parts parts) ≡ negated_parts (cond b parts (p ∷ parts))
    by_case true = refl
    by_case false = refl

lesser-negated : (t : TermId) (right : List (TermId × ℤ)) → lesser_id t (negated_parts right) ≡ lesser_id t right
lesser-negated t [] = refl
lesser-negated t (q ∷ right) = refl

pub least-negated : (left right : List (TermId × ℤ)) → least_id left (negated_parts right) ≡ least_id left right
least-negated [] [] = refl
least-negated [] (q ∷ right) = refl
least-negated (p ∷ left) right = ap Some (lesser-negated p.0 right)

length-negated : (parts : List (TermId × ℤ)) → length (negated_parts parts) ≡ length parts
length-negated [] = refl
length-negated (p ∷ parts) = ap suc (length-negated parts)

-- ---- one turn

module _ (left right out l r : List (TermId × ℤ)) (s : Summing left (negated_parts right) out l (negated_parts r)) where
  pub differing_less : (t : TermId) (l' r' : List (TermId × ℤ)) → Some t ≡ least_id l r → l' ≡ behind l t → r' ≡ behind r t → length l' + length r' < length l + length r
  differing_less t l' r' e lb rb =
      let less = summing_less left (negated_parts right) out l (negated_parts r) s t (least-negated l r ∙ sym e) in
      let all : length (negated_parts r) ≡ length r = length-negated r in
      let rest : length (behind (negated_parts r) t) ≡ length r' = ap length (negated-behind r t) ∙ (length-negated (behind r t) ∙ ap length (sym rb)) in
      let first : length l' ≡ length (behind l t) = ap length lb in
      omega (arith, less, all, rest, first)

  right_from : ArePartsFrom s.low r
  right_from = un-negated s.low r s.right_from
    where
      back : (z : ℤ) → negsuc 0 *ℤ (negsuc 0 *ℤ z) ≡ z
      back z = omega (arith, ints)

      un-negated : (low : ℕ) (parts : List (TermId × ℤ)) → ArePartsFrom low (negated_parts parts) → ArePartsFrom low parts
      un-negated low [] h = tt
      un-negated low (p ∷ parts) h = (
        record { order = h.0.order; nonzero = λ e. h.0.nonzero (ap (λ z. negsuc 0 *ℤ z) e ∙ sym times_zero); fits = ap fits (sym (back p.1)) ∙ negated-fits (negsuc 0 *ℤ p.1) h.0.fits },
        un-negated (suc p.0.0) parts h.1,
      )

  pub right-fits : (t : TermId) (x : ℤ) → x ≡ number_in_front r t → fits x ≡ true
  right-fits t x e = ap fits e ∙ front-fits s.low r t right_from

  pub right_is : (t : TermId) (x : ℤ) → x ≡ number_in_front r t → to_z w128 (of_z w128 x) ≡ number_in_front r t
  right_is t x e = narrow x (right-fits t x e) ∙ e

  pub differing_step : (t : TermId) (x y n : ℤ) (new l' r' : List (TermId × ℤ)) → Some t ≡ least_id l r → x ≡ number_in_front l t → y ≡ number_in_front r t → IsConstant (x +ℤ negsuc 0 *ℤ y) (Some n)
      → new ≡ with_number out t (to_z w128 (of_z w128 n)) → l' ≡ behind l t → r' ≡ behind r t → Summing left (negated_parts right) new l' (negated_parts r')
  differing_step t x y n new l' r' e xe ye is put lb rb =
      summing_step left (negated_parts right) out l (negated_parts r) s t n new l' (negated_parts r') (e ∙ sym (least-negated l r))
      (is.0 ∙ (ap₂ (λ a b. a +ℤ negsuc 0 *ℤ b) xe ye ∙ ap (λ z. number_in_front l t +ℤ z) (sym (negated-front r t))))
      (ap fits is.0 ∙ is.1) put lb (ap negated_parts rb ∙ sym (negated-behind r t))

  pub differing_wide : (t : TermId) (x y : ℤ) → Some t ≡ least_id l r → x ≡ number_in_front l t → y ≡ number_in_front r t → fits (x +ℤ negsuc 0 *ℤ y) ≡ false
      → IsWideAt (λ u. coefficient_at left u +ℤ coefficient_at (negated_parts right) u)
  differing_wide t x y e xe ye f =
      summing_wide left (negated_parts right) out l (negated_parts r) s t x (negsuc 0 *ℤ y) (e ∙ sym (least-negated l r)) xe (ap (λ z. negsuc 0 *ℤ z) ye ∙ sym (negated-front r t)) f

-- ---- forms

-- a constant of numbers that are handed on
pub handed_on : (b : Bool) (f g : IdForm) (x y : ℤ) (o : Option ℤ) → IsIdForm f → IsIdForm g → x ≡ f.constant → y ≡ g.constant
    → IsConstant (to_z w128 (of_z w128 x) +ℤ negsuc 0 *ℤ to_z w128 (of_z w128 y) +ℤ more b) o → IsConstant (x +ℤ negsuc 0 *ℤ y +ℤ more b) o
handed_on b f g x y o k l xe ye h =
    subst (λ z. IsConstant z o) (ap₂ (λ v w. v +ℤ negsuc 0 *ℤ w +ℤ more b) (narrow x (ap fits xe ∙ k.constant)) (narrow y (ap fits ye ∙ l.constant))) h

-- what the parts and the constant make
pub differed : (b : Bool) (f g : IdForm) (left right parts : List (TermId × ℤ)) (o : Option (List (TermId × ℤ))) (x y n : ℤ) → left ≡ f.parts → right ≡ g.parts → x ≡ f.constant → y ≡ g.constant
    → SummedParts left (negated_parts right) o → o ≡ Some parts → IsConstant (x +ℤ negsuc 0 *ℤ y +ℤ more b) (Some n)
    → IsDifferenceWith b f g (record { parts = parts; constant = to_z w128 (of_z w128 n) })
differed b f g left right parts None x y n lp rp xe ye made found is = absurd (cc)
differed b f g left right parts (Some found_parts) x y n lp rp xe ye made found is =
    let sum = subst (λ ps. SummedParts left (negated_parts right) (Some ps)) (same_Some found_parts parts found) made in
    record {
      parts = λ t. sum.same t ∙ ap₂ ◌+ℤ◌ (ap (λ ps. coefficient_at ps t) lp) (negated-coefficient right t ∙ ap (λ ps. negsuc 0 *ℤ coefficient_at ps t) rp);
      constant = narrow n (ap fits is.0 ∙ is.1) ∙ (is.0 ∙ ap₂ (λ v w. v +ℤ negsuc 0 *ℤ w +ℤ more b) xe ye);
    }

pub wide_parts : (b : Bool) (f g : IdForm) (left right : List (TermId × ℤ)) (o : Option (List (TermId × ℤ))) → left ≡ f.parts → right ≡ g.parts → SummedParts left (negated_parts right) o → o ≡ None
    → IsWideWith b f g
wide_parts b f g left right (Some parts) lp rp made found = absurd (cc)
wide_parts b f g left right None lp rp wide found = record {
  not_all = λ h k. wide.not_all (λ t. ap fits (ap₂ ◌+ℤ◌ (ap (λ ps. coefficient_at ps t) lp) (negated-coefficient right t ∙ ap (λ ps. negsuc 0 *ℤ coefficient_at ps t) rp)) ∙ h t);
}
