-- Numbers and fractions as they are read from bytes.
use Rattle.std.proofs.Common.{◌≡◌, ℕ, suc, ◌+◌, ◌*◌, ◌<◌, ◌≤◌, Bool, true, false, cond, if◌then◌else◌, Option, Some, None, List, [], ◌∷◌, length, take, drop, get_or, nat_lt, position, SomeIff, le_trans, lit≤, refl, sym, ap, subst, ◌∙◌, arith}
use Rattle.std.specs.Prelude.{nat_eq}
use Rattle.std.specs.Char.{digit_value}
use Rattle.std.specs.List.{position_or_len}
use Rattle.std.specs.Str.Parse.{digits_value}
use Rattle.std.proofs.lemmas.Bool.{le-ltb, ltb-true, ltb-false}
use Rattle.std.proofs.lemmas.Int.Digits.{digits_value_more}
use Rattle.std.proofs.lemmas.Str.Parse.{digits_value-take-le}
use Rattle.std.proofs.lemmas.List.{take_all}
use Rattle.std.proofs.Math.Nat.{suc-add}
use Rattle.std.proofs.Math.Numerals.{one-add}
use Rattle.spv_listing_values.specs.Reading.{below, front, denominator_of}

abbrev few : ℕ → ℕ → Option ℕ
few limit n = if nat_lt n limit then Some n else None

-- a number that is not below the limit
pub not_below : (limit : ℕ) (digits : List ℕ) → limit ≤ digits_value 10 digits → None ≡ below limit digits
not_below limit digits h = ap (λ (b : Bool). if b then Some (digits_value 10 digits) else None) (sym (le-ltb (digits_value 10 digits) limit h))

-- digits whose number is too large in front of others
pub too_many : (limit : ℕ) (digits : List ℕ) (i : ℕ) → i < length digits → limit ≤ digits_value 10 (take (i + 1) digits) → None ≡ below limit digits
too_many limit digits i h le =
    let most : digits_value 10 (take (i + 1) digits) ≤ digits_value 10 digits = digits_value-take-le 10 digits (i + 1) (lit≤ tt) in
    not_below limit digits (le_trans le most)

-- even without the next digit
pub too_many_tens : (limit : ℕ) (digits : List ℕ) (i value : ℕ) → i < length digits → value ≡ digits_value 10 (take i digits) → limit ≤ value * 10 → None ≡ below limit digits
too_many_tens limit digits i value h v le =
    let more : digits_value 10 (take (i + 1) digits) ≡ digits_value 10 (take i digits) * 10 + digit_value (get_or digits i 0) = digits_value_more 10 digits i h in
    too_many limit digits i h (omega (arith, more, v, le))

-- one digit more
pub more_digits : (digits : List ℕ) (i value product digit next : ℕ) → i < length digits → value ≡ digits_value 10 (take i digits) → product ≡ value * 10
    → digit ≡ digit_value (get_or digits i 0) → next ≡ product + digit → next ≡ digits_value 10 (take (i + 1) digits)
more_digits digits i value product digit next h v p d n =
    let more : digits_value 10 (take (i + 1) digits) ≡ digits_value 10 (take i digits) * 10 + digit_value (get_or digits i 0) = digits_value_more 10 digits i h in
    omega (arith, more, v, p, d, n)

-- a number that does not fit is not below a limit that fits
pub not_fitting : (limit n a b : ℕ) → limit ≤ a → a ≤ b → (n < b → ⊥) → limit ≤ n
not_fitting limit n a b h k never = by (nat_lt n b) refl
  where
    at_least : b ≤ n → limit ≤ n
    at_least le = omega (arith, h, k, le)

    by : (c : Bool) → nat_lt n b ≡ c → limit ≤ n
    by true e = absurd (never (ltb-true n b e))
    by false e = at_least (ltb-false n b e)

-- an answer that is there exactly where a number is below a limit
pub where_below : (r : Option ℕ) (limit n : ℕ) → r ≡ (if nat_lt n limit then Some n else None) → SomeIff r (n < limit) n
where_below r limit n e = subst (λ (o : Option ℕ). SomeIff o (n < limit) n) (sym e) (by (nat_lt n limit) refl)
  where
    by : (c : Bool) → nat_lt n limit ≡ c → SomeIff (if nat_lt n limit then Some n else None) (n < limit) n
    by true f = rw f (ltb-true n limit f, refl)
    by false f = rw f (λ less. too_low (ltb-false n limit f) less)
      where
        too_low : limit ≤ n → n < limit → ⊥
        too_low a b = omega (arith, a, b)

-- ---- the first stroke

abbrev strokes : List ℕ → ℕ
strokes text = position_or_len (λ b. nat_eq b 47) text

pub front_is : (text : List ℕ) → front text ≡ take (strokes text) text
front_is [] = refl
front_is (b ∷ text) = by (nat_eq b 47) refl (front_is text)
  where
    by : (c : Bool) → nat_eq b 47 ≡ c → front text ≡ take (strokes text) text → front (b ∷ text) ≡ take (strokes (b ∷ text)) (b ∷ text)
    by true e rest = rw e refl
    by false e rest = rw (e, one-add) (ap (λ (ts : List ℕ). b ∷ ts) rest)

-- how many bytes stand in front of it, where there is a byte before
behind_other : (b : ℕ) (text : List ℕ) → nat_eq b 47 ≡ false → strokes (b ∷ text) ≡ suc (strokes text)
behind_other b text e = rw (e, one-add) refl

at_first : (b : ℕ) (text : List ℕ) → nat_eq b 47 ≡ true → strokes (b ∷ text) ≡ 0
at_first b text e = rw e refl

denominator_behind : (text : List ℕ) → strokes text < length text → denominator_of text ≡ digits_value 10 (drop (strokes text + 1) text)
denominator_behind [] h = absurd (nothing_below (strokes []) h)
  where
    nothing_below : (n : ℕ) → n < 0 → ⊥
    nothing_below n h = omega (arith, h)
denominator_behind (b ∷ text) h = by (nat_eq b 47) refl (denominator_behind text)
  where
    fewer : strokes (b ∷ text) ≡ suc (strokes text) → strokes text < length text
    fewer k = omega (arith, h, k)

    by : (c : Bool) → nat_eq b 47 ≡ c → (strokes text < length text → denominator_of text ≡ digits_value 10 (drop (strokes text + 1) text))
        → denominator_of (b ∷ text) ≡ digits_value 10 (drop (strokes (b ∷ text) + 1) (b ∷ text))
    by true e rest = ap (λ (c : Bool). if c then digits_value 10 text else denominator_of text) e ∙ ap (λ (n : ℕ). digits_value 10 (drop (n + 1) (b ∷ text))) (sym (at_first b text e))
    by false e rest =
        let k = behind_other b text e in
        ap (λ (c : Bool). if c then digits_value 10 text else denominator_of text) e
        ∙ (rest (fewer k) ∙ (ap (λ (n : ℕ). digits_value 10 (drop n (b ∷ text))) (sym (suc-add (strokes text) 1)) ∙ ap (λ (n : ℕ). digits_value 10 (drop (n + 1) (b ∷ text))) (sym k)))

denominator_alone : (text : List ℕ) → length text ≤ strokes text → denominator_of text ≡ 1
denominator_alone [] h = refl
denominator_alone (b ∷ text) h = by (nat_eq b 47) refl (denominator_alone text)
  where
    no_stroke : strokes (b ∷ text) ≡ 0 → ⊥
    no_stroke k = omega (arith, h, k)

    fewer : strokes (b ∷ text) ≡ suc (strokes text) → length text ≤ strokes text
    fewer k = omega (arith, h, k)

    by : (c : Bool) → nat_eq b 47 ≡ c → (length text ≤ strokes text → denominator_of text ≡ 1) → denominator_of (b ∷ text) ≡ 1
    by true e rest = absurd (no_stroke (at_first b text e))
    by false e rest = ap (λ (c : Bool). if c then digits_value 10 text else denominator_of text) e ∙ rest (fewer (behind_other b text e))

abbrev place : List ℕ → Option ℕ
place text = position (λ b. nat_eq b 47) text

-- where a stroke was found
pub record IsStroke (text : List ℕ) (at : ℕ) : Type 0 where
  pub in_range : at < length text
  pub front_is : front text ≡ take at text
  pub denominator_is : denominator_of text ≡ digits_value 10 (drop (at + 1) text)

found : (b : Bool) (p at : ℕ) → Some at ≡ cond b (Some p) None → (b ≡ true) × (at ≡ p)
found true p at e = (refl, cc)
found false p at e = absurd cc

pub stroke_found : (text : List ℕ) (at : ℕ) → Some at ≡ place text → IsStroke text at
stroke_found text at e =
    let both = found (nat_lt (strokes text) (length text)) (strokes text) at e in
    record {
      in_range = subst (λ (n : ℕ). n < length text) (sym both.1) (ltb-true (strokes text) (length text) both.0);
      front_is = front_is text ∙ ap (λ (n : ℕ). take n text) (sym both.1);
      denominator_is = denominator_behind text (ltb-true (strokes text) (length text) both.0) ∙ ap (λ (n : ℕ). digits_value 10 (drop (n + 1) text)) (sym both.1);
    }

-- where none was found
pub record HasNoStroke (text : List ℕ) : Type 0 where
  pub front_is : front text ≡ text
  pub denominator_is : denominator_of text ≡ 1

missed : (b : Bool) (p : ℕ) → None ≡ cond b (Some p) None → b ≡ false
missed true p e = absurd cc
missed false p e = refl

pub no_stroke_found : (text : List ℕ) → None ≡ place text → HasNoStroke text
no_stroke_found text e =
    let none = missed (nat_lt (strokes text) (length text)) (strokes text) e in
    record {
      front_is = front_is text ∙ take_all (strokes text) text (ltb-false (strokes text) (length text) none);
      denominator_is = denominator_alone text (ltb-false (strokes text) (length text) none);
    }
