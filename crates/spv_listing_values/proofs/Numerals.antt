-- The words of numbers and fractions are read as these numbers.
use Rattle.std.proofs.Common.{◌≡◌, ℕ, suc, ◌^◌, ◌<◌, ◌≤◌, Bool, true, false, ◌&&◌, not, if◌then◌else◌, ℤ, pos, negsuc, List, [], ◌∷◌, ◌++◌, length, Some, None, refl, sym, ap, ◌∙◌, arith, lit≤}
use Rattle.std.specs.Prelude.{nat_eq, nat_lt, codes, unsigned_abs, neg_ℤ}
use Rattle.std.specs.Char.{digit_value, is_ascii_lowercase}
use Rattle.std.specs.Fmt.{decimal, signed_decimal}
use Rattle.std.specs.List.{AllByRecursion, list_all}
use Rattle.std.specs.Str.{bytes_eq}
use Rattle.std.specs.Str.Parse.{AllDigits, IsNumeral, digits_value}
use Rattle.std.proofs.lemmas.Bool.{false≢true, ltb-true, ne_eqb, eqb-true}
use Rattle.std.proofs.lemmas.Bool.Decides.{nat_tests}
use Rattle.std.proofs.lemmas.Fmt.{decimal_is_IsNumeral_wide}
use Rattle.std.proofs.lemmas.List.{append-nil}
use Rattle.std.proofs.lemmas.Str.Parse.{digit_from_value}
use Rattle.spv_logic.proofs.list.Tests.{left_true, right_true}
use Rattle.spv_whole.specs.Fraction.{Fraction}
use Rattle.spv_listing_values.specs.Lines.{number, denominator_bytes, fraction}
use Rattle.spv_listing_values.specs.Scanning.{class_of}
use Rattle.spv_listing_values.specs.Reading.{number_in, fact_in, whole_of, front, denominator_of, is_fraction, fraction_of, fraction_in, is_stroke}
use Rattle.spv_listing_values.specs.Forms.{is_plain_class, is_word_byte, is_word}

pub both_true : (a b : Bool) → a ≡ true → b ≡ true → (a && b) ≡ true
both_true true b h k = k
both_true false b h k = absurd (false≢true h)

chain : (n k m : ℕ) → n < k → k ≤ m → n < m
chain n k m h g = omega arith

-- ---- digits

not_small : (c : ℕ) → c ≤ 57 → not (is_ascii_lowercase c) ≡ true
not_small c h = grind (arith, nat_tests)

digit_plain : (c : ℕ) → digit_value c < 10 → is_word_byte c ≡ true
digit_plain c h =
    let r = digit_from_value c h in
    let a : nat_eq c 32 ≡ false = ne_eqb c 32 (λ e. omega (arith, r)) in
    let b : nat_eq c 40 ≡ false = ne_eqb c 40 (λ e. omega (arith, r)) in
    let d : nat_eq c 41 ≡ false = ne_eqb c 41 (λ e. omega (arith, r)) in
    let f : nat_eq c 10 ≡ false = ne_eqb c 10 (λ e. omega (arith, r)) in
    let same : is_plain_class (class_of c) ≡ true = rw (a, b, d, f) refl in
    both_true (is_plain_class (class_of c)) (not (is_ascii_lowercase c)) same (not_small c r.1)

digits_plain : (ds : List ℕ) → AllDigits 10 ds → list_all is_word_byte ds ≡ true
digits_plain [] h = refl
digits_plain (c ∷ ds) h = both_true (is_word_byte c) (list_all is_word_byte ds) (digit_plain c h.0) (digits_plain ds h.1)

digits_word : (ds : List ℕ) → 0 < length ds → AllDigits 10 ds → is_word ds ≡ true
digits_word [] some h = absurd (omega (arith, some))
digits_word (c ∷ ds) some h = digits_plain (c ∷ ds) h

word_append : (a b : List ℕ) → is_word a ≡ true → list_all is_word_byte b ≡ true → is_word (a ++ b) ≡ true
word_append [] b h k = absurd (false≢true h)
word_append (c ∷ a) b h k = plain_append (c ∷ a) h
  where
    plain_append : (a : List ℕ) → list_all is_word_byte a ≡ true → list_all is_word_byte (a ++ b) ≡ true
    plain_append [] h = k
    plain_append (c ∷ a) h = both_true (is_word_byte c) (list_all is_word_byte (a ++ b)) (left_true (is_word_byte c) (list_all is_word_byte a) h) (plain_append a (right_true (is_word_byte c) (list_all is_word_byte a) h))

-- no byte is a stroke
abbrev NoStroke : List ℕ → Type 0
NoStroke text = AllByRecursion (λ b. nat_eq b 47 ≡ false) text

digits_no_stroke : (ds : List ℕ) → AllDigits 10 ds → NoStroke ds
digits_no_stroke [] h = tt
digits_no_stroke (c ∷ ds) h = let r = digit_from_value c h.0 in (ne_eqb c 47 (λ e. omega (arith, r)), digits_no_stroke ds h.1)

-- ---- numbers

pub record IsWide (n : ℕ) : Type 0 where
  pub wide : n < 10 ^ 64

pub wide_8 : (n : ℕ) → nat_lt n (2 ^ 8) ≡ true → IsWide n
wide_8 n h = record { wide = chain n (2 ^ 8) (10 ^ 64) (ltb-true n (2 ^ 8) h) (lit≤ tt) }

pub wide_32 : (n : ℕ) → nat_lt n (2 ^ 32) ≡ true → IsWide n
wide_32 n h = record { wide = chain n (2 ^ 32) (10 ^ 64) (ltb-true n (2 ^ 32) h) (lit≤ tt) }

pub wide_64 : (n : ℕ) → nat_lt n (2 ^ 64) ≡ true → IsWide n
wide_64 n h = record { wide = chain n (2 ^ 64) (10 ^ 64) (ltb-true n (2 ^ 64) h) (lit≤ tt) }

pub wide_127 : (n : ℕ) → nat_lt n (2 ^ 127) ≡ true → IsWide n
wide_127 n h = record { wide = chain n (2 ^ 127) (10 ^ 64) (ltb-true n (2 ^ 127) h) (lit≤ tt) }

numeral_of : (n : ℕ) → IsWide n → IsNumeral 10 (decimal n) × (digits_value 10 (decimal n) ≡ n)
numeral_of n w = decimal_is_IsNumeral_wide n w.wide

pub number_word : (n : ℕ) → IsWide n → is_word (decimal n) ≡ true
number_word n w = digits_word (decimal n) (numeral_of n w).0.0 (numeral_of n w).0.1

chosen : (limit m n : ℕ) → m ≡ n → nat_lt n limit ≡ true → (if nat_lt m limit then Some m else None) ≡ Some n
chosen limit m n e h = ap (λ (k : ℕ). if nat_lt k limit then Some k else None) e ∙ ap (λ (b : Bool). if b then Some n else None) h

pub number_read : (limit n : ℕ) → IsWide n → nat_lt n limit ≡ true → number_in limit (number n) ≡ Some n
number_read limit n w h = chosen limit (digits_value 10 (decimal n)) n (numeral_of n w).1 h

pub fact_read : (n : ℕ) → nat_lt n (2 ^ 32) ≡ true → fact_in (number n) ≡ Some n
fact_read n h = number_read (2 ^ 32) n (wide_32 n h) h

-- ---- whole numbers

whole_digits : (ds : List ℕ) → 0 < length ds → AllDigits 10 ds → whole_of ds ≡ pos (digits_value 10 ds)
whole_digits [] some h = absurd (omega (arith, some))
whole_digits (c ∷ ds) some h =
    let r = digit_from_value c h.0 in
    let plus : nat_eq c 45 ≡ false = ne_eqb c 45 (λ e. omega (arith, r)) in
    ap (λ (b : Bool). if b then neg_ℤ (pos (digits_value 10 ds)) else pos (digits_value 10 (c ∷ ds))) plus

whole_read : (z : ℤ) → IsWide (unsigned_abs z) → whole_of (signed_decimal z) ≡ z
whole_read (pos n) w = whole_digits (decimal n) (numeral_of n w).0.0 (numeral_of n w).0.1 ∙ ap (λ (m : ℕ). pos m) (numeral_of n w).1
whole_read (negsuc n) w = ap (λ (m : ℕ). neg_ℤ (pos m)) (numeral_of (suc n) w).1

signed_word : (z : ℤ) → IsWide (unsigned_abs z) → is_word (signed_decimal z) ≡ true
signed_word (pos n) w = number_word n w
signed_word (negsuc n) w = digits_plain (decimal (suc n)) (numeral_of (suc n) w).0.1

signed_no_stroke : (z : ℤ) → IsWide (unsigned_abs z) → NoStroke (signed_decimal z)
signed_no_stroke (pos n) w = digits_no_stroke (decimal n) (numeral_of n w).0.1
signed_no_stroke (negsuc n) w = (refl, digits_no_stroke (decimal (suc n)) (numeral_of (suc n) w).0.1)

-- ---- fractions

front_whole : (text : List ℕ) → NoStroke text → front text ≡ text
front_whole [] h = refl
front_whole (b ∷ text) h = ap (λ (t : Bool). if t then [] else b ∷ front text) h.0 ∙ ap (λ (x : List ℕ). b ∷ x) (front_whole text h.1)

front_stroke : (text ds : List ℕ) → NoStroke text → front (text ++ 47 ∷ ds) ≡ text
front_stroke [] ds h = refl
front_stroke (b ∷ text) ds h = ap (λ (t : Bool). if t then [] else b ∷ front (text ++ 47 ∷ ds)) h.0 ∙ ap (λ (x : List ℕ). b ∷ x) (front_stroke text ds h.1)

denominator_whole : (text : List ℕ) → NoStroke text → denominator_of text ≡ 1
denominator_whole [] h = refl
denominator_whole (b ∷ text) h = ap (λ (t : Bool). if t then digits_value 10 text else denominator_of text) h.0 ∙ denominator_whole text h.1

denominator_stroke : (text ds : List ℕ) → NoStroke text → denominator_of (text ++ 47 ∷ ds) ≡ digits_value 10 ds
denominator_stroke [] ds h = refl
denominator_stroke (b ∷ text) ds h =
    ap (λ (t : Bool). if t then digits_value 10 (text ++ 47 ∷ ds) else denominator_of (text ++ 47 ∷ ds)) h.0 ∙ denominator_stroke text ds h.1

record IsRead (num : ℤ) (den : ℕ) (text : List ℕ) : Type 0 where
  num_is : whole_of (front text) ≡ num
  den_is : denominator_of text ≡ den
  is_one : is_word text ≡ true
  no_stroke : bytes_eq text (codes "/") ≡ false

-- a word with another first byte is no stroke
no_stroke_word : (text rest : List ℕ) → is_word text ≡ true → NoStroke text → bytes_eq (text ++ rest) (codes "/") ≡ false
no_stroke_word [] rest h free = absurd (false≢true h)
no_stroke_word (b ∷ text) rest h free = ap (λ (t : Bool). t && bytes_eq (text ++ rest) []) free.0

module _ (num : ℤ) (den : ℕ) (wide_num : IsWide (unsigned_abs num)) (wide_den : IsWide den) where
  with_denominator : IsRead num den (signed_decimal num ++ 47 ∷ decimal den)
  with_denominator = record {
    num_is = ap whole_of (front_stroke (signed_decimal num) (decimal den) (signed_no_stroke num wide_num)) ∙ whole_read num wide_num;
    den_is = denominator_stroke (signed_decimal num) (decimal den) (signed_no_stroke num wide_num) ∙ (numeral_of den wide_den).1;
    is_one = word_append (signed_decimal num) (47 ∷ decimal den) (signed_word num wide_num) (digits_plain (decimal den) (numeral_of den wide_den).0.1);
    no_stroke = no_stroke_word (signed_decimal num) (47 ∷ decimal den) (signed_word num wide_num) (signed_no_stroke num wide_num);
  }

  without_denominator : den ≡ 1 → IsRead num den (signed_decimal num ++ [])
  without_denominator one =
      let same : signed_decimal num ++ [] ≡ signed_decimal num = append-nil (signed_decimal num) in
      record {
        num_is = ap (λ (t : List ℕ). whole_of (front t)) same ∙ (ap whole_of (front_whole (signed_decimal num) (signed_no_stroke num wide_num)) ∙ whole_read num wide_num);
        den_is = ap denominator_of same ∙ (denominator_whole (signed_decimal num) (signed_no_stroke num wide_num) ∙ sym one);
        is_one = ap is_word same ∙ signed_word num wide_num;
        no_stroke = no_stroke_word (signed_decimal num) [] (signed_word num wide_num) (signed_no_stroke num wide_num);
      }

  by_denominator : (b : Bool) → nat_eq den 1 ≡ b → IsRead num den (signed_decimal num ++ (if b then [] else 47 ∷ decimal den))
  by_denominator true e = without_denominator (eqb-true den 1 e)
  by_denominator false e = with_denominator

  parts_read : IsRead num den (signed_decimal num ++ denominator_bytes den)
  parts_read = by_denominator (nat_eq den 1) refl

abbrev over : ℤ → ℕ → Fraction
over num den = record { num = num; den = den }

module _ (x : Fraction) (h : is_fraction x ≡ true) where
  fits : (nat_lt (unsigned_abs x.num) (2 ^ 127) && nat_lt x.den (2 ^ 127)) ≡ true
  fits = left_true (nat_lt (unsigned_abs x.num) (2 ^ 127) && nat_lt x.den (2 ^ 127)) _ h

  is_read : IsRead x.num x.den (signed_decimal x.num ++ denominator_bytes x.den)
  is_read = parts_read x.num x.den
      (wide_127 (unsigned_abs x.num) (left_true (nat_lt (unsigned_abs x.num) (2 ^ 127)) (nat_lt x.den (2 ^ 127)) fits))
      (wide_127 x.den (right_true (nat_lt (unsigned_abs x.num) (2 ^ 127)) (nat_lt x.den (2 ^ 127)) fits))

  same : fraction_of (signed_decimal x.num ++ denominator_bytes x.den) ≡ x
  same =
      let text = signed_decimal x.num ++ denominator_bytes x.den in
      ap (λ (z : ℤ). over z (denominator_of text)) is_read.num_is ∙ ap (λ (n : ℕ). over x.num n) is_read.den_is

  pub fraction_read : fraction_in (fraction x) ≡ Some x
  fraction_read =
      ap (λ (y : Fraction). if is_fraction y then Some y else None) same ∙ ap (λ (b : Bool). if b then Some x else None) h

  pub fraction_word : is_word (signed_decimal x.num ++ denominator_bytes x.den) ≡ true
  fraction_word = is_read.is_one

  pub fraction_no_stroke : is_stroke (fraction x) ≡ false
  fraction_no_stroke = is_read.no_stroke

pub number_no_stroke : (n : ℕ) → IsWide n → is_stroke (number n) ≡ false
number_no_stroke n w =
    ap (λ (t : List ℕ). bytes_eq t (codes "/")) (sym (append-nil (decimal n)))
    ∙ no_stroke_word (decimal n) [] (number_word n w) (digits_no_stroke (decimal n) (numeral_of n w).0.1)
