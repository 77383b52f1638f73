-- Words as they are tested, byte by byte.
use Rattle.std.proofs.Common.{◌≡◌, ℕ, suc, ◌+◌, ◌*◌, ◌-◌, ◌<◌, ◌≤◌, Bool, true, false, ◌&&◌, ◌||◌, not, cond, if◌then◌else◌, Option, Some, None, is_some, List, [], ◌∷◌, length, take, drop, get_or, nat_eq, nat_lt, nat_le, position, refl, sym, ap, ◌∙◌, suc-add, one-add, take_all, lit≤, arith}
use Rattle.std.specs.Char.{digit_value}
use Rattle.std.specs.List.{list_all, list_any, position_or_len}
use Rattle.std.specs.Str.{bytes_eq}
use Rattle.std.specs.Str.Parse.{digits_value}
use Rattle.std.proofs.lemmas.Bool.{false≢true, ltb-true, ltb-false, leb-true, eqb-true, eqb-false}
use Rattle.std.proofs.lemmas.Bool.Decides.{nat_tests}
use Rattle.std.proofs.lemmas.List.{take_rest}
use Rattle.std.proofs.lemmas.Str.Parse.{digits_value-take-le}
use Rattle.spv_logic.proofs.list.Tests.{left_true, right_true}
use Rattle.spv_listing_values.specs.Forms.{is_word_byte, is_word, is_letter, is_digit, is_name_byte, reserved, is_name, is_decimal, unmarked, mark_of, is_number, is_mark, is_variable}

-- ---- numbers above 0

digit_above : (b : ℕ) → 48 < b → b ≤ 57 → 0 < digit_value b
digit_above b h k = grind (arith, nat_tests)

digit_range : (b : ℕ) → is_digit b ≡ true → (48 ≤ b) × (b ≤ 57)
digit_range b h = (leb-true 48 b (left_true (nat_le 48 b) (nat_le b 57) h), leb-true b 57 (right_true (nat_le 48 b) (nat_le b 57) h))

no_more : (ds : List ℕ) → nat_eq (length ds) 0 ≡ true → ds ≡ []
no_more [] h = refl
no_more (d ∷ ds) h = absurd (some (length ds) (eqb-true (suc (length ds)) 0 h))
  where
    some : (n : ℕ) → suc n ≡ 0 → ⊥
    some n e = omega (arith, e)

pub above : (n : ℕ) → 0 < n → nat_lt 0 n ≡ true
above n h = grind (arith, nat_tests)

first_digit : (b : ℕ) (ds : List ℕ) → digit_value b ≤ digits_value 10 (b ∷ ds)
first_digit b ds =
    let most : digits_value 10 (take 1 (b ∷ ds)) ≤ digits_value 10 (b ∷ ds) = digits_value-take-le 10 (b ∷ ds) 1 (lit≤ tt) in
    let one : digits_value 10 (take 1 (b ∷ ds)) ≡ 0 * 10 + digit_value b = refl in
    omega (arith, most, one)

pub positive_is : (ds : List ℕ) → is_decimal ds ≡ true → nat_lt 0 (digits_value 10 ds) ≡ not (nat_eq (get_or ds 0 0) 48)
positive_is [] h = absurd (false≢true h)
positive_is (b ∷ ds) h = by (nat_eq b 48) refl
  where
    digits : list_all is_digit (b ∷ ds) ≡ true
    digits = left_true (list_all is_digit (b ∷ ds)) (not (nat_eq b 48) || nat_eq (length ds) 0) h

    one_zero : nat_eq b 48 ≡ true → ds ≡ []
    one_zero e = no_more ds (ap (λ (c : Bool). not c || nat_eq (length ds) 0) (sym e) ∙ right_true (list_all is_digit (b ∷ ds)) (not (nat_eq b 48) || nat_eq (length ds) 0) h)

    above_zero : nat_eq b 48 ≡ false → 0 < digits_value 10 (b ∷ ds)
    above_zero e =
        let range = digit_range b (left_true (is_digit b) (list_all is_digit ds) digits) in
        let other = eqb-false b 48 e in
        let some = digit_above b (omega (arith, range.0, other)) range.1 in
        omega (arith, some, first_digit b ds)

    by : (c : Bool) → nat_eq b 48 ≡ c → nat_lt 0 (digits_value 10 (b ∷ ds)) ≡ not (nat_eq b 48)
    by true e = (λ i. nat_lt 0 (digits_value 10 (eqb-true b 48 e i ∷ one_zero e i))) ∙ ap not (sym e)
    by false e = above (digits_value 10 (b ∷ ds)) (above_zero e) ∙ ap not (sym e)

-- ---- numbers that are there

pub some_below : (limit n : ℕ) → is_some (if nat_lt n limit then Some n else None) ≡ nat_lt n limit
some_below limit n = by (nat_lt n limit)
  where
    by : (b : Bool) → is_some (if b then Some n else None) ≡ b
    by true = refl
    by false = refl

pub below_next : (n m : ℕ) → nat_lt n (m + 1) ≡ nat_le n m
below_next n m = grind (arith, nat_tests)

-- ---- the first mark

abbrev marks : List ℕ → ℕ
marks text = position_or_len (λ b. nat_eq b 64) text

marks_behind : (b : ℕ) (text : List ℕ) → nat_eq b 64 ≡ false → marks (b ∷ text) ≡ suc (marks text)
marks_behind b text e = rw (e, one-add) refl

marks_first : (b : ℕ) (text : List ℕ) → nat_eq b 64 ≡ true → marks (b ∷ text) ≡ 0
marks_first b text e = rw e refl

unmarked_is : (text : List ℕ) → unmarked text ≡ take (marks text) text
unmarked_is [] = refl
unmarked_is (b ∷ text) = by (nat_eq b 64) refl (unmarked_is text)
  where
    by : (c : Bool) → nat_eq b 64 ≡ c → unmarked text ≡ take (marks text) text → unmarked (b ∷ text) ≡ take (marks (b ∷ text)) (b ∷ text)
    by true e rest = rw e refl
    by false e rest = rw (e, one-add) (ap (λ (ts : List ℕ). b ∷ ts) rest)

mark_behind : (text : List ℕ) → marks text < length text → mark_of text ≡ Some (drop (marks text + 1) text)
mark_behind [] h = absurd (nothing_below (marks []) h)
  where
    nothing_below : (n : ℕ) → n < 0 → ⊥
    nothing_below n h = omega (arith, h)
mark_behind (b ∷ text) h = by (nat_eq b 64) refl (mark_behind text)
  where
    fewer : marks (b ∷ text) ≡ suc (marks text) → marks text < length text
    fewer k = omega (arith, h, k)

    by : (c : Bool) → nat_eq b 64 ≡ c → (marks text < length text → mark_of text ≡ Some (drop (marks text + 1) text)) → mark_of (b ∷ text) ≡ Some (drop (marks (b ∷ text) + 1) (b ∷ text))
    by true e rest = ap (λ (c : Bool). if c then Some text else mark_of text) e ∙ ap (λ (n : ℕ). Some (drop (n + 1) (b ∷ text))) (sym (marks_first b text e))
    by false e rest =
        let k = marks_behind b text e in
        ap (λ (c : Bool). if c then Some text else mark_of text) e
        ∙ (rest (fewer k) ∙ (ap (λ (n : ℕ). Some (drop n (b ∷ text))) (sym (suc-add (marks text) 1)) ∙ ap (λ (n : ℕ). Some (drop (n + 1) (b ∷ text))) (sym k)))

no_mark : (text : List ℕ) → length text ≤ marks text → mark_of text ≡ None
no_mark [] h = refl
no_mark (b ∷ text) h = by (nat_eq b 64) refl (no_mark text)
  where
    not_first : marks (b ∷ text) ≡ 0 → ⊥
    not_first k = omega (arith, h, k)

    fewer : marks (b ∷ text) ≡ suc (marks text) → length text ≤ marks text
    fewer k = omega (arith, h, k)

    by : (c : Bool) → nat_eq b 64 ≡ c → (length text ≤ marks text → mark_of text ≡ None) → mark_of (b ∷ text) ≡ None
    by true e rest = absurd (not_first (marks_first b text e))
    by false e rest = ap (λ (c : Bool). if c then Some text else mark_of text) e ∙ rest (fewer (marks_behind b text e))

abbrev place : List ℕ → Option ℕ
place text = position (λ b. nat_eq b 64) text

pub record IsMarked (text : List ℕ) (at : ℕ) : Type 0 where
  pub unmarked_is : unmarked text ≡ take at text
  pub mark_is : mark_of text ≡ Some (drop (at + 1) text)

found : (b : Bool) (p at : ℕ) → Some at ≡ cond b (Some p) None → (b ≡ true) × (at ≡ p)
found true p at e = (refl, cc)
found false p at e = absurd cc

pub mark_found : (text : List ℕ) (at : ℕ) → Some at ≡ place text → IsMarked text at
mark_found text at e =
    let both = found (nat_lt (marks text) (length text)) (marks text) at e in
    record {
      unmarked_is = unmarked_is text ∙ ap (λ (n : ℕ). take n text) (sym both.1);
      mark_is = mark_behind text (ltb-true (marks text) (length text) both.0) ∙ ap (λ (n : ℕ). Some (drop (n + 1) text)) (sym both.1);
    }

pub record IsUnmarked (text : List ℕ) : Type 0 where
  pub unmarked_is : unmarked text ≡ text
  pub mark_is : mark_of text ≡ None

missed : (b : Bool) (p : ℕ) → None ≡ cond b (Some p) None → b ≡ false
missed true p e = absurd cc
missed false p e = refl

pub no_mark_found : (text : List ℕ) → None ≡ place text → IsUnmarked text
no_mark_found text e =
    let none = ltb-false (marks text) (length text) (missed (nat_lt (marks text) (length text)) (marks text) e) in
    record { unmarked_is = unmarked_is text ∙ take_all (marks text) text none; mark_is = no_mark text none }

-- ---- tests of words, one by one

pub word_some : (text : List ℕ) → 1 ≤ length text → list_all is_word_byte text ≡ is_word text
word_some [] h = absurd (nothing_some h)
  where
    nothing_some : 1 ≤ length {A = ℕ} [] → ⊥
    nothing_some h = omega (arith, h)
word_some (b ∷ text) h = refl

-- what stands behind the first item
rest_of : (b : ℕ) (text : List ℕ) → take (length (b ∷ text) - 1) (drop 1 (b ∷ text)) ≡ text
rest_of b text = take_rest (b ∷ text) 1

name_is : (text : List ℕ) → 1 ≤ length text
    → (is_letter (get_or text 0 0) && (list_all is_name_byte (take (length text - 1) (drop 1 text)) && not (list_any (bytes_eq text) reserved))) ≡ is_name text
name_is [] h = absurd (nothing_some h)
  where
    nothing_some : 1 ≤ length {A = ℕ} [] → ⊥
    nothing_some h = omega (arith, h)
name_is (b ∷ text) h = ap (λ (l : List ℕ). is_letter b && (list_all is_name_byte l && not (list_any (bytes_eq (b ∷ text)) reserved))) (rest_of b text)

-- a name by what the tests say
pub name_by : (text : List ℕ) → 1 ≤ length text → (a b c : Bool) → a ≡ is_letter (get_or text 0 0) → b ≡ list_all is_name_byte (take (length text - 1) (drop 1 text))
    → c ≡ list_any (bytes_eq text) reserved → (a && (b && not c)) ≡ is_name text
name_by text h a b c e f g = (λ i. e i && (f i && not (g i))) ∙ name_is text h

decimal_is : (ds : List ℕ) → 0 < length ds → (list_all is_digit ds && (not (nat_eq (get_or ds 0 0) 48) || nat_eq (length ds) 1)) ≡ is_decimal ds
decimal_is [] h = absurd (nothing_some h)
  where
    nothing_some : 0 < length {A = ℕ} [] → ⊥
    nothing_some h = omega (arith, h)
decimal_is (b ∷ ds) h = ap (λ (c : Bool). list_all is_digit (b ∷ ds) && (not (nat_eq b 48) || c)) (one_more (length ds))
  where
    one_more : (n : ℕ) → nat_eq (suc n) 1 ≡ nat_eq n 0
    one_more n = grind (arith, nat_tests)

pub decimal_by : (ds : List ℕ) → 0 < length ds → (a b c : Bool) → a ≡ list_all is_digit ds → b ≡ not (nat_eq (get_or ds 0 0) 48) → c ≡ nat_eq (length ds) 1 → (a && (b || c)) ≡ is_decimal ds
decimal_by ds h a b c e f g = (λ i. e i && (f i || g i)) ∙ decimal_is ds h

-- ---- fresh names

and_true : (b : Bool) → (b && true) ≡ b
and_true true = refl
and_true false = refl

pub variable_plain : (text : List ℕ) → None ≡ place text → is_name text ≡ is_variable text
variable_plain text e =
    let none = no_mark_found text e in
    sym (and_true (is_name text)) ∙ (λ i. is_name (sym none.unmarked_is i) && is_mark (sym none.mark_is i))

pub variable_marked : (text : List ℕ) (at : ℕ) → Some at ≡ place text → (is_name (take at text) && is_number (drop (at + 1) text)) ≡ is_variable text
variable_marked text at e =
    let mark = mark_found text at e in
    λ i. is_name (sym mark.unmarked_is i) && is_mark (sym mark.mark_is i)
