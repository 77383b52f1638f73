-- The decimal text of a number is read as this number.
use Rattle.std.proofs.Common.{◌≡◌, ◌<◌, ◌≤◌, ◌+◌, ◌*◌, ◌-◌, ◌^◌, ◌++◌, ℕ, suc, Bool, true, false, if◌then◌else◌, List, [], ◌∷◌, length, drop, take, take_while, fold, map, refl, sym, ap, ◌∙◌, arith}
use Rattle.std.specs.Char.{is_ascii_alphabetic, is_ascii_digit}
use Rattle.std.specs.Fmt as fmt
use Rattle.std.specs.List.{prefix_len}
use Rattle.std.specs.Str.{all_ascii_digits}
use Rattle.std.proofs.lemmas.Bool.{le-leb}
use Rattle.std.proofs.lemmas.Bool.Decides.{nat_tests}
use Rattle.std.proofs.lemmas.Fmt.{digits_decimal, digits_value-decimal, decimal_nonempty}
use Rattle.std.proofs.lemmas.List.{take-append-le, take_all, append-nil}
use Rattle.std.proofs.lemmas.Str.Parse.{FoldsDigits, IsNumeralModel, numerals_by_fold, tells_all_ascii_digits}
use Rattle.spv_lexer.specs.Spelling.{number}
use Rattle.spv_lexer.specs.Front.{Front, token, is_blank, numeral, decimal, front}
use Rattle.spv_lexer.specs.Reading.{with_token, line_after, kinds, reading_from}
use Rattle.spv_lexer.proofs.Joins.{both}
use Rattle.spv_lexer.proofs.Readings.{reading-token, reading-empty}
use Rattle.spv_lexer.specs.token_laws.Fronts.{goes_on}

abbrev from : ℕ → List ℕ → ℕ
from n digits = fold (λ n d. 10 * n + (d - 48)) n digits

folds : FoldsDigits from
folds = record { empty = λ n. refl; more = λ n c cs k. ap (λ m. from m cs) (omega arith) }

model : IsNumeralModel (λ ds. all_ascii_digits ds ≡ true) (from 0)
model = numerals_by_fold (λ ds. all_ascii_digits ds ≡ true) tells_all_ascii_digits from folds

module _ (n : ℕ) (small : n ≤ 9223372036854775807) where
  below : n < 2 ^ 64
  below = omega arith

  are_digits : all_ascii_digits (fmt.decimal n) ≡ true
  are_digits = digits_decimal model n below

  worth : decimal (fmt.decimal n) ≡ n
  worth = digits_value-decimal model n below

-- a row of digits ends where none follows
row-whole : (ds rest : List ℕ) → all_ascii_digits ds ≡ true → goes_on is_ascii_digit rest ≡ false → prefix_len is_ascii_digit (ds ++ rest) ≡ length ds
row-whole [] [] h none = refl
row-whole [] (b ∷ rest) h none = rw none refl
row-whole (c ∷ ds) rest h none =
    let parts = both (is_ascii_digit c) (all_ascii_digits ds) h in
    let below = row-whole ds rest parts.1 none in
    let step : 1 + prefix_len is_ascii_digit (ds ++ rest) ≡ suc (length ds) = omega (arith, below) in
    rw parts.0 step

row-taken : (ds rest : List ℕ) → all_ascii_digits ds ≡ true → goes_on is_ascii_digit rest ≡ false → take_while is_ascii_digit (ds ++ rest) ≡ ds
row-taken ds rest h none =
    ap (λ k. take k (ds ++ rest)) (row-whole ds rest h none) ∙ take-append-le (length ds) ds rest (omega arith) ∙ take_all (length ds) ds (omega arith)

no_blank : (b : ℕ) → is_ascii_digit b ≡ true → is_blank b ≡ false
no_blank b h = grind (arith, nat_tests)

no_letter : (b : ℕ) → is_ascii_digit b ≡ true → is_ascii_alphabetic b ≡ false
no_letter b h = grind (arith, nat_tests)

numeral-read : (ds : List ℕ) (n : ℕ) → decimal ds ≡ n → n ≤ 9223372036854775807 → numeral ds ≡ token (number n) (length ds)
unfolding numeral
numeral-read ds n worth small = rw (worth, le-leb n 9223372036854775807 small) refl

first_holds : (b : Bool) (x y : Front) → b ≡ true → (if b then x else y) ≡ x
first_holds true x y h = refl
first_holds false x y h = cc h

first_fails : (b : Bool) (x y : Front) → b ≡ false → (if b then x else y) ≡ y
first_fails true x y h = cc h
first_fails false x y h = refl

digits-front : (ds rest : List ℕ) (n : ℕ) → 0 < length ds → all_ascii_digits ds ≡ true → decimal ds ≡ n → n ≤ 9223372036854775807
    → goes_on is_ascii_digit rest ≡ false → front (ds ++ rest) ≡ token (number n) (length ds)
unfolding front
digits-front [] rest n some h worth small none = absurd (omega arith)
digits-front (c ∷ ds) rest n some h worth small none =
    let digit = (both (is_ascii_digit c) (all_ascii_digits ds) h).0 in
    first_fails (is_blank c) _ _ (no_blank c digit) ∙ first_fails (is_ascii_alphabetic c) _ _ (no_letter c digit) ∙ first_holds (is_ascii_digit c) _ _ digit
    ∙ (ap numeral (row-taken (c ∷ ds) rest h none) ∙ numeral-read (c ∷ ds) n worth small)

pub decimal-front : (n : ℕ) (rest : List ℕ) → n ≤ 9223372036854775807 → goes_on is_ascii_digit rest ≡ false → front (fmt.decimal n ++ rest) ≡ token (number n) (length (fmt.decimal n))
decimal-front n rest small none =
    digits-front (fmt.decimal n) rest n (decimal_nonempty n (below n small)) (are_digits n small) (worth n small) small none

pub decimal-alone : (n : ℕ) → n ≤ 9223372036854775807 → kinds (fmt.decimal n) ≡ number n ∷ []
decimal-alone n small =
    let text : List ℕ = fmt.decimal n in
    let first : front text ≡ token (number n) (length text) = ap front (sym (append-nil text)) ∙ decimal-front n [] small refl in
    ap (λ r. map (λ t. t.kind) r.tokens) (reading-token 1 text (length text) (number n) first ∙ ap (λ l. with_token (record { kind = number n; line = 1 }) (reading_from (line_after 1 (length text) text) l)) (drop_all text)
    ∙ ap (with_token (record { kind = number n; line = 1 })) (reading-empty (line_after 1 (length text) text)))
  where
    drop_all : (xs : List ℕ) → drop (length xs) xs ≡ []
    drop_all [] = refl
    drop_all (x ∷ xs) = drop_all xs
