-- What the code that reads a front asks of the definitions.
use Rattle.std.proofs.Common.{◌≡◌, ◌<◌, ◌≤◌, ◌+◌, ◌-◌, ◌*◌, ℕ, suc, Bool, true, false, nat_eq, List, [], ◌∷◌, Option, Some, None, length, drop, take, fold, nat_le, codes, take_while, if◌then◌else◌, slice_index_or, refl, sym, ap, subst, ◌∙◌, true≢false, arith, add-one}
use Rattle.std.proofs.Math.Seq.{drop-cons}
use Rattle.std.proofs.lemmas.List.{length-map, length-take, take-map, take-append-drop}
use Rattle.std.proofs.lemmas.List.Sums.{fold_more, fold-append, prefix_len-le-length}
use Rattle.std.specs.List.{starts_with, prefix_len}
use Rattle.std.specs.Option.{option_map, option_map_or}
use Rattle.std.specs.Map.{lookup}
use Rattle.std.specs.Str.{bytes_eq}
use Rattle.std.proofs.lemmas.Bool.{eqb-true}
use Rattle.std.proofs.lemmas.Bool.Decides.{nat_tests}
use Rattle.spv_tree.specs.declared.tokens.token.Sign.{Sign}
use Rattle.spv_lexer.specs.Spelling.{number, sign, long_signs, short_signs}
use Rattle.spv_lexer.specs.Front.{token, fault, numeral_too_large, bad_byte, Front, gap, is_blank, through, letters, comment, longest_sign, front, decimal, numeral}
use Rattle.std.specs.Char.{is_ascii_alphabetic, is_ascii_alphanumeric, is_ascii_digit, to_ascii_uppercase}
use Rattle.spv_logic.specs.names.Names.{folded}
use Rattle.spv_lexer.proofs.LookUps.{lookup-none_of_length}

-- one more in front
shifted : (at : ℕ) (o : Option ℕ) → option_map (λ k. at + k) (option_map suc o) ≡ option_map (λ k. suc at + k) o
shifted at None = refl
shifted at (Some k) = ap Some (omega arith)

-- the search for a closing sign goes on behind a place where it does not stand
pub through-next : (closing text : List ℕ) (at : ℕ) → at < length text → starts_with nat_eq (drop at text) closing ≡ false
    → option_map (λ k. at + k) (through closing (drop at text)) ≡ option_map (λ k. (at + 1) + k) (through closing (drop (at + 1) text))
through-next closing text at within other =
    let here : drop at text ≡ slice_index_or text at 0 ∷ drop (suc at) text = drop-cons text at 0 within in
    let elsewhere : starts_with nat_eq (slice_index_or text at 0 ∷ drop (suc at) text) closing ≡ false = rw here at other in
    rw (add-one, here, elsewhere) (shifted at (through closing (drop (suc at) text)))

-- a number with one more digit
pub decimal-more : (digits : List ℕ) (i : ℕ) → i < length digits → decimal (take (i + 1) digits) ≡ 10 * decimal (take i digits) + (slice_index_or digits i 0 - 48)
decimal-more digits i within = fold_more (λ n d. 10 * n + (d - 48)) 0 digits i 0 within

-- more digits make no number smaller
decimal_from-grows : (digits : List ℕ) (n : ℕ) → n ≤ fold (λ n d. 10 * n + (d - 48)) n digits
decimal_from-grows [] n = omega arith
decimal_from-grows (d ∷ digits) n = let h = decimal_from-grows digits (10 * n + (d - 48)) in omega (arith, h)

pub decimal-grows : (digits : List ℕ) (i : ℕ) → decimal (take i digits) ≤ decimal digits
decimal-grows digits i =
    let whole : decimal digits ≡ fold (λ n d. 10 * n + (d - 48)) (decimal (take i digits)) (drop i digits) =
    ap decimal (sym (take-append-drop i digits)) ∙ fold-append (λ n d. 10 * n + (d - 48)) 0 (take i digits) (drop i digits) in
    rw whole (decimal_from-grows (drop i digits) (decimal (take i digits)))

-- a number above the limit is none
pub too_large : (n : ℕ) → 9223372036854775807 < n → (if nat_le n 9223372036854775807 then Some n else None) ≡ None
too_large n above = grind (arith, nat_tests)

-- what the test of a numeral says
pub numeral-some : (digits : List ℕ) (n : ℕ) → Some n ≡ (if nat_le (decimal digits) 9223372036854775807 then Some (decimal digits) else None) → token (number n) (length digits) ≡ numeral digits
unfolding numeral
numeral-some digits n h = by (nat_le (decimal digits) 9223372036854775807) refl
  where
    by : (b : Bool) → nat_le (decimal digits) 9223372036854775807 ≡ b → token (number n) (length digits) ≡ (if nat_le (decimal digits) 9223372036854775807 then token (number (decimal digits)) (length digits) else fault numeral_too_large)
    by true e = let same : Some n ≡ Some (decimal digits) = rw e at h in rw e (cc same)
    by false e = let same : Some n ≡ None = rw e at h in cc same

pub numeral-none : (digits : List ℕ) → None ≡ (if nat_le (decimal digits) 9223372036854775807 then Some (decimal digits) else None) → fault numeral_too_large ≡ numeral digits
unfolding numeral
numeral-none digits h = by (nat_le (decimal digits) 9223372036854775807) refl
  where
    by : (b : Bool) → nat_le (decimal digits) 9223372036854775807 ≡ b → fault numeral_too_large ≡ (if nat_le (decimal digits) 9223372036854775807 then token (number (decimal digits)) (length digits) else fault numeral_too_large)
    by true e = let same : None ≡ Some (decimal digits) = rw e at h in cc same
    by false e = rw e refl

-- the first bytes of a text
pub take_two : (text : List ℕ) → 1 < length text → take 2 text ≡ slice_index_or text 0 0 ∷ slice_index_or text 1 0 ∷ []
take_two [] h = absurd (omega arith)
take_two (a ∷ []) h = absurd (omega arith)
take_two (a ∷ b ∷ rest) h = refl

pub take_one : (text : List ℕ) → 0 < length text → take 1 text ≡ slice_index_or text 0 0 ∷ []
take_one [] h = absurd (omega arith)
take_one (a ∷ rest) h = refl

-- a text of one byte has no sign of two
pub no_long_sign : (text : List ℕ) → length text < 2 → lookup (bytes_eq (take 2 text)) long_signs ≡ None
no_long_sign text short = lookup-none_of_length (take 2 text) 2 long_signs refl (λ two. omega (arith, length-take 2 text))

-- the front of a text by its first byte
abbrev pub front_by : ℕ → List ℕ → Front
front_by b text =
    if is_blank b then gap 1
    else if is_ascii_alphabetic b then letters (take_while is_ascii_alphanumeric text)
    else if is_ascii_digit b then numeral (take_while is_ascii_digit text)
    else if starts_with nat_eq text (codes "{") then comment (codes "{") (codes "}") text
    else if starts_with nat_eq text (codes "(*") then comment (codes "(*") (codes "*)") text
    else longest_sign text

pub front-front_by : (text : List ℕ) → 0 < length text → front text ≡ front_by (slice_index_or text 0 0) text
unfolding front
front-front_by [] h = absurd (omega arith)
front-front_by (b ∷ rest) h = refl

-- what stands at the front of a text that begins with a known byte
pub front-same : (P : List ℕ → Front) (b : ℕ) (text : List ℕ) → 0 < length text → slice_index_or text 0 0 ≡ b → ((rest : List ℕ) → P (b ∷ rest) ≡ front (b ∷ rest)) → P text ≡ front text
front-same P b [] h is same = absurd (omega arith)
front-same P b (a ∷ rest) h is same = subst (λ (x : ℕ). P (x ∷ rest) ≡ front (x ∷ rest)) (sym is) (same rest)

-- the sign of one byte that such a text begins with
pub short-same : (b : ℕ) (o : Option Sign) (text : List ℕ) → 0 < length text → slice_index_or text 0 0 ≡ b → lookup (bytes_eq (b ∷ [])) short_signs ≡ o → lookup (bytes_eq (take 1 text)) short_signs ≡ o
short-same b o text h is found = rw (take_one text h, is) found

-- a byte that passes a test which no blank passes
pub no_blank : (p : ℕ → Bool) → p 32 ≡ false → p 9 ≡ false → p 10 ≡ false → p 13 ≡ false → (b : ℕ) → p b ≡ true → is_blank b ≡ false
no_blank p f g h i b passes = rw (apart 32 f, apart 9 g, apart 10 h, apart 13 i) refl
  where
    by : (n : ℕ) (t : Bool) → nat_eq b n ≡ t → p n ≡ false → t ≡ false
    by n true e none = absurd (true≢false (sym passes ∙ ap p (eqb-true b n e) ∙ none))
    by n false e none = refl

    apart : (n : ℕ) → p n ≡ false → nat_eq b n ≡ false
    apart n none = by n (nat_eq b n) refl none

-- a byte that begins nothing
pub front-bad_byte : (b : ℕ) (rest : List ℕ) → is_blank b ≡ false → is_ascii_alphabetic b ≡ false → is_ascii_digit b ≡ false → nat_eq 123 b ≡ false → nat_eq 40 b ≡ false
    → nat_eq b 60 ≡ false → nat_eq b 62 ≡ false → nat_eq b 58 ≡ false → nat_eq b 46 ≡ false → nat_eq b 45 ≡ false → lookup (bytes_eq (b ∷ [])) short_signs ≡ None → front (b ∷ rest) ≡ fault bad_byte
unfolding front longest_sign
front-bad_byte b rest blank letter digit brace parenthesis less greater colon period minus none =
    let long : lookup (bytes_eq (take 2 (b ∷ rest))) long_signs ≡ None = rw (less, greater, colon, period, minus) refl in
    let nothing : longest_sign (b ∷ rest) ≡ fault bad_byte = λ i. option_map_or (λ s. token (sign s) 2) (long i) (option_map_or (λ s. token (sign s) 1) (none i) (fault bad_byte)) in
    rw (blank, letter, digit, brace, parenthesis) nothing

-- a row at the front, in a text and in its upper case
pub run_fits : (p : ℕ → Bool) (rest upper : List ℕ) → upper ≡ folded rest → prefix_len p rest ≤ length upper
run_fits p rest upper is = rw (is, length-map) (prefix_len-le-length p rest)

pub run_folded : (p : ℕ → Bool) (rest upper : List ℕ) → upper ≡ folded rest → take (prefix_len p rest) upper ≡ folded (take_while p rest)
run_folded p rest upper is = rw is (take-map to_ascii_uppercase (prefix_len p rest) rest)
