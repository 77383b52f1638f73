-- A front is no longer than the text, and takes at least one byte of it.
use Rattle.std.proofs.Common.{◌≡◌, ◌<◌, ◌≤◌, ◌+◌, ◌||◌, ℕ, suc, Bool, true, false, nat_eq, nat_le, List, [], ◌∷◌, Option, Some, None, length, drop, take, take_while, if◌then◌else◌, codes, refl, sym, ◌∙◌, arith}
use Rattle.std.specs.Char.{is_ascii_alphabetic, is_ascii_alphanumeric, is_ascii_digit}
use Rattle.std.specs.List.{starts_with, prefix_len}
use Rattle.std.specs.Map.{lookup}
use Rattle.std.specs.Option.{option_map_or}
use Rattle.std.specs.Str.{bytes_eq}
use Rattle.std.proofs.lemmas.List.{length-drop, length-take}
use Rattle.std.proofs.lemmas.List.Folds.{length-prefix_len}
use Rattle.std.proofs.lemmas.List.Sums.{prefix_len-le-length}
use Rattle.std.specs.Cmp.Lexicographic.{as_long}
use Rattle.spv_tree.specs.declared.tokens.token.Sign.{Sign}
use Rattle.std.specs.Int.{is_in_range}
use Rattle.spv_lexer.proofs.Fronts.{no_long_sign}
use Rattle.spv_lexer.specs.Spelling.{number, sign, long_signs, short_signs}
use Rattle.spv_lexer.specs.Front.{Front, nothing, gap, token, fault, is_blank, through, comment, letters, numeral, decimal, longest_sign, front, open_comment, numeral_too_large, bad_byte}

-- the front's length is from 1 to n; nothing stands only in front of an empty text
abbrev pub FitsIn : ℕ → Front → Type 0
FitsIn n nothing = n ≡ 0
FitsIn n (gap k) = (0 < k) × (k ≤ n)
FitsIn n (token s k) = (0 < k) × (k ≤ n)
FitsIn n (fault f) = Unit {0}

-- a fact of a choice, by its test
pub of_choice : (P : Front → Type 0) (b : Bool) (x y : Front) → (b ≡ true → P x) → (b ≡ false → P y) → P (if b then x else y)
of_choice P true x y h g = h refl
of_choice P false x y h g = g refl

-- a row whose first byte belongs to it
pub row_size : (p : ℕ → Bool) (b : ℕ) (rest : List ℕ) → p b ≡ true → (0 < length (take_while p (b ∷ rest))) × (length (take_while p (b ∷ rest)) ≤ length (b ∷ rest))
row_size p b rest belongs =
    let size : length (take_while p (b ∷ rest)) ≡ prefix_len p (b ∷ rest) = length-prefix_len p (b ∷ rest) in
    let some : prefix_len p (b ∷ rest) ≡ 1 + prefix_len p rest = rw belongs refl in
    (omega arith, rw size (prefix_len-le-length p (b ∷ rest)))

-- a text that starts with another is no shorter
pub starts_with-length : (text first : List ℕ) → starts_with nat_eq text first ≡ true → length first ≤ length text
starts_with-length text first h =
    let same = as_long nat_eq first (take (length first) text) h in omega (arith, length-take (length first) text)

-- the end that is found lies in the text
pub through_within : (closing text : List ℕ) (k : ℕ) → through closing text ≡ Some k → k ≤ length text
through_within closing [] k h = cc
through_within closing (b ∷ text) k h = by (starts_with nat_eq (b ∷ text) closing) refl (through closing text) refl (through_within closing text)
  where
    by : (t : Bool) → starts_with nat_eq (b ∷ text) closing ≡ t → (o : Option ℕ) → through closing text ≡ o → ((j : ℕ) → through closing text ≡ Some j → j ≤ length text) → k ≤ length (b ∷ text)
    by true e o f rest =
        let same : Some (length closing) ≡ Some k = rw e at h in
        let size : length closing ≡ k = cc same in
        let within = starts_with-length (b ∷ text) closing e in
        omega arith
    by false e None f rest = let none : None ≡ Some k = rw (e, f) at h in cc none
    by false e (Some j) f rest =
        let same : Some (suc j) ≡ Some k = rw (e, f) at h in
        let size : suc j ≡ k = cc same in
        let within = rest j f in
        omega arith

or_more : (x y z : Bool) → (y || z) ≡ true → ((x || y) || z) ≡ true
or_more true y z h = refl
or_more false y z h = h

-- letters are among the letters and digits
pub alphabetic_alphanumeric : (b : ℕ) → is_ascii_alphabetic b ≡ true → is_ascii_alphanumeric b ≡ true
alphabetic_alphanumeric b h = or_more (is_in_range 48 57 b) (is_in_range 65 90 b) (is_in_range 97 122 b) h

comment_fits : (opening closing text : List ℕ) → 0 < length opening → length opening ≤ length text → FitsIn (length text) (comment opening closing text)
unfolding comment
comment_fits opening closing text some within = by (through closing (drop (length opening) text)) (through_within closing (drop (length opening) text))
  where
    by : (o : Option ℕ) → ((k : ℕ) → o ≡ Some k → k ≤ length (drop (length opening) text)) → FitsIn (length text) (option_map_or (λ k. gap (length opening + k)) o (fault open_comment))
    by None h = tt
    by (Some k) h = let bound = h k refl in (omega arith, omega (arith, length-drop (length opening) text))

numeral_fits : (n : ℕ) (digits : List ℕ) → 0 < length digits → length digits ≤ n → FitsIn n (numeral digits)
unfolding numeral
numeral_fits n digits some within =
    of_choice (FitsIn n) (nat_le (decimal digits) 9223372036854775807) (token (number (decimal digits)) (length digits)) (fault numeral_too_large) (λ _. (some, within)) (λ _. tt)

letters_fit : (n : ℕ) (run : List ℕ) → 0 < length run → length run ≤ n → FitsIn n (letters run)
unfolding letters
letters_fit n run some within = (some, within)

short_fits : (n : ℕ) (o : Option Sign) → 0 < n → FitsIn n (option_map_or (λ s. token (sign s) 1) o (fault bad_byte))
short_fits n None some = tt
short_fits n (Some s) some = (omega arith, omega arith)

sign_fits : (b : ℕ) (rest : List ℕ) → FitsIn (length (b ∷ rest)) (longest_sign (b ∷ rest))
unfolding longest_sign
sign_fits b rest = by rest (lookup (bytes_eq (take 2 (b ∷ rest))) long_signs) refl
  where
    by : (tail : List ℕ) (o : Option Sign) → lookup (bytes_eq (take 2 (b ∷ tail))) long_signs ≡ o
        → FitsIn (length (b ∷ tail)) (option_map_or (λ s. token (sign s) 2) o (option_map_or (λ s. token (sign s) 1) (lookup (bytes_eq (take 1 (b ∷ tail))) short_signs) (fault bad_byte)))
    by [] (Some s) e = let none : None ≡ Some s = sym (no_long_sign (b ∷ []) (omega arith)) ∙ e in cc none
    by (c ∷ tail) (Some s) e = (omega arith, omega arith)
    by tail None e = short_fits (length (b ∷ tail)) (lookup (bytes_eq (take 1 (b ∷ tail))) short_signs) (omega arith)

-- what stands at the front takes some of the text, and no more than the text
pub front_fits : (text : List ℕ) → FitsIn (length text) (front text)
unfolding front
front_fits [] = refl
front_fits (b ∷ rest) =
    let n : ℕ = length (b ∷ rest) in
    of_choice (FitsIn n) (is_blank b) _ _ (λ _. (omega arith, omega arith)) (λ _.
    of_choice (FitsIn n) (is_ascii_alphabetic b) _ _ (λ letter.
    let size = row_size is_ascii_alphanumeric b rest (alphabetic_alphanumeric b letter) in letters_fit n (take_while is_ascii_alphanumeric (b ∷ rest)) size.0 size.1) (λ _.
    of_choice (FitsIn n) (is_ascii_digit b) _ _ (λ digit.
    let size = row_size is_ascii_digit b rest digit in numeral_fits n (take_while is_ascii_digit (b ∷ rest)) size.0 size.1) (λ _.
    of_choice (FitsIn n) (starts_with nat_eq (b ∷ rest) (codes "{")) _ _ (λ opens.
    comment_fits (codes "{") (codes "}") (b ∷ rest) (omega arith) (starts_with-length (b ∷ rest) (codes "{") opens)) (λ _.
    of_choice (FitsIn n) (starts_with nat_eq (b ∷ rest) (codes "(*")) _ _ (λ opens.
    comment_fits (codes "(*") (codes "*)") (b ∷ rest) (omega arith) (starts_with-length (b ∷ rest) (codes "(*") opens)) (λ _.
    sign_fits b rest)))))
