-- No line ends in a token.
use Rattle.std.proofs.Common.{◌≡◌, ◌≤◌, ◌+◌, ◌==◌, ℕ, suc, Bool, true, false, cond, nat_eq, nat_le, List, [], ◌∷◌, Option, Some, None, length, drop, take, take_while, count_by, codes, refl, sym, ap, ◌∙◌, true≢false, arith}
use Rattle.std.specs.Char.{is_ascii_alphabetic, is_ascii_alphanumeric, is_ascii_digit}
use Rattle.std.specs.List.{list_all, prefix_len, starts_with}
use Rattle.std.specs.Map.{lookup}
use Rattle.std.specs.Option.{option_map_or}
use Rattle.std.specs.Str.{bytes_eq}
use Rattle.std.proofs.lemmas.Bool.{eqb-true}
use Rattle.std.proofs.lemmas.List.Folds.{length-prefix_len}
use Rattle.std.proofs.lemmas.List.Sums.{sum_by-cons}
use Rattle.std.proofs.lemmas.Slice.Eq.{bytes_eq-Decides}
use Rattle.spv_tree.specs.declared.tokens.token.Sign.{Sign}
use Rattle.spv_lexer.specs.Spelling.{Spelling, number, sign, long_signs, short_signs}
use Rattle.spv_lexer.specs.Front.{Front, nothing, gap, token, fault, is_blank, through, comment, letters, numeral, decimal, longest_sign, front, open_comment, numeral_too_large, bad_byte}
use Rattle.spv_lexer.specs.declared.lexer.Piece.{Piece}
use Rattle.spv_lexer.proofs.Joins.{both}
use Rattle.spv_lexer.proofs.Sizes.{FitsIn, front_fits, of_choice}

-- a byte that passes a test which a line feed does not pass
other_byte : (p : ℕ → Bool) → p 10 ≡ false → (b : ℕ) → p b ≡ true → (b == 10) ≡ false
other_byte p fails b passes = by (b == 10) refl
  where
    by : (t : Bool) → (b == 10) ≡ t → t ≡ false
    by true e = absurd (true≢false (sym passes ∙ ap p (eqb-true b 10 e) ∙ fails))
    by false e = refl

-- no line ends in a row of such bytes
run_lines : (p : ℕ → Bool) → p 10 ≡ false → (text : List ℕ) → count_by (λ b. b == 10) (take (prefix_len p text) text) ≡ 0
run_lines p fails [] = refl
run_lines p fails (b ∷ rest) = by (p b) refl (run_lines p fails rest)
  where
    by : (t : Bool) → p b ≡ t → count_by (λ b. b == 10) (take (prefix_len p rest) rest) ≡ 0 → count_by (λ b. b == 10) (take (cond t (1 + prefix_len p rest) 0) (b ∷ rest)) ≡ 0
    by true e none =
        let head : cond {A = ℕ} (b == 10) 1 0 ≡ 0 = ap (λ t. cond {A = ℕ} t 1 0) (other_byte p fails b e) in
        let all : count_by (λ b. b == 10) (b ∷ take (prefix_len p rest) rest) ≡ cond (b == 10) 1 0 + count_by (λ b. b == 10) (take (prefix_len p rest) rest) = sum_by-cons (λ x. cond (x == 10) 1 0) b (take (prefix_len p rest) rest) in
        let sum : cond {A = ℕ} (b == 10) 1 0 + count_by (λ b. b == 10) (take (prefix_len p rest) rest) ≡ 0 = omega (arith, head, none) in
        let one : 1 + prefix_len p rest ≡ suc (prefix_len p rest) = omega arith in
        ap (λ (m : ℕ). count_by (λ b. b == 10) (take m (b ∷ rest))) one ∙ all ∙ sum
    by false e none = refl

-- and none in a text that is found in a table without line feeds
table_lines : {X : Type 0} (t : List ℕ) (es : List (List ℕ × X)) (x : X) → list_all (λ e. count_by (λ b. b == 10) e.0 == 0) es ≡ true → lookup (bytes_eq t) es ≡ Some x → count_by (λ b. b == 10) t ≡ 0
table_lines t [] x none found = cc found
table_lines t (e ∷ es) x none found =
    let parts = both (count_by (λ b. b == 10) e.0 == 0) (list_all (λ e. count_by (λ b. b == 10) e.0 == 0) es) none in
    by (bytes_eq t e.0) refl (table_lines t es x parts.1) (eqb-true (count_by (λ b. b == 10) e.0) 0 parts.0)
  where
    by : (b : Bool) → bytes_eq t e.0 ≡ b → (lookup (bytes_eq t) es ≡ Some x → count_by (λ b. b == 10) t ≡ 0) → count_by (λ b. b == 10) e.0 ≡ 0 → count_by (λ b. b == 10) t ≡ 0
    by true same rest here = ap (count_by (λ b. b == 10)) ((bytes_eq-Decides t e.0).0 same) ∙ here
    by false other rest here = rest (rw other at found)

-- no line ends in the token that this front is
abbrev pub NoLines : List ℕ → Front → Type 0
NoLines text nothing = Unit {0}
NoLines text (gap k) = Unit {0}
NoLines text (token s k) = count_by (λ b. b == 10) (take k text) ≡ 0
NoLines text (fault f) = Unit {0}

letters_lines : (text : List ℕ) → NoLines text (letters (take_while is_ascii_alphanumeric text))
unfolding letters
letters_lines text = rw (length-prefix_len is_ascii_alphanumeric text) (run_lines is_ascii_alphanumeric refl text)

numeral_lines : (text : List ℕ) → NoLines text (numeral (take_while is_ascii_digit text))
unfolding numeral
numeral_lines text =
    let digits : List ℕ = take_while is_ascii_digit text in
    of_choice (NoLines text) (nat_le (decimal digits) 9223372036854775807) (token (number (decimal digits)) (length digits)) (fault numeral_too_large)
    (λ _. rw (length-prefix_len is_ascii_digit text) (run_lines is_ascii_digit refl text)) (λ _. tt)

comment_lines : (opening closing text : List ℕ) → NoLines text (comment opening closing text)
unfolding comment
comment_lines opening closing text = by (through closing (drop (length opening) text))
  where
    by : (o : Option ℕ) → NoLines text (option_map_or (λ k. gap (length opening + k)) o (fault open_comment))
    by None = tt
    by (Some k) = tt

sign_lines : (text : List ℕ) → NoLines text (longest_sign text)
unfolding longest_sign
sign_lines text = by (lookup (bytes_eq (take 2 text)) long_signs) refl (lookup (bytes_eq (take 1 text)) short_signs) refl
  where
    by : (o : Option Sign) → lookup (bytes_eq (take 2 text)) long_signs ≡ o → (p : Option Sign) → lookup (bytes_eq (take 1 text)) short_signs ≡ p
        → NoLines text (option_map_or (λ s. token (sign s) 2) o (option_map_or (λ s. token (sign s) 1) p (fault bad_byte)))
    by (Some s) e p f = table_lines (take 2 text) long_signs s refl e
    by None e (Some s) f = table_lines (take 1 text) short_signs s refl f
    by None e None f = tt

front_lines : (text : List ℕ) → NoLines text (front text)
unfolding front
front_lines [] = tt
front_lines (b ∷ rest) =
    let P : Front → Type 0 = NoLines (b ∷ rest) in
    of_choice P (is_blank b) _ _ (λ _. tt) (λ _.
    of_choice P (is_ascii_alphabetic b) _ _ (λ _. letters_lines (b ∷ rest)) (λ _.
    of_choice P (is_ascii_digit b) _ _ (λ _. numeral_lines (b ∷ rest)) (λ _.
    of_choice P (starts_with nat_eq (b ∷ rest) (codes "{")) _ _ (λ _. comment_lines (codes "{") (codes "}") (b ∷ rest)) (λ _.
    of_choice P (starts_with nat_eq (b ∷ rest) (codes "(*")) _ _ (λ _. comment_lines (codes "(*") (codes "*)") (b ∷ rest)) (λ _. sign_lines (b ∷ rest))))))

-- no line ends in a token
pub token_lines : (text : List ℕ) (s : Spelling) (k : ℕ) → front text ≡ token s k → count_by (λ b. b == 10) (take k text) ≡ 0
token_lines text s k is = rw is at (front_lines text)

-- so a token's piece counts none
pub piece_lines : (text : List ℕ) (s : Spelling) (k : ℕ) (p : Piece) → front text ≡ token s k → p.len ≡ k → p.lines ≡ 0 → p.lines ≡ count_by (λ b. b == 10) (take p.len text)
piece_lines text s k p is len lines = rw (len, lines) (sym (token_lines text s k is))

-- a gap lies in the text
pub gap_within : (text : List ℕ) (k : ℕ) → front text ≡ gap k → k ≤ length text
gap_within text k is = let fits : FitsIn (length text) (gap k) = rw is at (front_fits text) in fits.1
