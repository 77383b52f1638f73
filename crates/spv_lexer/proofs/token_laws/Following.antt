-- What does not follow a name, a word or a number.
use Rattle.std.proofs.Common.{◌≡◌, ◌+◌, ℕ, suc, Bool, true, false, cond, nat_eq, nat_le, List, [], ◌∷◌, Option, Some, None, length, drop, take, take_while, codes, refl, sym, ap, subst, ◌∙◌, arith, unwrap_or}
use Rattle.std.specs.Char.{is_ascii_alphabetic, is_ascii_alphanumeric, is_ascii_digit}
use Rattle.std.specs.List.{starts_with, prefix_len}
use Rattle.std.specs.Map.{lookup}
use Rattle.std.specs.Option.{option_map, option_map_or}
use Rattle.std.specs.Str.{bytes_eq}
use Rattle.std.proofs.lemmas.List.Folds.{length-prefix_len}
use Rattle.spv_logic.specs.names.Names.{folded}
use Rattle.spv_tree.specs.declared.tokens.token.Sign.{Sign}
use Rattle.spv_tree.specs.declared.tokens.token.Word.{Word}
use Rattle.spv_lexer.specs.Spelling.{Spelling, word, name, number, sign, words, long_signs, short_signs}
use Rattle.spv_lexer.specs.Front.{Front, gap, token, fault, is_blank, through, comment, letters, numeral, decimal, longest_sign, front, open_comment, numeral_too_large, bad_byte}
use Rattle.spv_lexer.proofs.Sizes.{of_choice}
use Rattle.spv_lexer.specs.token_laws.Fronts.{goes_on}

prefix-ends : (p : ℕ → Bool) (xs : List ℕ) → goes_on p (drop (prefix_len p xs) xs) ≡ false
prefix-ends p [] = refl
prefix-ends p (b ∷ xs) = by (p b) refl (prefix-ends p xs)
  where
    by : (t : Bool) → p b ≡ t → goes_on p (drop (prefix_len p xs) xs) ≡ false → goes_on p (drop (cond (p b) (1 + prefix_len p xs) 0) (b ∷ xs)) ≡ false
    by true e below = let one : cond (p b) (1 + prefix_len p xs) 0 ≡ suc (prefix_len p xs) = rw e (omega arith) in ap (λ k. goes_on p (drop k (b ∷ xs))) one ∙ below
    by false e below = rw e e

-- what belongs to a row does not follow it
pub row-ends : (p : ℕ → Bool) (text : List ℕ) → goes_on p (drop (length (take_while p text)) text) ≡ false
row-ends p text = ap (λ n. goes_on p (drop n text)) (length-prefix_len p text) ∙ prefix-ends p text

-- which tokens nothing of p follows
abbrev Ends : (Spelling → Bool) → (ℕ → Bool) → List ℕ → Front → Type 0
Ends wanted p text F = (s : Spelling) (k : ℕ) → F ≡ token s k → wanted s ≡ true → goes_on p (drop k text) ≡ false

abbrev pub is_lettered : Spelling → Bool
is_lettered (word w) = true
is_lettered (name n) = true
is_lettered (number n) = false
is_lettered (sign s) = false

abbrev pub is_number : Spelling → Bool
is_number (word w) = false
is_number (name n) = false
is_number (number n) = true
is_number (sign s) = false

same_size : (p : ℕ → Bool) (text : List ℕ) (n k : ℕ) → n ≡ k → goes_on p (drop n text) ≡ false → goes_on p (drop k text) ≡ false
same_size p text n k e h = subst (λ m. goes_on p (drop m text) ≡ false) e h

letters-lettered : (text : List ℕ) → Ends is_lettered is_ascii_alphanumeric text (letters (take_while is_ascii_alphanumeric text))
unfolding letters
letters-lettered text s k h is =
    let size : length (take_while is_ascii_alphanumeric text) ≡ k = cc h in
    same_size is_ascii_alphanumeric text _ k size (row-ends is_ascii_alphanumeric text)

letters-number : (run text : List ℕ) → Ends is_number is_ascii_digit text (letters run)
unfolding letters
letters-number run text s k h is = by (lookup (bytes_eq (folded run)) words) h
  where
    by : (o : Option Word) → token (unwrap_or (option_map word o) (name (folded run))) (length run) ≡ token s k → goes_on is_ascii_digit (drop k text) ≡ false
    by None h = let kind : name (folded run) ≡ s = cc h in let no : false ≡ true = ap is_number kind ∙ is in cc no
    by (Some w) h = let kind : word w ≡ s = cc h in let no : false ≡ true = ap is_number kind ∙ is in cc no

numeral-number : (text : List ℕ) → Ends is_number is_ascii_digit text (numeral (take_while is_ascii_digit text))
unfolding numeral
numeral-number text =
    of_choice (Ends is_number is_ascii_digit text) (nat_le (decimal (take_while is_ascii_digit text)) 9223372036854775807) _ (fault numeral_too_large)
    (λ _ s k h is. let size : length (take_while is_ascii_digit text) ≡ k = cc h in same_size is_ascii_digit text _ k size (row-ends is_ascii_digit text)) (λ _ s k h is. cc h)

numeral-lettered : (digits text : List ℕ) → Ends is_lettered is_ascii_alphanumeric text (numeral digits)
unfolding numeral
numeral-lettered digits text =
    of_choice (Ends is_lettered is_ascii_alphanumeric text) (nat_le (decimal digits) 9223372036854775807) (token (number (decimal digits)) (length digits)) (fault numeral_too_large)
    (λ _ s k h is. let kind : number (decimal digits) ≡ s = cc h in let no : false ≡ true = ap is_lettered kind ∙ is in cc no) (λ _ s k h is. cc h)

comment-no : (wanted : Spelling → Bool) (p : ℕ → Bool) (opening closing text : List ℕ) → Ends wanted p text (comment opening closing text)
unfolding comment
comment-no wanted p opening closing text = by (through closing (drop (length opening) text))
  where
    by : (o : Option ℕ) → Ends wanted p text (option_map_or (λ j. gap (length opening + j)) o (fault open_comment))
    by None s k h is = cc h
    by (Some j) s k h is = cc h

sign-no : (wanted : Spelling → Bool) (p : ℕ → Bool) (text : List ℕ) → ((s : Sign) → wanted (sign s) ≡ false) → Ends wanted p text (longest_sign text)
unfolding longest_sign
sign-no wanted p text none = by (lookup (bytes_eq (take 2 text)) long_signs) (lookup (bytes_eq (take 1 text)) short_signs)
  where
    never : (x : Sign) (s : Spelling) (k : ℕ) → sign x ≡ s → wanted s ≡ true → goes_on p (drop k text) ≡ false
    never x s k e is = let no : false ≡ true = sym (none x) ∙ ap wanted e ∙ is in cc no

    by : (o q : Option Sign) → Ends wanted p text (option_map_or (λ s. token (sign s) 2) o (option_map_or (λ s. token (sign s) 1) q (fault bad_byte)))
    by (Some x) q s k h is = let e : sign x ≡ s = cc h in never x s k e is
    by None (Some x) s k h is = let e : sign x ≡ s = cc h in never x s k e is
    by None None s k h is = cc h

pub lettered-ends : (text : List ℕ) → Ends is_lettered is_ascii_alphanumeric text (front text)
unfolding front
lettered-ends [] = λ s k h is. cc h
lettered-ends (b ∷ rest) =
    let P : Front → Type 0 = Ends is_lettered is_ascii_alphanumeric (b ∷ rest) in
    of_choice P (is_blank b) _ _ (λ _ s k h is. cc h) (λ _.
    of_choice P (is_ascii_alphabetic b) _ _ (λ _. letters-lettered (b ∷ rest)) (λ _.
    of_choice P (is_ascii_digit b) _ _ (λ _. numeral-lettered (take_while is_ascii_digit (b ∷ rest)) (b ∷ rest)) (λ _.
    of_choice P (starts_with nat_eq (b ∷ rest) (codes "{")) _ _ (λ _. comment-no is_lettered is_ascii_alphanumeric (codes "{") (codes "}") (b ∷ rest)) (λ _.
    of_choice P (starts_with nat_eq (b ∷ rest) (codes "(*")) _ _ (λ _. comment-no is_lettered is_ascii_alphanumeric (codes "(*") (codes "*)") (b ∷ rest)) (λ _.
    sign-no is_lettered is_ascii_alphanumeric (b ∷ rest) (λ s. refl))))))

pub number-ends : (text : List ℕ) → Ends is_number is_ascii_digit text (front text)
unfolding front
number-ends [] = λ s k h is. cc h
number-ends (b ∷ rest) =
    let P : Front → Type 0 = Ends is_number is_ascii_digit (b ∷ rest) in
    of_choice P (is_blank b) _ _ (λ _ s k h is. cc h) (λ _.
    of_choice P (is_ascii_alphabetic b) _ _ (λ _. letters-number (take_while is_ascii_alphanumeric (b ∷ rest)) (b ∷ rest)) (λ _.
    of_choice P (is_ascii_digit b) _ _ (λ _. numeral-number (b ∷ rest)) (λ _.
    of_choice P (starts_with nat_eq (b ∷ rest) (codes "{")) _ _ (λ _. comment-no is_number is_ascii_digit (codes "{") (codes "}") (b ∷ rest)) (λ _.
    of_choice P (starts_with nat_eq (b ∷ rest) (codes "(*")) _ _ (λ _. comment-no is_number is_ascii_digit (codes "(*") (codes "*)") (b ∷ rest)) (λ _.
    sign-no is_number is_ascii_digit (b ∷ rest) (λ s. refl))))))
