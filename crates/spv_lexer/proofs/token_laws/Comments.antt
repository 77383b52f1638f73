-- A gap is one blank, or a whole comment; and each comment is read as one.
use Rattle.std.proofs.Common.{◌≡◌, inl, inr, ◌<◌, ◌+◌, ◌++◌, ℕ, suc, true, nat_eq, nat_le, List, [], ◌∷◌, Option, Some, None, length, drop, take, take_while, codes, refl, sym, ap, subst, ◌∙◌, arith}
use Rattle.std.specs.Char.{is_ascii_alphabetic, is_ascii_alphanumeric, is_ascii_digit}
use Rattle.std.specs.List.{starts_with}
use Rattle.std.specs.Map.{lookup}
use Rattle.std.specs.Option.{option_map_or}
use Rattle.std.specs.Str.{bytes_eq}
use Rattle.std.proofs.lemmas.List.{append_assoc, length-append}
use Rattle.spv_tree.specs.declared.tokens.token.Sign.{Sign}
use Rattle.spv_lexer.specs.Spelling.{number, sign, long_signs, short_signs}
use Rattle.spv_lexer.specs.Front.{Front, gap, token, fault, is_blank, through, comment, letters, numeral, decimal, longest_sign, front, open_comment, numeral_too_large, bad_byte}
use Rattle.spv_lexer.proofs.Sizes.{of_choice}
use Rattle.spv_lexer.specs.token_laws.Fronts.{IsComment, IsBetween}
use Rattle.spv_lexer.proofs.token_laws.Closing.{starts-parts, through-closed, closed-through}

-- where it is a gap, it is this
abbrev pub Gap : List ℕ → Front → Type 0
Gap text F = (k : ℕ) → F ≡ gap k → IsBetween (take k text)

drop-front : (xs rest : List ℕ) → drop (length xs) (xs ++ rest) ≡ rest
drop-front [] rest = refl
drop-front (x ∷ xs) rest = drop-front xs rest

take-front : (xs rest : List ℕ) (j : ℕ) → take (length xs + j) (xs ++ rest) ≡ xs ++ take j rest
take-front [] rest j = let none : 0 + j ≡ j = omega arith in ap (λ k. take k rest) none
take-front (x ∷ xs) rest j =
    let one : suc (length xs) + j ≡ suc (length xs + j) = omega arith in
    ap (λ k. take k (x ∷ (xs ++ rest))) one ∙ ap (λ l. x ∷ l) (take-front xs rest j)

comment-is : (opening closing rest : List ℕ) (k : ℕ) → comment opening closing (opening ++ rest) ≡ gap k → IsComment opening closing (take k (opening ++ rest))
unfolding comment
comment-is opening closing rest k h = by (through closing (drop (length opening) (opening ++ rest))) refl h
  where
    behind : drop (length opening) (opening ++ rest) ≡ rest
    behind = drop-front opening rest

    by : (o : Option ℕ) → through closing (drop (length opening) (opening ++ rest)) ≡ o
        → option_map_or (λ j. gap (length opening + j)) o (fault open_comment) ≡ gap k → IsComment opening closing (take k (opening ++ rest))
    by None e h = cc h
    by (Some j) e h =
        let size : length opening + j ≡ k = cc h in
        let found : through closing rest ≡ Some j = ap (through closing) (sym behind) ∙ e in
        let closed = through-closed closing rest j found in
        subst (λ n. IsComment opening closing (take n (opening ++ rest))) size
        (record { body = closed.body; parts = take-front opening rest j ∙ ap (λ l. opening ++ l) closed.parts; only_at_end = closed.only_at_end })

comment-between : (opening closing text : List ℕ) → starts_with nat_eq text opening ≡ true
    → ((t : List ℕ) → IsComment opening closing t → IsBetween t) → Gap text (comment opening closing text)
comment-between opening closing text opens into k h =
    let parts = starts-parts text opening opens in
    let same : comment opening closing (opening ++ drop (length opening) text) ≡ gap k = ap (comment opening closing) (sym parts) ∙ h in
    subst (λ t. IsBetween (take k t)) (sym parts) (into _ (comment-is opening closing (drop (length opening) text) k same))

letters-no : (text run : List ℕ) → Gap text (letters run)
unfolding letters
letters-no text run k h = cc h

numeral-no : (text digits : List ℕ) → Gap text (numeral digits)
unfolding numeral
numeral-no text digits =
    of_choice (Gap text) (nat_le (decimal digits) 9223372036854775807) (token (number (decimal digits)) (length digits)) (fault numeral_too_large) (λ _ k h. cc h) (λ _ k h. cc h)

sign-no : (text : List ℕ) → Gap text (longest_sign text)
unfolding longest_sign
sign-no text = by (lookup (bytes_eq (take 2 text)) long_signs) (lookup (bytes_eq (take 1 text)) short_signs)
  where
    by : (o p : Option Sign) → Gap text (option_map_or (λ s. token (sign s) 2) o (option_map_or (λ s. token (sign s) 1) p (fault bad_byte)))
    by (Some s) p k h = cc h
    by None (Some s) k h = cc h
    by None None k h = cc h

pub gap-between : (text : List ℕ) → Gap text (front text)
unfolding front
gap-between [] = λ k h. cc h
gap-between (b ∷ rest) =
    let P : Front → Type 0 = Gap (b ∷ rest) in
    of_choice P (is_blank b) _ _ (λ is k h. let one : 1 ≡ k = cc h in
    subst (λ n. IsBetween (take n (b ∷ rest))) one (inl (record { byte = b; alone = refl; blank = is }))) (λ _.
    of_choice P (is_ascii_alphabetic b) _ _ (λ _. letters-no (b ∷ rest) (take_while is_ascii_alphanumeric (b ∷ rest))) (λ _.
    of_choice P (is_ascii_digit b) _ _ (λ _. numeral-no (b ∷ rest) (take_while is_ascii_digit (b ∷ rest))) (λ _.
    of_choice P (starts_with nat_eq (b ∷ rest) (codes "{")) _ _ (λ opens. comment-between (codes "{") (codes "}") (b ∷ rest) opens (λ t c. inr (inl c))) (λ _.
    of_choice P (starts_with nat_eq (b ∷ rest) (codes "(*")) _ _ (λ opens. comment-between (codes "(*") (codes "*)") (b ∷ rest) opens (λ t c. inr (inr c))) (λ _.
    sign-no (b ∷ rest))))))

-- a comment is found to its end
comment-found : (opening closing text rest : List ℕ) → 0 < length closing → (c : IsComment opening closing text)
    → comment opening closing (opening ++ (c.body ++ (closing ++ rest))) ≡ gap (length text)
unfolding comment
comment-found opening closing text rest some c =
    let behind : drop (length opening) (opening ++ (c.body ++ (closing ++ rest))) ≡ c.body ++ (closing ++ rest) = drop-front opening (c.body ++ (closing ++ rest)) in
    let size : length opening + length (c.body ++ closing) ≡ length text = sym (ap length c.parts ∙ length-append opening (c.body ++ closing)) in
    ap (λ l. option_map_or (λ k. gap (length opening + k)) (through closing l) (fault open_comment)) behind
    ∙ ap (λ o. option_map_or (λ k. gap (length opening + k)) o (fault open_comment)) (closed-through closing c.body rest some c.only_at_end)
    ∙ ap gap size

regroup : (opening closing text rest : List ℕ) (c : IsComment opening closing text) → text ++ rest ≡ opening ++ (c.body ++ (closing ++ rest))
regroup opening closing text rest c =
    ap (λ l. l ++ rest) c.parts ∙ append_assoc opening (c.body ++ closing) rest ∙ ap (λ l. opening ++ l) (append_assoc c.body closing rest)

-- each kind of comment begins with its own sign
pub braces-front : (text rest : List ℕ) → IsComment (codes "{") (codes "}") text → front (text ++ rest) ≡ gap (length text)
unfolding front
braces-front text rest c = ap front (regroup _ _ text rest c) ∙ comment-found (codes "{") (codes "}") text rest (omega arith) c

pub stars-front : (text rest : List ℕ) → IsComment (codes "(*") (codes "*)") text → front (text ++ rest) ≡ gap (length text)
unfolding front
stars-front text rest c = ap front (regroup _ _ text rest c) ∙ comment-found (codes "(*") (codes "*)") text rest (omega arith) c
