-- Tokens on the two sides of a gap are read as if each side stood alone.
use Rattle.std.proofs.Common.{◌≡◌, ◌<◌, ◌≤◌, ◌+◌, ◌++◌, ◌&&◌, ◌||◌, ℕ, zero, suc, Bool, true, false, nat_eq, nat_le, List, [], ◌∷◌, Option, Some, None, length, drop, take, map, if◌then◌else◌, codes, refl, sym, ap, ◌∙◌, arith}
use Rattle.std.specs.Char.{is_ascii_alphabetic, is_ascii_digit}
use Rattle.std.specs.List.{starts_with}
use Rattle.std.specs.Map.{lookup}
use Rattle.std.specs.Option.{option_map_or}
use Rattle.std.specs.Str.{bytes_eq}
use Rattle.std.proofs.lemmas.Bool.{eqb-true}
use Rattle.std.proofs.lemmas.List.{append_assoc, drop-append-le, length-drop}
use Rattle.std.proofs.Math.Seq.{drop-append_seam}
use Rattle.spv_tree.specs.declared.tokens.token.Sign.{Sign}
use Rattle.spv_lexer.specs.Spelling.{Spelling, number, sign, long_signs, short_signs}
use Rattle.spv_lexer.specs.Front.{Front, nothing, gap, token, fault, is_blank, through, comment, letters, numeral, decimal, longest_sign, front, open_comment, numeral_too_large, bad_byte}
use Rattle.spv_lexer.specs.Reading.{line_after, reading_from, kinds, IsGap, HasTokens}
use Rattle.spv_lexer.proofs.Sizes.{FitsIn, front_fits, of_choice, starts_with-length}
use Rattle.spv_lexer.proofs.Readings.{reading-empty, reading-nothing, reading-gap, reading-token, reading-fault}
use Rattle.spv_lexer.proofs.Joins.{both, BeginsApart, is_apart, Stays, front-append, of_choices, starts_same, through-append}

-- a gap stays one, whatever follows
abbrev GapStays : Front → Front → Type 0
GapStays before after = (k : ℕ) → before ≡ gap k → after ≡ gap k

comment_gap : (opening closing text x : List ℕ) → length opening ≤ length text → GapStays (comment opening closing text) (comment opening closing (text ++ x))
unfolding comment
comment_gap opening closing text x fits = by (through closing (drop (length opening) text)) refl
  where
    by : (o : Option ℕ) → through closing (drop (length opening) text) ≡ o → GapStays (option_map_or (λ k. gap (length opening + k)) o (fault open_comment)) (option_map_or (λ k. gap (length opening + k)) (through closing (drop (length opening) (text ++ x))) (fault open_comment))
    by None e k h = cc h
    by (Some j) e k h = rw (drop-append-le (length opening) text x fits, through-append closing (drop (length opening) text) x j e) h

letters_gap : (run : List ℕ) (F : Front) → GapStays (letters run) F
unfolding letters
letters_gap run F k h = cc h

numeral_gap : (digits : List ℕ) (F : Front) → GapStays (numeral digits) F
unfolding numeral
numeral_gap digits F =
    of_choice (λ G. GapStays G F) (nat_le (decimal digits) 9223372036854775807) (token (number (decimal digits)) (length digits)) (fault numeral_too_large) (λ _ k h. cc h) (λ _ k h. cc h)

sign_gap : (text : List ℕ) (F : Front) → GapStays (longest_sign text) F
unfolding longest_sign
sign_gap text F = by (lookup (bytes_eq (take 2 text)) long_signs) (lookup (bytes_eq (take 1 text)) short_signs)
  where
    by : (o p : Option Sign) → GapStays (option_map_or (λ s. token (sign s) 2) o (option_map_or (λ s. token (sign s) 1) p (fault bad_byte))) F
    by (Some s) p k h = cc h
    by None (Some s) k h = cc h
    by None None k h = cc h

pub gap-append : (text x : List ℕ) → GapStays (front text) (front (text ++ x))
unfolding front
gap-append [] x = λ k h. cc h
gap-append (b ∷ rest) x =
    of_choices GapStays (is_blank b) _ _ _ _ (λ _ k h. h) (λ _.
    of_choices GapStays (is_ascii_alphabetic b) _ _ _ _ (λ _. letters_gap _ _) (λ _.
    of_choices GapStays (is_ascii_digit b) _ _ _ _ (λ _. numeral_gap _ _) (λ _.
    of_choices GapStays (starts_with nat_eq (b ∷ rest) (codes "{")) _ _ _ _ (λ opens. comment_gap (codes "{") (codes "}") (b ∷ rest) x (starts_with-length (b ∷ rest) (codes "{") opens)) (λ _.
    by (starts_with nat_eq (b ∷ rest) (codes "(*")) refl))))
  where
    by : (t : Bool) → starts_with nat_eq (b ∷ rest) (codes "(*") ≡ t
        → GapStays (if starts_with nat_eq (b ∷ rest) (codes "(*") then comment (codes "(*") (codes "*)") (b ∷ rest) else longest_sign (b ∷ rest))
        (if starts_with nat_eq ((b ∷ rest) ++ x) (codes "(*") then comment (codes "(*") (codes "*)") ((b ∷ rest) ++ x) else longest_sign ((b ∷ rest) ++ x))
    by true e =
        let fits = starts_with-length (b ∷ rest) (codes "(*") e in
        rw (e, starts_same (b ∷ rest) (codes "(*") x fits ∙ e) (comment_gap (codes "(*") (codes "*)") (b ∷ rest) x fits)
    by false e = rw e (sign_gap (b ∷ rest) _)

-- a text whose front is a gap begins with a byte that is apart
abbrev GapApart : ℕ → Front → Type 0
GapApart b F = (k : ℕ) → F ≡ gap k → is_apart b ≡ true

or_cases : {P : Type 0} (a b : Bool) → (a || b) ≡ true → (a ≡ true → P) → (b ≡ true → P) → P
or_cases true b h f g = f refl
or_cases false b h f g = g h

is_apart-at : (b n : ℕ) → is_apart n ≡ true → nat_eq b n ≡ true → is_apart b ≡ true
is_apart-at b n known same = rw (eqb-true b n same) known

blank_apart : (b : ℕ) → is_blank b ≡ true → is_apart b ≡ true
blank_apart b h =
    or_cases _ (nat_eq b 13) h (λ h. or_cases _ (nat_eq b 10) h (λ h. or_cases (nat_eq b 32) (nat_eq b 9) h (is_apart-at b 32 refl) (is_apart-at b 9 refl)) (is_apart-at b 10 refl)) (is_apart-at b 13 refl)

first_of : (n b : ℕ) (rest : Bool) → (nat_eq n b && rest) ≡ true → b ≡ n
first_of n b rest h = sym (eqb-true n b (both (nat_eq n b) rest h).0)

never : (b : ℕ) (F : Front) → GapStays F nothing → GapApart b F
never b F h k is = let none : nothing ≡ gap k = h k is in cc none

gap_apart : (b : ℕ) (rest : List ℕ) → GapApart b (front (b ∷ rest))
unfolding front
gap_apart b rest =
    of_choice (GapApart b) (is_blank b) _ _ (λ blank k _. blank_apart b blank) (λ _.
    of_choice (GapApart b) (is_ascii_alphabetic b) _ _ (λ _. never b _ (letters_gap _ nothing)) (λ _.
    of_choice (GapApart b) (is_ascii_digit b) _ _ (λ _. never b _ (numeral_gap _ nothing)) (λ _.
    of_choice (GapApart b) (starts_with nat_eq (b ∷ rest) (codes "{")) _ _ (λ opens k _. rw (first_of 123 b true opens) refl) (λ _.
    of_choice (GapApart b) (starts_with nat_eq (b ∷ rest) (codes "(*")) _ _ (λ opens k _. rw (first_of 40 b _ opens) refl) (λ _.
    never b _ (sign_gap (b ∷ rest) nothing))))))

-- so a gap cannot join the token before it
pub gap_begins_apart : (text x : List ℕ) → IsGap text → BeginsApart (text ++ x)
unfolding front
gap_begins_apart [] x is = let none : nothing ≡ gap 0 = is in cc none
gap_begins_apart (b ∷ rest) x is = gap_apart b rest (length (b ∷ rest)) is

-- the kinds of the tokens of a text that begins on the line
abbrev kinds_from : ℕ → List ℕ → List Spelling
kinds_from line text = map (λ t. t.kind) (reading_from line text).tokens

-- one step of the next lemma
kinds-line_step : (l m : ℕ) (text : List ℕ) (F : Front) → front text ≡ F → FitsIn (length text) F
    → ((i j k : ℕ) → 0 < k → k ≤ length text → kinds_from i (drop k text) ≡ kinds_from j (drop k text)) → kinds_from l text ≡ kinds_from m text
kinds-line_step l m text nothing e size rest = rw (reading-nothing l text e, reading-nothing m text e) refl
kinds-line_step l m text (gap k) e size rest =
    rw (reading-gap l text k e, reading-gap m text k e) (rest (line_after l k text) (line_after m k text) k size.0 size.1)
kinds-line_step l m text (token kind k) e size rest =
    rw (reading-token l text k kind e, reading-token m text k kind e) (ap (λ ks. kind ∷ ks) (rest (line_after l k text) (line_after m k text) k size.0 size.1))
kinds-line_step l m text (fault f) e size rest = rw (reading-fault l text f e, reading-fault m text f e) refl

-- they are the same on every line
kinds-line : (n l m : ℕ) (text : List ℕ) → length text ≤ n → kinds_from l text ≡ kinds_from m text
kinds-line zero l m [] few = rw (reading-empty l, reading-empty m) refl
kinds-line zero l m (b ∷ text) few = absurd (omega arith)
kinds-line (suc n) l m text few =
    kinds-line_step l m text (front text) refl (front_fits text) (λ i j k some within. kinds-line n i j (drop k text) (omega (arith, length-drop k text)))

-- one step of the next lemma
kinds-apart_step : (l m o : ℕ) (text x : List ℕ) (F : Front) → front text ≡ F → FitsIn (length text) F → Stays F (front (text ++ x)) → 0 < length text
    → (reading_from m text).stop ≡ None
    → ((i j k : ℕ) → 0 < k → k ≤ length text → (reading_from j (drop k text)).stop ≡ None → kinds_from i (drop k text ++ x) ≡ kinds_from j (drop k text) ++ kinds_from o x)
    → kinds_from l (text ++ x) ≡ kinds_from m text ++ kinds_from o x
kinds-apart_step l m o text x nothing e size stays some is_read rest = absurd (omega arith)
kinds-apart_step l m o text x (gap k) e size stays some is_read rest =
    rw (reading-gap l (text ++ x) k stays, reading-gap m text k e, drop-append-le k text x size.1)
    (rest (line_after l k (text ++ x)) (line_after m k text) k size.0 size.1 (rw (reading-gap m text k e) at is_read))
kinds-apart_step l m o text x (token kind k) e size stays some is_read rest =
    rw (reading-token l (text ++ x) k kind stays, reading-token m text k kind e, drop-append-le k text x size.1)
    (ap (λ ks. kind ∷ ks) (rest (line_after l k (text ++ x)) (line_after m k text) k size.0 size.1 (rw (reading-token m text k kind e) at is_read)))
kinds-apart_step l m o text x (fault f) e size stays some is_read rest =
    let stop : Some (f, m) ≡ None = rw (reading-fault m text f e) at is_read in cc stop

-- a text that is read, and then one that begins apart
kinds-apart : (n l m o : ℕ) (text x : List ℕ) → length text ≤ n → (reading_from m text).stop ≡ None → BeginsApart x
    → kinds_from l (text ++ x) ≡ kinds_from m text ++ kinds_from o x
kinds-apart n l m o [] x few is_read apart = rw (reading-empty m) (kinds-line (length x) l o x (omega arith))
kinds-apart zero l m o (b ∷ rest) x few is_read apart = absurd (omega arith)
kinds-apart (suc n) l m o (b ∷ rest) x few is_read apart =
    let text : List ℕ = b ∷ rest in
    kinds-apart_step l m o text x (front text) refl (front_fits text) (front-append text x (omega arith) apart) (omega arith) is_read
    (λ i j k some within read. kinds-apart n i j o (drop k text) x (omega (arith, length-drop k text)) read apart)

-- the two sides of a gap
pub kinds-gap : (before between after : List ℕ) → HasTokens before → IsGap between → kinds (before ++ between ++ after) ≡ kinds before ++ kinds after
kinds-gap before between after is_read is_gap =
    let joined : kinds (before ++ (between ++ after)) ≡ kinds before ++ kinds_from 1 (between ++ after) =
    kinds-apart (length before) 1 1 1 before (between ++ after) (omega arith) is_read (gap_begins_apart between after is_gap) in
    let passed : kinds_from 1 (between ++ after) ≡ kinds_from (line_after 1 (length between) (between ++ after)) after =
    rw (reading-gap 1 (between ++ after) (length between) (gap-append between after (length between) is_gap), drop-append_seam between after) refl in
    let anywhere : kinds_from (line_after 1 (length between) (between ++ after)) after ≡ kinds after =
    kinds-line (length after) (line_after 1 (length between) (between ++ after)) 1 after (omega arith) in
    rw (append_assoc before between after) (joined ∙ ap (λ ks. kinds before ++ ks) (passed ∙ anywhere))
