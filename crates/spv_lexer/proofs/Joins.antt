-- What stands behind a text and cannot join its last token changes no front of it.
use Rattle.std.proofs.Common.{◌≡◌, ◌<◌, ◌≤◌, ◌+◌, ◌++◌, ◌&&◌, ℕ, suc, Bool, true, false, cond, not, nat_eq, List, [], ◌∷◌, Option, Some, None, length, drop, take_while, if◌then◌else◌, codes, refl, sym, ap, ◌∙◌, true≢false, arith}
use Rattle.std.specs.Char.{is_ascii_alphabetic, is_ascii_alphanumeric, is_ascii_digit}
use Rattle.std.specs.List.{starts_with, prefix_len}
use Rattle.std.specs.Map.{lookup}
use Rattle.std.specs.Option.{option_map_or}
use Rattle.std.specs.Str.{bytes_eq}
use Rattle.std.specs.Cmp.Lexicographic.{pointwise}
use Rattle.std.proofs.lemmas.List.{take-append-le, drop-append-le}
use Rattle.std.proofs.lemmas.List.Sums.{prefix_len-le-length}
use Rattle.spv_lexer.specs.Spelling.{long_signs}
use Rattle.spv_lexer.specs.Front.{Front, nothing, gap, token, fault, is_blank, through, comment, letters, numeral, longest_sign, front, open_comment}
use Rattle.spv_lexer.proofs.Fronts.{no_long_sign}
use Rattle.spv_lexer.proofs.Sizes.{starts_with-length}

-- a byte that goes on with no token: no letter or digit, none of `=`, `>` and `.`, and no `*`, which would make `(` a comment
abbrev pub is_apart : ℕ → Bool
is_apart h = not (is_ascii_alphanumeric h) && (not (is_ascii_digit h) && (not (nat_eq h 61) && (not (nat_eq h 62) && (not (nat_eq h 46) && not (nat_eq 42 h)))))

-- the text begins with no byte that could join what stands before it
abbrev pub BeginsApart : List ℕ → Type 0
BeginsApart [] = Unit {0}
BeginsApart (h ∷ x) = is_apart h ≡ true

pub both : (a b : Bool) → (a && b) ≡ true → (a ≡ true) × (b ≡ true)
both true b h = (refl, h)
both false b h = absurd (true≢false (sym h))

un_not : (a : Bool) → not a ≡ true → a ≡ false
un_not true h = absurd (true≢false (sym h))
un_not false h = refl

and_false : (a : Bool) → (a && false) ≡ false
and_false true = refl
and_false false = refl

-- what a byte that is apart is not
record Apart (h : ℕ) : Type 0 where
  no_letter : is_ascii_alphanumeric h ≡ false
  no_digit : is_ascii_digit h ≡ false
  no_equal : nat_eq h 61 ≡ false
  no_greater : nat_eq h 62 ≡ false
  no_period : nat_eq h 46 ≡ false
  no_star : nat_eq 42 h ≡ false

apart : (h : ℕ) → is_apart h ≡ true → Apart h
apart h is =
    let a = both _ _ is in
    let b = both _ _ a.1 in
    let c = both _ _ b.1 in
    let d = both _ _ c.1 in
    let e = both _ _ d.1 in
    record {
      no_letter = un_not _ a.0;
      no_digit = un_not _ b.0;
      no_equal = un_not _ c.0;
      no_greater = un_not _ d.0;
      no_period = un_not _ e.0;
      no_star = un_not _ e.1;
    }

-- a relation between two choices by one test
pub of_choices : (R : Front → Front → Type 0) (b : Bool) (x y x' y' : Front) → (b ≡ true → R x x') → (b ≡ false → R y y') → R (if b then x else y) (if b then x' else y')
of_choices R true x y x' y' h g = h refl
of_choices R false x y x' y' h g = g refl

-- a row ends where no byte follows that belongs to it
row_stops : (p : ℕ → Bool) (xs x : List ℕ) → prefix_len p x ≡ 0 → prefix_len p (xs ++ x) ≡ prefix_len p xs
row_stops p [] x none = none
row_stops p (b ∷ xs) x none = ap (λ n. cond (p b) (1 + n) 0) (row_stops p xs x none)

take_while_stops : (p : ℕ → Bool) (xs x : List ℕ) → prefix_len p x ≡ 0 → take_while p (xs ++ x) ≡ take_while p xs
take_while_stops p xs x none = rw (row_stops p xs x none) (take-append-le (prefix_len p xs) xs x (prefix_len-le-length p xs))

no_letters : (x : List ℕ) → BeginsApart x → prefix_len is_ascii_alphanumeric x ≡ 0
no_letters [] h = refl
no_letters (b ∷ x) h = rw (apart b h).no_letter refl

no_digits : (x : List ℕ) → BeginsApart x → prefix_len is_ascii_digit x ≡ 0
no_digits [] h = refl
no_digits (b ∷ x) h = rw (apart b h).no_digit refl

-- a sign that fits in the text stands there with and without what follows
pub starts_same : (t s x : List ℕ) → length s ≤ length t → starts_with nat_eq (t ++ x) s ≡ starts_with nat_eq t s
starts_same t s x fits = ap (pointwise nat_eq s) (take-append-le (length s) t x fits)

-- a closing sign that is found fits in the text
through_long : (closing text : List ℕ) (k : ℕ) → through closing text ≡ Some k → length closing ≤ length text
through_long closing [] k h = cc
through_long closing (b ∷ text) k h = by (starts_with nat_eq (b ∷ text) closing) refl (through closing text) refl (through_long closing text)
  where
    by : (t : Bool) → starts_with nat_eq (b ∷ text) closing ≡ t → (o : Option ℕ) → through closing text ≡ o → ((j : ℕ) → through closing text ≡ Some j → length closing ≤ length text) → length closing ≤ length (b ∷ text)
    by true e o f rest = starts_with-length (b ∷ text) closing e
    by false e None f rest = let none : None ≡ Some k = rw (e, f) at h in cc none
    by false e (Some j) f rest = let within = rest j f in omega arith

-- it is found in the same place when more follows
pub through-append : (closing text x : List ℕ) (k : ℕ) → through closing text ≡ Some k → through closing (text ++ x) ≡ Some k
through-append closing [] x k h = cc
through-append closing (b ∷ text) x k h =
    let fits = through_long closing (b ∷ text) k h in
    let same = starts_same (b ∷ text) closing x fits in
    by (starts_with nat_eq (b ∷ text) closing) refl same (through closing text) refl (through-append closing text x)
  where
    by : (t : Bool) → starts_with nat_eq (b ∷ text) closing ≡ t → starts_with nat_eq ((b ∷ text) ++ x) closing ≡ starts_with nat_eq (b ∷ text) closing
        → (o : Option ℕ) → through closing text ≡ o → ((j : ℕ) → through closing text ≡ Some j → through closing (text ++ x) ≡ Some j) → through closing ((b ∷ text) ++ x) ≡ Some k
    by true e same o f rest = let found : Some (length closing) ≡ Some k = rw e at h in rw (same ∙ e) found
    by false e same None f rest = let none : None ≡ Some k = rw (e, f) at h in cc none
    by false e same (Some j) f rest = let found : Some (suc j) ≡ Some k = rw (e, f) at h in rw (same ∙ e, rest j f) found

-- a front that is no fault stays as it is
abbrev pub Stays : Front → Front → Type 0
Stays (fault f) after = Unit {0}
Stays before after = after ≡ before

same_stays : (F G : Front) → G ≡ F → Stays F G
same_stays nothing G e = e
same_stays (gap k) G e = e
same_stays (token s k) G e = e
same_stays (fault f) G e = tt

comment_stays : (opening closing text x : List ℕ) → length opening ≤ length text → Stays (comment opening closing text) (comment opening closing (text ++ x))
unfolding comment
comment_stays opening closing text x fits = by (through closing (drop (length opening) text)) refl
  where
    by : (o : Option ℕ) → through closing (drop (length opening) text) ≡ o → Stays (option_map_or (λ k. gap (length opening + k)) o (fault open_comment)) (option_map_or (λ k. gap (length opening + k)) (through closing (drop (length opening) (text ++ x))) (fault open_comment))
    by None e = tt
    by (Some k) e = rw (drop-append-le (length opening) text x fits, through-append closing (drop (length opening) text) x k e) refl

-- no sign of two bytes ends with a byte that is apart
no_sign : (b h : ℕ) → Apart h → lookup (bytes_eq (b ∷ h ∷ [])) long_signs ≡ None
no_sign b h is = simp (is.no_equal, is.no_greater, is.no_period, and_false)

sign_stays : (b : ℕ) (rest x : List ℕ) → BeginsApart x → longest_sign ((b ∷ rest) ++ x) ≡ longest_sign (b ∷ rest)
unfolding longest_sign
sign_stays b [] [] h = refl
sign_stays b [] (c ∷ x) h = rw (no_sign b c (apart c h), no_long_sign (b ∷ []) (omega arith)) refl
sign_stays b (c ∷ rest) x h = refl

-- whether a comment of the second kind begins
opens_same : (b : ℕ) (rest x : List ℕ) → BeginsApart x → starts_with nat_eq ((b ∷ rest) ++ x) (codes "(*") ≡ starts_with nat_eq (b ∷ rest) (codes "(*")
opens_same b [] [] h = refl
opens_same b [] (c ∷ x) h = rw (apart c h).no_star refl
opens_same b (c ∷ rest) x h = refl

-- what follows a text and is apart leaves its front, unless that is a fault
pub front-append : (text x : List ℕ) → 0 < length text → BeginsApart x → Stays (front text) (front (text ++ x))
unfolding front
front-append [] x some h = absurd (omega arith)
front-append (b ∷ rest) x some h =
    rw (opens_same b rest x h) (
    of_choices Stays (is_blank b) _ _ _ _ (λ _. refl) (λ _.
    of_choices Stays (is_ascii_alphabetic b) _ _ _ _ (λ _. same_stays _ _ (ap letters (take_while_stops is_ascii_alphanumeric (b ∷ rest) x (no_letters x h)))) (λ _.
    of_choices Stays (is_ascii_digit b) _ _ _ _ (λ _. same_stays _ _ (ap numeral (take_while_stops is_ascii_digit (b ∷ rest) x (no_digits x h)))) (λ _.
    of_choices Stays (starts_with nat_eq (b ∷ rest) (codes "{")) _ _ _ _ (λ opens. comment_stays (codes "{") (codes "}") (b ∷ rest) x (starts_with-length (b ∷ rest) (codes "{") opens)) (λ _.
    of_choices Stays (starts_with nat_eq (b ∷ rest) (codes "(*")) _ _ _ _ (λ opens. comment_stays (codes "(*") (codes "*)") (b ∷ rest) x (starts_with-length (b ∷ rest) (codes "(*") opens)) (λ _.
    same_stays _ _ (sign_stays b rest x h)))))))
