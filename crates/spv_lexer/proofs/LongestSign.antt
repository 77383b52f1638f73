-- The sign that is read is the longest one that stands at the front.
use Rattle.std.proofs.Common.{◌≡◌, ◌≤◌, ◌+◌, ◌++◌, ◌==◌, ℕ, Bool, true, false, nat_eq, nat_le, List, [], ◌∷◌, Option, Some, None, All, Contains, IsTrue, length, drop, take, unwrap_or, leb-true, codes, refl, sym, ap, subst, ◌∙◌, true≢false, arith}
use Rattle.std.specs.Char.{is_ascii_alphabetic, is_ascii_digit}
use Rattle.std.specs.List.{list_all, starts_with}
use Rattle.std.specs.Map.{lookup}
use Rattle.std.specs.Option.{option_map, option_map_or}
use Rattle.std.specs.Str.{bytes_eq}
use Rattle.std.proofs.lemmas.Bool.{eqb-true}
use Rattle.std.proofs.lemmas.List.Elements.{All-cons, All-append, Contains-append_left, Contains-append_right}
use Rattle.std.proofs.lemmas.Slice.Eq.{bytes_eq-Decides}
use Rattle.spv_logic.specs.names.Names.{folded}
use Rattle.spv_tree.specs.declared.tokens.token.Sign.{Sign}
use Rattle.spv_tree.specs.declared.tokens.token.Word.{Word}
use Rattle.spv_lexer.specs.Spelling.{word, name, number, sign, words, long_signs, short_signs}
use Rattle.spv_lexer.specs.Front.{Front, gap, token, fault, is_blank, through, comment, letters, numeral, decimal, longest_sign, front, open_comment, numeral_too_large, bad_byte}
use Rattle.spv_lexer.proofs.Joins.{both}
use Rattle.spv_lexer.proofs.Sizes.{of_choice}

module _ (text : List ℕ) (s : Sign) (k : ℕ) where
  -- if it is the sign s of k bytes, then that is the longest sign
  abbrev FromSign : Front → Type 0
  FromSign F = F ≡ token (sign s) k → longest_sign text ≡ token (sign s) k

  from_letters : (run : List ℕ) → FromSign (letters run)
  unfolding letters
  from_letters run = by (lookup (bytes_eq (folded run)) words)
    where
      by : (o : Option Word) → FromSign (token (unwrap_or (option_map word o) (name (folded run))) (length run))
      by None h = cc h
      by (Some w) h = cc h

  from_numeral : (digits : List ℕ) → FromSign (numeral digits)
  unfolding numeral
  from_numeral digits = of_choice FromSign (nat_le (decimal digits) 9223372036854775807) (token (number (decimal digits)) (length digits)) (fault numeral_too_large) (λ _ h. cc h) (λ _ h. cc h)

  from_comment : (opening closing all : List ℕ) → FromSign (comment opening closing all)
  unfolding comment
  from_comment opening closing all = by (through closing (drop (length opening) all))
    where
      by : (o : Option ℕ) → FromSign (option_map_or (λ j. gap (length opening + j)) o (fault open_comment))
      by None h = cc h
      by (Some j) h = cc h

sign-longest_sign : (text : List ℕ) (s : Sign) (k : ℕ) → FromSign text s k (front text)
unfolding front
sign-longest_sign [] s k = λ h. cc h
sign-longest_sign (b ∷ rest) s k =
    let P : Front → Type 0 = FromSign (b ∷ rest) s k in
    of_choice P (is_blank b) _ _ (λ _ h. cc h) (λ _.
    of_choice P (is_ascii_alphabetic b) _ _ (λ _. from_letters (b ∷ rest) s k _) (λ _.
    of_choice P (is_ascii_digit b) _ _ (λ _. from_numeral (b ∷ rest) s k _) (λ _.
    of_choice P (starts_with nat_eq (b ∷ rest) (codes "{")) _ _ (λ _. from_comment (b ∷ rest) s k (codes "{") (codes "}") (b ∷ rest)) (λ _.
    of_choice P (starts_with nat_eq (b ∷ rest) (codes "(*")) _ _ (λ _. from_comment (b ∷ rest) s k (codes "(*") (codes "*)") (b ∷ rest)) (λ _ h. h)))))

-- no entry is longer
none_longer : {X : Type 0} (Q : List ℕ × X → Type 0) (k : ℕ) (es : List (List ℕ × X)) → list_all (λ e. nat_le (length e.0) k) es ≡ true → All (λ e. Q e → length e.0 ≤ k) es
none_longer Q k [] h = λ i d below. absurd (omega arith)
none_longer Q k (e ∷ es) h =
    let parts = both (nat_le (length e.0) k) (list_all (λ e. nat_le (length e.0) k) es) h in
    All-cons (λ e. Q e → length e.0 ≤ k) e es (λ _. leb-true (length e.0) k parts.0) (none_longer Q k es parts.1)

-- where the first bytes are no entry, none of this length stands there
none_stands : {X : Type 0} (text : List ℕ) (n k : ℕ) (es : List (List ℕ × X)) → list_all (λ e. length e.0 == n) es ≡ true → lookup (bytes_eq (take n text)) es ≡ None
    → All (λ e. IsTrue (starts_with nat_eq text e.0) → length e.0 ≤ k) es
none_stands text n k [] h none = λ i d below. absurd (omega arith)
none_stands text n k (e ∷ es) h none =
    let parts = both (length e.0 == n) (list_all (λ e. length e.0 == n) es) h in
    by (bytes_eq (take n text) e.0) refl (eqb-true (length e.0) n parts.0) (none_stands text n k es parts.1)
  where
    by : (b : Bool) → bytes_eq (take n text) e.0 ≡ b → length e.0 ≡ n → (lookup (bytes_eq (take n text)) es ≡ None → All (λ e. IsTrue (starts_with nat_eq text e.0) → length e.0 ≤ k) es)
        → All (λ e. IsTrue (starts_with nat_eq text e.0) → length e.0 ≤ k) (e ∷ es)
    by true same size rest = let found : Some e.1 ≡ None = rw same at none in cc found
    by false other size rest =
        All-cons (λ e. IsTrue (starts_with nat_eq text e.0) → length e.0 ≤ k) e es
        (λ stands.
        let here : e.0 ≡ take (length e.0) text = (bytes_eq-Decides e.0 (take (length e.0) text)).0 stands in
        let first : take n text ≡ e.0 = ap (λ j. take j text) (sym size) ∙ sym here in
        absurd (true≢false (sym ((bytes_eq-Decides (take n text) e.0).1 first) ∙ other)))
        (rest (rw other at none))

-- what a look-up finds is an entry
lookup-entry : {X : Type 0} (t : List ℕ) (es : List (List ℕ × X)) (x : X) → lookup (bytes_eq t) es ≡ Some x → Contains es (t, x)
lookup-entry t [] x found = cc found
lookup-entry t (e ∷ es) x found = by (bytes_eq t e.0) refl (lookup-entry t es x)
  where
    by : (b : Bool) → bytes_eq t e.0 ≡ b → (lookup (bytes_eq t) es ≡ Some x → Contains es (t, x)) → Contains (e ∷ es) (t, x)
    by true same rest =
        let text : e.0 ≡ t = sym ((bytes_eq-Decides t e.0).0 same) in
        let some : Some e.1 ≡ Some x = rw same at found in
        let value : e.1 ≡ x = cc some in
        (0, omega arith, λ i. (text i, value i))
    by false other rest = Contains-append_right (e ∷ []) es (t, x) (rest (rw other at found))

-- the sign that is read stands there
pub sign-stands : (text : List ℕ) (s : Sign) (k : ℕ) → front text ≡ token (sign s) k → Contains (long_signs ++ short_signs) (take k text, s)
unfolding longest_sign
sign-stands text s k is = by (lookup (bytes_eq (take 2 text)) long_signs) refl (lookup (bytes_eq (take 1 text)) short_signs) refl (sign-longest_sign text s k is)
  where
    by : (o : Option Sign) → lookup (bytes_eq (take 2 text)) long_signs ≡ o → (p : Option Sign) → lookup (bytes_eq (take 1 text)) short_signs ≡ p
        → option_map_or (λ s. token (sign s) 2) o (option_map_or (λ s. token (sign s) 1) p (fault bad_byte)) ≡ token (sign s) k → Contains (long_signs ++ short_signs) (take k text, s)
    by (Some r) e p f h =
        let size : 2 ≡ k = cc h in
        let same : r ≡ s = cc h in
        Contains-append_left long_signs short_signs (take k text, s) (lookup-entry (take k text) long_signs s (ap (λ j. lookup (bytes_eq (take j text)) long_signs) (sym size) ∙ e ∙ ap Some same))
    by None e (Some r) f h =
        let size : 1 ≡ k = cc h in
        let same : r ≡ s = cc h in
        Contains-append_right long_signs short_signs (take k text, s) (lookup-entry (take k text) short_signs s (ap (λ j. lookup (bytes_eq (take j text)) short_signs) (sym size) ∙ f ∙ ap Some same))
    by None e None f h = cc h

-- and no longer one does
pub sign-longest : (text : List ℕ) (s : Sign) (k : ℕ) → front text ≡ token (sign s) k → All (λ e. IsTrue (starts_with nat_eq text e.0) → length e.0 ≤ k) (long_signs ++ short_signs)
unfolding longest_sign
sign-longest text s k is = by (lookup (bytes_eq (take 2 text)) long_signs) refl (lookup (bytes_eq (take 1 text)) short_signs) (sign-longest_sign text s k is)
  where
    by : (o : Option Sign) → lookup (bytes_eq (take 2 text)) long_signs ≡ o → (p : Option Sign)
        → option_map_or (λ s. token (sign s) 2) o (option_map_or (λ s. token (sign s) 1) p (fault bad_byte)) ≡ token (sign s) k → All (λ e. IsTrue (starts_with nat_eq text e.0) → length e.0 ≤ k) (long_signs ++ short_signs)
    by (Some r) e p h =
        let size : 2 ≡ k = cc h in
        subst (λ j. All (λ e. IsTrue (starts_with nat_eq text e.0) → length e.0 ≤ j) (long_signs ++ short_signs)) size
        (none_longer (λ e. IsTrue (starts_with nat_eq text e.0)) 2 (long_signs ++ short_signs) refl)
    by None e (Some r) h =
        let size : 1 ≡ k = cc h in
        subst (λ j. All (λ e. IsTrue (starts_with nat_eq text e.0) → length e.0 ≤ j) (long_signs ++ short_signs)) size
        (All-append (λ e. IsTrue (starts_with nat_eq text e.0) → length e.0 ≤ 1) long_signs short_signs (none_stands text 2 1 long_signs refl e)
        (none_longer (λ e. IsTrue (starts_with nat_eq text e.0)) 1 short_signs refl))
    by None e None h = cc h
