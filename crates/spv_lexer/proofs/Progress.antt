-- How far the walk over a text has come.
use Rattle.std.proofs.Common.{◌≡◌, ◌<◌, ◌≤◌, ◌+◌, ◌-◌, ◌++◌, ◌==◌, ℕ, Bool, true, false, if◌then◌else◌, List, [], ◌∷◌, Some, None, Result, Ok, Err, IsErrAnd, IfErr, OnErr, length, drop, take, count_by, refl, sym, ap, ◌∙◌, arith}
use Rattle.std.proofs.lemmas.List.{take_rest, length-append, length-drop, length-take, append_assoc, append-nil}
use Rattle.std.proofs.Math.Seq.{take-append_seam}
use Rattle.std.proofs.lemmas.List.Sums.{count_by-le-length, fold-append}
use Rattle.spv_tree.specs.declared.tokens.token.Token.{Token}
use Rattle.spv_lexer.specs.Spelling.{Spelling, word, name, number, sign}
use Rattle.spv_lexer.specs.Front.{Fault, Front, nothing, gap, token, fault, front, bad_byte, open_comment, numeral_too_large}
use Rattle.spv_lexer.specs.Reading.{Spelled, Reading, empty_reading, with_token, line_after, reading_from, reading}
use Rattle.spv_lexer.specs.Tokens.{with_name, kind_of, names_after, numbered, HasTextCause}
use Rattle.spv_lexer.specs.Seen.{IsPieceOf, IsRefusalOf, tokens_of}
use Rattle.spv_lexer.specs.declared.lexer.Piece.{Piece}
use Rattle.spv_lexer.specs.declared.LexFault.{LexFault}
use Rattle.spv_lexer.specs.declared.LexFault.TheVariants.{BadByte, OpenComment, NumeralTooLarge, TextTooLong, Memory}
use Rattle.spv_lexer.proofs.Sizes.{FitsIn, front_fits}
use Rattle.std.specs.List.{list_any}
use Rattle.std.specs.Str.{bytes_eq}
use Rattle.spv_lexer.proofs.Readings.{reading-empty, reading-gap, reading-token, reading-fault}

-- a reading with tokens put in front
abbrev pub with_tokens : List Spelled → Reading → Reading
with_tokens seen r = record { tokens = seen ++ r.tokens; stop = r.stop }

-- from these names, the walk has taken the tokens seen of the text, and what is left begins on the line
pub record Reached (start : List (List ℕ)) (text : List ℕ) (line : ℕ) (rest : List ℕ) (names : List (List ℕ)) (tokens : List Token) : Type 0 where
  pub seen : List Spelled
  pub whole : reading text ≡ with_tokens seen (reading_from line rest)
  pub names_are : names ≡ names_after start seen
  pub tokens_are : tokens ≡ numbered start seen

-- one token more
numbered-append : (start : List (List ℕ)) (seen : List Spelled) (t : Spelled) → numbered start (seen ++ t ∷ []) ≡ numbered start seen ++ record { kind = kind_of (names_after start seen) t.kind; line = t.line } ∷ []
unfolding numbered
numbered-append start [] t = refl
numbered-append start (s ∷ seen) t = ap (λ l. record { kind = kind_of start s.kind; line = s.line } ∷ l) (numbered-append (with_name start s.kind) seen t)

-- one token more in front of a reading
with_tokens-more : (seen : List Spelled) (t : Spelled) (r : Reading) → with_tokens seen (with_token t r) ≡ with_tokens (seen ++ t ∷ []) r
with_tokens-more seen t r = let more : seen ++ (t ∷ r.tokens) ≡ (seen ++ t ∷ []) ++ r.tokens = sym (append_assoc seen (t ∷ []) r.tokens) in λ i. record { tokens = more i; stop = r.stop }

pub Reached-start : (start : List (List ℕ)) (text : List ℕ) → Reached start text 1 text start []
unfolding numbered
Reached-start start text = record { seen = []; whole = refl; names_are = refl; tokens_are = refl }

module _ (start : List (List ℕ)) (text : List ℕ) (line : ℕ) (rest : List ℕ) (names : List (List ℕ)) (tokens : List Token) (so : Reached start text line rest names tokens) where
  -- a gap
  passed : (k : ℕ) → front rest ≡ gap k → Reached start text (line_after line k rest) (drop k rest) names tokens
  passed k is = record { seen = so.seen; whole = so.whole ∙ ap (with_tokens so.seen) (reading-gap line rest k is); names_are = so.names_are; tokens_are = so.tokens_are }

  -- a token
  taken : (kind : Spelling) (k : ℕ) → front rest ≡ token kind k
      → Reached start text (line_after line k rest) (drop k rest) (with_name names kind) (tokens ++ record { kind = kind_of names kind; line = line } ∷ [])
  taken kind k is =
      let t : Spelled = record { kind = kind; line = line } in
      record {
        seen = so.seen ++ t ∷ [];
        whole = so.whole ∙ ap (with_tokens so.seen) (reading-token line rest k kind is) ∙ with_tokens-more so.seen t (reading_from (line_after line k rest) (drop k rest));
        names_are = ap (λ n. with_name n kind) so.names_are ∙ sym (fold-append (λ table s. with_name table s.kind) start so.seen (t ∷ []));
        tokens_are = (λ i. so.tokens_are i ++ record { kind = kind_of (so.names_are i) kind; line = line } ∷ []) ∙ sym (numbered-append start so.seen t);
      }

  -- the piece that the lexer read
  pub Reached-piece : (p : Piece) (next : List (List ℕ)) → IsPieceOf (front rest) names next p
      → Reached start text (line_after line p.len rest) (drop p.len rest) next (tokens ++ tokens_of p.kind line)
  Reached-piece p next is = by (front rest) refl is
    where
      by : (F : Front) → front rest ≡ F → IsPieceOf F names next p → Reached start text (line_after line p.len rest) (drop p.len rest) next (tokens ++ tokens_of p.kind line)
      by nothing e h = absurd h
      by (gap k) e h = rw (h.0, h.1, h.2, append-nil) (passed k e)
      by (token kind k) e h = rw (h.0, h.1, h.2) (taken kind k e)
      by (fault f) e h = absurd h

  -- the names are those of some first tokens of the text
  pub Reached-grown : (k : ℕ) × (names ≡ names_after start (take k (reading text).tokens))
  Reached-grown =
      let first : take (length so.seen) (reading text).tokens ≡ so.seen = rw so.whole (take-append_seam so.seen (reading_from line rest).tokens) in
      (length so.seen, so.names_are ∙ ap (names_after start) (sym first))

  stopped : (f : Fault) → front rest ≡ fault f → (reading text).stop ≡ Some (f, line)
  stopped f is = ap (λ r. r.stop) (so.whole ∙ ap (with_tokens so.seen) (reading-fault line rest f is))

  -- the lexer's refusal is that of the text
  pub Reached-refused : (e : LexFault) → IsRefusalOf (front rest) line e → HasTextCause text e
  Reached-refused (BadByte n) is = stopped bad_byte is.0 ∙ ap (λ l. Some (bad_byte, l)) (sym is.1)
  Reached-refused (OpenComment n) is = stopped open_comment is.0 ∙ ap (λ l. Some (open_comment, l)) (sym is.1)
  Reached-refused (NumeralTooLarge n) is = stopped numeral_too_large is.0 ∙ ap (λ l. Some (numeral_too_large, l)) (sym is.1)
  Reached-refused TextTooLong is = absurd is
  Reached-refused Memory is = tt

-- at the end of the text the tokens are all
pub Reached-end : (start : List (List ℕ)) (text : List ℕ) (line : ℕ) (rest : List ℕ) (names : List (List ℕ)) (tokens : List Token) → Reached start text line rest names tokens → rest ≡ []
    → (tokens ≡ numbered start (reading text).tokens) × ((reading text).stop ≡ None) × (names ≡ names_after start (reading text).tokens)
Reached-end start text line rest names tokens so none =
    let whole : reading text ≡ with_tokens so.seen empty_reading = so.whole ∙ ap (with_tokens so.seen) (rw none (reading-empty line)) in
    let all : (reading text).tokens ≡ so.seen = ap (λ r. r.tokens) whole ∙ append-nil so.seen in
    (so.tokens_are ∙ ap (numbered start) (sym all), ap (λ r. r.stop) whole, so.names_are ∙ ap (names_after start) (sym all))

-- a token brings at most one name
with_name-length : (names : List (List ℕ)) (kind : Spelling) → length (with_name names kind) ≤ length names + 1
with_name-length names (word w) = omega arith
with_name-length names (name text) = by (list_any (bytes_eq text) names)
  where
    by : (b : Bool) → length (if b then names else names ++ text ∷ []) ≤ length names + 1
    by true = omega arith
    by false = omega (arith, length-append names (text ∷ []))
with_name-length names (number n) = omega arith
with_name-length names (sign s) = omega arith

-- a piece takes at least one byte and no more than there are, and brings at most one name
pub piece_size : (rest : List ℕ) (names next : List (List ℕ)) (p : Piece) → IsPieceOf (front rest) names next p
    → (0 < p.len) × (p.len ≤ length rest) × (length next ≤ length names + 1)
piece_size rest names next p is = by (front rest) (front_fits rest) is
  where
    by : (F : Front) → FitsIn (length rest) F → IsPieceOf F names next p → (0 < p.len) × (p.len ≤ length rest) × (length next ≤ length names + 1)
    by nothing size h = absurd h
    by (gap k) size h = rw (h.1, h.2) (size.0, size.1, omega arith)
    by (token kind k) size h = rw (h.1, h.2) (size.0, size.1, with_name-length names kind)
    by (fault f) size h = absurd h

-- the same of a piece in the middle of a text
pub step_size : (text : List ℕ) (at : ℕ) (names next : List (List ℕ)) (p : Piece) → at < length text → IsPieceOf (front (take (length text - at) (drop at text))) names next p
    → (0 < p.len) × (at + p.len ≤ length text) × (length next ≤ length names + 1)
step_size text at names next p inside is =
    let size = piece_size (take (length text - at) (drop at text)) names next p is in
    (size.0, omega (arith, size.1, length-take (length text - at) (drop at text), length-drop at text), size.2)

-- what holds of the error that a `?` passed on
pub if_err : {T E : Type 0} (r : Result T E) (P Q : E → Type 0) → IsErrAnd r P → ((e : E) → P e → Q e) → IfErr r Q
if_err (Ok x) P Q h f = tt
if_err (Err e) P Q h f = f e h

pub on_err : {T E : Type 0} (r : Result T E) (Q : Type 0) → Q → OnErr r Q
on_err (Ok x) Q q = tt
on_err (Err e) Q q = q

-- the line behind a piece in the middle of a text
pub next_line : (text : List ℕ) (line at k n : ℕ) → n ≡ count_by (λ b. b == 10) (take k (take (length text - at) (drop at text))) → line + n ≡ line_after line k (drop at text)
next_line text line at k n is = ap (λ m. line + m) (rw take_rest at is)

-- no more lines end than there are bytes
pub lines-bound : (rest : List ℕ) (k n : ℕ) → n ≡ count_by (λ b. b == 10) (take k rest) → n ≤ k
lines-bound rest k n is = omega (arith, count_by-le-length (λ b. b == 10) (take k rest), length-take k rest)
