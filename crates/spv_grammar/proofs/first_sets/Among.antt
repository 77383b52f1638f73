-- The line at which tokens go wrong is that of one of them.
use Rattle.std.proofs.Common.{◌≡◌, ℕ, ◌+◌, ◌-◌, ◌<◌, ◌≤◌, List, [], ◌∷◌, ◌++◌, length, refl, sym, ap, ◌∙◌, arith}
use Rattle.std.specs.Prelude.{Some, slice_get}
use Rattle.std.proofs.Math.Seq.{get_or-append_seam}
use Rattle.std.proofs.lemmas.Option.{slice_get_read, slice_get_past}
use Rattle.spv_tree.specs.declared.tokens.token.Token.{Token}
use Rattle.spv_grammar.specs.first_sets.Lines.{last_line, line_or, line_where, IsLineAmong}
use Rattle.spv_grammar.specs.first_sets.Begins.{GoesWrongAt, with_token, at_end, GoWrongAmong}

pub length_of : (xs ys : List Token) → length (xs ++ ys) ≡ length xs + length ys
length_of [] ys = omega arith
length_of (x ∷ xs) ys = omega (arith, length_of xs ys)

get_at : (xs : List Token) (t : Token) (ys : List Token) → slice_get (xs ++ t ∷ ys) (length xs) ≡ Some t
get_at xs t ys =
    let below : length xs < length (xs ++ t ∷ ys) = omega (arith, length_of xs (t ∷ ys)) in
    slice_get_read (xs ++ t ∷ ys) (length (xs ++ t ∷ ys)) (length xs) t refl below (sym (get_or-append_seam xs t ys t))

pub line_at : (xs : List Token) (t : Token) (ys : List Token) → line_where (xs ++ t ∷ ys) (length (t ∷ ys)) ≡ t.line
line_at xs t ys =
    let place : length (xs ++ t ∷ ys) - length (t ∷ ys) ≡ length xs = omega (arith, length_of xs (t ∷ ys)) in
    ap (λ n. line_or (last_line (xs ++ t ∷ ys)) (slice_get (xs ++ t ∷ ys) n)) place ∙ ap (line_or (last_line (xs ++ t ∷ ys))) (get_at xs t ys)

pub line_at_end : (tokens : List Token) → line_where tokens 0 ≡ last_line tokens
line_at_end tokens =
    let past : length tokens ≤ length tokens - 0 = omega arith in
    ap (line_or (last_line tokens)) (slice_get_past tokens (length tokens - 0) past)

module _ {A : Type 0} (reads : List Token → A → Type 0) where
  among_by : (tokens : List Token) (line : ℕ) → GoesWrongAt reads tokens line → IsLineAmong tokens line
  among_by _ _ (with_token xs t ys w) = record { left = length (t ∷ ys); is = sym (line_at xs t ys) }
  among_by _ _ (at_end tokens b) = record { left = 0; is = sym (line_at_end tokens) }

  pub among : GoWrongAmong reads
  among = among_by
