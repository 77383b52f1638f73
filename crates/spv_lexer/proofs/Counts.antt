-- A text has no more tokens than bytes.
use Rattle.std.proofs.Common.{◌≡◌, ◌≤◌, ℕ, zero, suc, List, [], ◌∷◌, length, drop, Ok, Err, Result, IfOk, refl, ap, ◌∙◌, arith}
use Rattle.spv_tree.specs.declared.tokens.token.Token.{Token}
use Rattle.spv_lexer.specs.Front.{Front, nothing, gap, token, fault, front}
use Rattle.spv_lexer.specs.Reading.{Spelled, Reading, by_front, pieces, reading_from, reading, line_after}
use Rattle.spv_lexer.specs.Tokens.{numbered, with_name}

by_front_few : (n : ℕ) (rest : ℕ → List ℕ → Reading) → ((line : ℕ) (text : List ℕ) → length (rest line text).tokens ≤ n) → (line : ℕ) (text : List ℕ) (f : Front) → length (by_front rest line text f).tokens ≤ suc n
unfolding by_front
by_front_few n rest few line text nothing = omega arith
by_front_few n rest few line text (gap k) = let h = few (line_after line k text) (drop k text) in omega (arith, h)
by_front_few n rest few line text (token kind k) = let h = few (line_after line k text) (drop k text) in omega (arith, h)
by_front_few n rest few line text (fault f) = omega arith

pieces_few : (n line : ℕ) (text : List ℕ) → length (pieces n line text).tokens ≤ n
unfolding pieces
pieces_few zero line text = omega arith
pieces_few (suc n) line text = by_front_few n (pieces n) (pieces_few n) line text (front text)

reading_few : (text : List ℕ) → length (reading text).tokens ≤ length text
unfolding reading_from
reading_few text = pieces_few (length text) 1 text

numbered_long : (names : List (List ℕ)) (tokens : List Spelled) → length (numbered names tokens) ≡ length tokens
unfolding numbered
numbered_long names [] = refl
numbered_long names (t ∷ tokens) = let h = numbered_long (with_name names t.kind) tokens in omega (arith, h)

pub few_tokens : (names : List (List ℕ)) (text : List ℕ) (tokens : List Token) → tokens ≡ numbered names (reading text).tokens → length tokens ≤ length text
few_tokens names text tokens is =
    let same : length tokens ≡ length (reading text).tokens = ap length is ∙ numbered_long names (reading text).tokens in
    let h = reading_few text in
    omega (arith, same, h)

pub result_few : {T E : Type 0} (r : Result T E) (items : T → List Token) (names : List (List ℕ)) (text : List ℕ) → IfOk r (λ ts. items ts ≡ numbered names (reading text).tokens) → IfOk r (λ ts. length (items ts) ≤ length text)
result_few (Ok ts) items names text is = few_tokens names text (items ts) is
result_few (Err e) items names text is = tt
