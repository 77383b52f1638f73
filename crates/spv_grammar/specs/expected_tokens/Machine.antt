-- What a list of expected parts makes of tokens.
use Rattle.std.specs.Prelude.{◌≡◌, ℕ, List, [], ◌∷◌, ◌++◌, Some, length}
use Rattle.spv_tree.specs.declared.tokens.token.Token.{Token}
use Rattle.spv_grammar.specs.reading.Readers.{front}
use Rattle.spv_grammar.specs.expected_tokens.Expected.{Expected, unexpected, taken, opened, predict}

-- from these expected parts and tokens one comes to those
pub data Leads : List Expected → List Token → List Expected → List Token → Type 0 where
  here : (ps : List Expected) (tokens : List Token) → Leads ps tokens ps tokens
  takes : (p : Expected) (parts ps : List Expected) (t : Token) (tokens : List Token) (qs : List Expected) (rest : List Token) → predict p (Some t.kind) ≡ taken parts → Leads (parts ++ ps) tokens qs rest → Leads (p ∷ ps) (t ∷ tokens) qs rest
  opens : (p : Expected) (parts ps : List Expected) (tokens : List Token) (qs : List Expected) (rest : List Token) → predict p (front tokens) ≡ opened parts → Leads (parts ++ ps) tokens qs rest → Leads (p ∷ ps) tokens qs rest

-- the tokens go wrong where so many are left: the first of them does not fit, or there is none, or nothing is expected there
pub data Wrong : List Expected → List Token → ℕ → Type 0 where
  misfits : (p : Expected) (ps : List Expected) (tokens : List Token) → predict p (front tokens) ≡ unexpected → Wrong (p ∷ ps) tokens (length tokens)
  surplus : (t : Token) (tokens : List Token) → Wrong [] (t ∷ tokens) (length (t ∷ tokens))
  after_taking : (p : Expected) (parts ps : List Expected) (t : Token) (tokens : List Token) (left : ℕ) → predict p (Some t.kind) ≡ taken parts → Wrong (parts ++ ps) tokens left → Wrong (p ∷ ps) (t ∷ tokens) left
  after_opening : (p : Expected) (parts ps : List Expected) (tokens : List Token) (left : ℕ) → predict p (front tokens) ≡ opened parts → Wrong (parts ++ ps) tokens left → Wrong (p ∷ ps) tokens left
