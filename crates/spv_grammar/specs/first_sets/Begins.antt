-- Which tokens begin a text, and at which line tokens go wrong that are none. `reads` says when a tree reads tokens.
use Rattle.std.specs.Prelude.{◌≡◌, ℕ, List, [], ◌∷◌, ◌++◌}
use Rattle.spv_tree.specs.declared.tokens.token.Token.{Token}
use Rattle.spv_grammar.specs.first_sets.Lines.{last_line, IsLineAmong}

-- with some tokens behind them, a tree reads them
pub record Begins {A : Type 0} (reads : List Token → A → Type 0) (tokens : List Token) : Type 0 where
  pub more : List Token
  pub tree : A
  pub read : reads (tokens ++ more) tree

-- the tokens before this one begin a text, and with it they do not
pub record GoesWrongWith {A : Type 0} (reads : List Token → A → Type 0) (before : List Token) (t : Token) : Type 0 where
  pub right : Begins reads before
  pub wrong : Begins reads (before ++ t ∷ []) → ⊥

-- the line at which tokens go wrong: that of the token with which they do, or of the last one, where all of them begin a text
pub data GoesWrongAt {A : Type 0} (reads : List Token → A → Type 0) : List Token → ℕ → Type 0 where
  with_token : (before : List Token) (t : Token) (behind : List Token) → GoesWrongWith reads before t → GoesWrongAt reads (before ++ t ∷ behind) t.line
  at_end : (tokens : List Token) → Begins reads tokens → GoesWrongAt reads tokens (last_line tokens)

-- ---- what follows

-- the first tokens of tokens that begin a text begin one too
abbrev pub PrefixesBegin : {A : Type 0} → (List Token → A → Type 0) → Type 0
PrefixesBegin reads = (before behind : List Token) → Begins reads (before ++ behind) → Begins reads before

-- there is one such line at most
abbrev pub GoWrongAtOneLine : {A : Type 0} → (List Token → A → Type 0) → Type 0
GoWrongAtOneLine reads = (tokens : List Token) (line other : ℕ) → GoesWrongAt reads tokens line → GoesWrongAt reads tokens other → line ≡ other

-- and it is that of one of the tokens, or 1 where there is none
abbrev pub GoWrongAmong : {A : Type 0} → (List Token → A → Type 0) → Type 0
GoWrongAmong reads = (tokens : List Token) (line : ℕ) → GoesWrongAt reads tokens line → IsLineAmong tokens line
