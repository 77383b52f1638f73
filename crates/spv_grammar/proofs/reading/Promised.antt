-- From the two ways of reading to what is promised.
use Rattle.std.proofs.Common.{◌≡◌, ℕ, suc, ◌+◌, max, ◌≤◌, true, List, [], ◌∷◌, length, refl, sym, ap, ◌∙◌, arith}
use Rattle.spv_tree.specs.declared.tokens.token.Token.{Token}
use Rattle.spv_tree.specs.declared.tokens.token.TokenKind.{TokenKind}
use Rattle.spv_tree.specs.syntax.Reads.{kinds}
use Rattle.spv_grammar.specs.reading.Readers.{Reader}
use Rattle.spv_grammar.specs.reading.Laws.{Kind, SpelledIsRead, EnoughLevels, SpelledIsOne}
use Rattle.spv_grammar.proofs.reading.Fronts.{read_is}
use Rattle.spv_grammar.proofs.reading.Whole.{Complete}

kinds_length : (tokens : List Token) → length (kinds tokens) ≡ length tokens
kinds_length [] = refl
kinds_length (t ∷ tokens) = ap suc (kinds_length tokens)

module _ {A : Type 0} (k : Kind A) (read : ℕ → Reader A) (depth : A → ℕ) where
  abbrev pub IsWhole : Type 0
  IsWhole = (x : A) (n : ℕ) → k.formed x ≡ true → depth x ≤ n → Complete k.part (k.continues x) (read n) x

  pub read_by : IsWhole → SpelledIsRead k depth read
  read_by whole n tokens x spelled steps d s =
      let a = whole x n s.formed d tokens spelled steps s.stands s.ends in
      record { rest = a.rest; read = a.is; stands = a.stands }

  pub enough_by : IsWhole → ((x : A) (rest : List TokenKind) → depth x + length rest ≤ length (k.part.spelled x rest)) → EnoughLevels k read
  enough_by whole shallow n tokens l x spelled steps s =
      read_by whole n tokens x spelled steps (omega (arith, shallow x spelled, ap length s.stands.spelled, kinds_length tokens)) s

  pub one_by : IsWhole → SpelledIsOne k
  one_by whole tokens x y spelled others steps further s t =
      let a = read_by whole (max (depth x) (depth y)) tokens x spelled steps (omega arith) s in
      let b = read_by whole (max (depth x) (depth y)) tokens y others further (omega arith) t in
      let both : (x, a.rest) ≡ (y, b.rest) = read_is (x, a.rest) (y, b.rest) (sym a.read ∙ b.read) in
      (ap (λ p. p.0) both, sym a.stands.spelled ∙ ap (λ p. kinds p.1) both ∙ b.stands.spelled)
