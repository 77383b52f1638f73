-- What is promised of the level.
use Rattle.std.specs.Prelude.{◌≡◌, ℕ, ◌+◌, ◌<◌, ◌≤◌, List, None, ◌++◌}
use Rattle.spv_tree.specs.declared.tokens.token.Token.{Token}
use Rattle.spv_tree.specs.declared.tokens.token.TokenKind.{TokenKind}
use Rattle.spv_tree.specs.syntax.Reads.{kinds}
use Rattle.spv_grammar.specs.reading.Readers.{Reader}
use Rattle.spv_grammar.specs.reading.Laws.{IsReadingBy}
use Rattle.spv_grammar.specs.nesting.Level.{Counters, level, highest, too_deep}

-- the way over a part goes up by as many levels as the part has, wherever it stands
abbrev pub GoesUpBy : {A : Type 0} → (A → ℕ) → (A → List TokenKind → List TokenKind) → Type 0
GoesUpBy {A} depth spelled = (x : A) (c : Counters) (rest : List TokenKind) → level c + depth x ≤ highest c (spelled x rest)

-- so a part of a text that is nowhere too deep has less than 200 levels
abbrev pub IsShallow : {A : Type 0} → (A → ℕ) → (A → List TokenKind → List TokenKind) → Type 0
IsShallow {A} depth spelled =
    (before tokens : List Token) (x : A) (rest : List TokenKind) → too_deep (before ++ tokens) ≡ None → kinds tokens ≡ spelled x rest → depth x < 200

-- the tree of a text that is nowhere too deep is read with 199 levels and more
abbrev pub LowIsRead : {A : Type 0} → (ℕ → Reader A) → (List Token → A → Type 0) → Type 0
LowIsRead {A} read reads = (n : ℕ) (tokens : List Token) (x : A) → 199 ≤ n → too_deep tokens ≡ None → reads tokens x → IsReadingBy read n tokens x
