-- What is promised of reading.
use Rattle.std.specs.Prelude.{◌≡◌, ℕ, ◌≤◌, Bool, false, List, Option, Some, length, IsTrue}
use Rattle.spv_tree.specs.declared.tokens.token.Token.{Token}
use Rattle.spv_tree.specs.declared.tokens.token.TokenKind.{TokenKind}
use Rattle.spv_tree.specs.syntax.Steps.{Step}
use Rattle.spv_tree.specs.declared.syntax.programs.Program.{Program}
use Rattle.spv_grammar.specs.reading.Readers.{first, Read, Reader}
use Rattle.spv_grammar.specs.reading.RoutineReaders.{read_program, read_whole}
use Rattle.spv_grammar.specs.reading.Parts.{Part, BeginsWith, Stands}

-- a part of a tree: its tokens and lines, what its form does not say by itself, and which tokens go on with it
pub record Kind (A : Type 0) : Type 0 where
  pub part : Part A
  pub formed : A → Bool
  pub continues : A → Option TokenKind → Bool

-- what is read is well formed and spelled at the front, each part on its line
pub record ReadAs {A : Type 0} (k : Kind A) (tokens : List Token) (x : A) (rest : List Token) : Type 0 where
  pub here : BeginsWith k.part tokens x rest
  pub formed : IsTrue (k.formed x)

abbrev pub ReadIsSpelled : {A : Type 0} → Kind A → (ℕ → Reader A) → Type 0
ReadIsSpelled {A} k read = (n : ℕ) (tokens rest : List Token) (x : A) → read n tokens ≡ Read (x, rest) → ReadAs k tokens x rest

-- the part is well formed and spelled at the front, each part on its line, and the token behind it does not go on with it
pub record IsSpelled {A : Type 0} (k : Kind A) (tokens : List Token) (x : A) (spelled : List TokenKind) (steps : List Step) : Type 0 where
  pub stands : Stands tokens (k.part.spelled x spelled) (k.part.lined x steps)
  pub formed : IsTrue (k.formed x)
  pub ends : k.continues x (first spelled) ≡ false

-- the part is read, and this stands behind it
pub record IsRead {A : Type 0} (reader : Reader A) (x : A) (tokens : List Token) (spelled : List TokenKind) (steps : List Step) : Type 0 where
  pub rest : List Token
  pub read : reader tokens ≡ Read (x, rest)
  pub stands : Stands rest spelled steps

-- what is spelled is read, at as many levels as it has
abbrev pub SpelledIsRead : {A : Type 0} → Kind A → (A → ℕ) → (ℕ → Reader A) → Type 0
SpelledIsRead {A} k depth read =
    (n : ℕ) (tokens : List Token) (x : A) (spelled : List TokenKind) (steps : List Step) → depth x ≤ n → IsSpelled k tokens x spelled steps → IsRead (read n) x tokens spelled steps

-- or at as many levels as there are tokens
abbrev pub EnoughLevels : {A : Type 0} → Kind A → (ℕ → Reader A) → Type 0
EnoughLevels {A} k read =
    (n : ℕ) (tokens : List Token) → length tokens ≤ n → (x : A) (spelled : List TokenKind) (steps : List Step) → IsSpelled k tokens x spelled steps → IsRead (read n) x tokens spelled steps

-- the same tokens spell no other part
abbrev pub SpelledIsOne : {A : Type 0} → Kind A → Type 0
SpelledIsOne {A} k =
    (tokens : List Token) (x y : A) (spelled others : List TokenKind) (steps further : List Step) → IsSpelled k tokens x spelled steps → IsSpelled k tokens y others further → (x ≡ y) × (spelled ≡ others)

-- ---- whole texts, of which `reads` says when a tree is that of the tokens

-- with n levels this is what the tokens are read as, to their end
abbrev pub IsReadingBy : {A : Type 0} → (ℕ → Reader A) → ℕ → List Token → A → Type 0
IsReadingBy read n tokens x = read_whole (read n tokens) ≡ Some x

-- the same of a program
abbrev pub IsReading : ℕ → List Token → Program → Type 0
IsReading n tokens p = IsReadingBy read_program n tokens p

-- what is read as a text is the tree of the tokens
abbrev pub ReadIsTree : {A : Type 0} → (ℕ → Reader A) → (List Token → A → Type 0) → Type 0
ReadIsTree {A} read reads = (n : ℕ) (tokens : List Token) (x : A) → IsReadingBy read n tokens x → reads tokens x

-- the tree of the tokens is read, at as many levels as it has
abbrev pub TreeIsRead : {A : Type 0} → (ℕ → Reader A) → (A → ℕ) → (List Token → A → Type 0) → Type 0
TreeIsRead {A} read depth reads = (n : ℕ) (tokens : List Token) (x : A) → depth x ≤ n → reads tokens x → IsReadingBy read n tokens x

-- or at as many levels as there are tokens
abbrev pub EnoughLevelsForTrees : {A : Type 0} → (ℕ → Reader A) → (List Token → A → Type 0) → Type 0
EnoughLevelsForTrees {A} read reads = (n : ℕ) (tokens : List Token) (x : A) → length tokens ≤ n → reads tokens x → IsReadingBy read n tokens x

-- tokens have one tree at most
abbrev pub OneTree : {A : Type 0} → (List Token → A → Type 0) → Type 0
OneTree {A} reads = (tokens : List Token) (x y : A) → reads tokens x → reads tokens y → x ≡ y
