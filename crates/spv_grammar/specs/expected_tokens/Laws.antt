-- Where reading stops.
use Rattle.std.specs.Prelude.{◌≡◌, ℕ, ◌+◌, ◌≤◌, List, ◌∷◌, length}
use Rattle.spv_tree.specs.declared.tokens.token.Token.{Token}
use Rattle.spv_grammar.specs.first_sets.Lines.{line_where}
use Rattle.spv_grammar.specs.first_sets.Begins.{GoesWrongAt}
use Rattle.spv_grammar.specs.reading.Readers.{wrong, deep, Read, Halted, Reader}
use Rattle.spv_grammar.specs.reading.RoutineReaders.{read_whole}

-- where reading stops, with as many levels as there may be, the tokens go wrong
abbrev pub StopsWhereWrong : {A : Type 0} → (ℕ → Reader A) → (List Token → A → Type 0) → Type 0
StopsWhereWrong read reads = (n : ℕ) (tokens : List Token) (left : ℕ) → read n tokens ≡ Halted (wrong left) → GoesWrongAt reads tokens (line_where tokens left)

-- and where tokens are left behind what is read, they go wrong with the first of these
abbrev pub LeavesWhatIsWrong : {A : Type 0} → (ℕ → Reader A) → (List Token → A → Type 0) → Type 0
LeavesWhatIsWrong {A} read reads =
    (n : ℕ) (tokens : List Token) (x : A) (t : Token) (rest : List Token) → read n tokens ≡ Read (x, t ∷ rest) → GoesWrongAt reads tokens (line_where tokens (length (t ∷ rest)))

-- where no level is left, at least as many tokens are read as there were levels
abbrev pub LevelsTakeTokens : {A : Type 0} → (ℕ → Reader A) → Type 0
LevelsTakeTokens read = (n : ℕ) (tokens : List Token) (left : ℕ) → read n tokens ≡ Halted (deep left) → left + n ≤ length tokens

-- the two read the same as whole texts
abbrev pub ReadTheSame : {A : Type 0} → (ℕ → Reader A) → (ℕ → Reader A) → Type 0
ReadTheSame one other = (n : ℕ) (tokens : List Token) → read_whole (one n tokens) ≡ read_whole (other n tokens)
