-- What a call that writes terms does, where pieces stand in front of others.
use Rattle.std.specs.Prelude.{◌≡◌, ℕ, List, ◌∷◌, ◌++◌}
use Rattle.spv_logic.specs.declared.operators.Head.{Head}
use Rattle.spv_logic.specs.Terms.{Term, Terms, term, no_terms, terms}
use Rattle.spv_expression_terms.specs.declared.postfix.pieces.Piece.{Piece}
use Rattle.spv_expression_terms.specs.postfix.Postfix.{piece, count_of}

abbrev mutual
  -- the pieces of a term in front of others
  pub written : Term → List Piece → List Piece
  written (term h ts) rest = written_all ts (piece h (count_of ts) ∷ rest)

  pub written_all : Terms → List Piece → List Piece
  written_all no_terms rest = rest
  written_all (terms t ts) rest = written t (written_all ts rest)

-- it put these behind the pieces that were there, and no others
abbrev pub Adds : (List Piece → List Piece) → List Piece → List Piece → Type 0
Adds added old new = (rest : List Piece) → new ++ rest ≡ old ++ added rest

abbrev pub Writes : Term → List Piece → List Piece → Type 0
Writes t = Adds (written t)

abbrev pub WritesAll : Terms → List Piece → List Piece → Type 0
WritesAll ts = Adds (written_all ts)

abbrev pub WritesHead : Head → ℕ → List Piece → List Piece → Type 0
WritesHead h count = Adds (λ rest. piece h count ∷ rest)
