-- The heads of a term in postfix order, and the terms that an arena may have.
use Rattle.std.specs.Prelude.{◌≡◌, ℕ, suc, Bool, ◌&&◌, List, [], ◌∷◌, ◌++◌, IsSome, IsTrue}
use Rattle.spv_logic.specs.declared.types.Shape.{Shape}
use Rattle.spv_logic.specs.declared.types.Decl.{Decl}
use Rattle.spv_logic.specs.declared.operators.Head.{Head}
use Rattle.spv_logic.specs.Terms.{Term, Terms, term, no_terms, terms, heads_pass}
use Rattle.spv_logic.specs.Sorts.{head_in_range, numeral_fits, term_sort}
use Rattle.spv_expression_terms.specs.declared.postfix.pieces.Piece.{Piece}

-- a head with the number of its arguments
abbrev pub piece : Head → ℕ → Piece
piece h n = record { head = h; count = n }

-- how many terms there are
abbrev pub count_of : Terms → ℕ
count_of no_terms = 0
count_of (terms t ts) = suc (count_of ts)

abbrev mutual
  -- the heads of a term, those of its arguments first
  pub postfix : Term → List Piece
  postfix (term h ts) = postfix_all ts ++ piece h (count_of ts) ∷ []

  pub postfix_all : Terms → List Piece
  postfix_all no_terms = []
  postfix_all (terms t ts) = postfix t ++ postfix_all ts

-- whether the types that a head names are there and its numeral fits
abbrev pub head_fits : List Shape → Head → Bool
head_fits shapes h = head_in_range shapes h && numeral_fits h

-- whether those of each head in a term do
abbrev pub heads_fit : List Shape → Term → Bool
heads_fit shapes t = heads_pass (head_fits shapes) t

-- a term that an arena of these types and symbols may have
pub record IsMakeable (shapes : List Shape) (decls : List Decl) (t : Term) : Type 0 where
  pub sorts : IsSome (term_sort shapes decls t)
  pub heads : IsTrue (heads_fit shapes t)

-- the pieces of a term that an arena may have
pub record IsPostfix (shapes : List Shape) (decls : List Decl) (pieces : List Piece) : Type 0 where
  pub t : Term
  pub is : pieces ≡ postfix t
  pub makeable : IsMakeable shapes decls t
