-- What is true of pieces.
use Rattle.std.specs.Prelude.{◌≡◌, [], ◌∷◌, ◌++◌}
use Rattle.spv_logic.specs.declared.operators.Head.{Head}
use Rattle.spv_logic.specs.Terms.{Term, term, no_terms, terms}
use Rattle.spv_expression_terms.specs.postfix.Postfix.{piece, postfix}

-- terms with the same pieces are the same
abbrev pub HasOneTerm : Type 0
HasOneTerm = (t u : Term) → postfix t ≡ postfix u → t ≡ u

-- the pieces of a term are those of its arguments, one after the other, and its head
abbrev pub HasPiecesOfNone : Type 0
HasPiecesOfNone = (h : Head) → postfix (term h no_terms) ≡ piece h 0 ∷ []

abbrev pub HasPiecesOfOne : Type 0
HasPiecesOfOne = (h : Head) (s : Term) → postfix (term h (terms s no_terms)) ≡ postfix s ++ piece h 1 ∷ []

abbrev pub HasPiecesOfTwo : Type 0
HasPiecesOfTwo = (h : Head) (s t : Term) → postfix (term h (terms s (terms t no_terms))) ≡ (postfix s ++ postfix t) ++ piece h 2 ∷ []

abbrev pub HasPiecesOfThree : Type 0
HasPiecesOfThree =
    (h : Head) (s t u : Term)
    → postfix (term h (terms s (terms t (terms u no_terms)))) ≡ ((postfix s ++ postfix t) ++ postfix u) ++ piece h 3 ∷ []
