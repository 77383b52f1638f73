-- What a piece makes of a stack of terms: its head stands over the last of them.
use Rattle.std.specs.Prelude.{◌≡◌, ℕ, ◌-◌, ◌<◌, List, [], ◌∷◌, ◌++◌, map, length, take, drop}
use Rattle.spv_logic.specs.declared.conditions.TermId.{TermId}
use Rattle.spv_logic.specs.Terms.{Term, Terms, term, no_terms, terms}
use Rattle.spv_term.specs.Arena.{Arena, tree}
use Rattle.spv_expression_terms.specs.declared.postfix.pieces.Piece.{Piece}

abbrev pub arguments : List Term → Terms
arguments [] = no_terms
arguments (t ∷ ts) = terms t (arguments ts)

-- how many terms of a stack stay
abbrev pub kept : {X : Type 0} → Piece → List X → ℕ
kept p stack = length stack - p.count

-- the term of a piece's head over the last terms
abbrev pub over_last : Piece → List Term → Term
over_last p stack = term p.head (arguments (drop (kept p stack) stack))

-- the stack with that term in their place
abbrev pub applied : Piece → List Term → List Term
applied p stack = take (kept p stack) stack ++ over_last p stack ∷ []

-- the last ids give way to that of this term
pub record Applies (p : Piece) (a : Arena) (old : List TermId) (b : Arena) (new : List TermId) : Type 0 where
  pub made : TermId
  pub there : made.0 < length b.nodes
  pub is_tree : tree b made ≡ over_last p (map (tree a) old)
  pub stack : new ≡ take (kept p old) old ++ made ∷ []
