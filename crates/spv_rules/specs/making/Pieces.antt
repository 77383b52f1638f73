-- Terms in pieces, which are put onto a stack: a term of the arena on top, or a head over the last terms in their place.
use Rattle.std.specs.Prelude.{◌≡◌, ℕ, suc, ◌<◌, ◌≤◌, ◌-◌, Bool, true, ◌&&◌, List, [], ◌∷◌, ◌++◌, length, take, drop, nat_le, IsSome, IsTrue, Result, Err}
use Rattle.spv_logic.specs.declared.conditions.TermId.{TermId}
use Rattle.spv_logic.specs.declared.operators.Head.{Head}
use Rattle.spv_logic.specs.Terms.{Term, Terms, term, no_terms, terms}
use Rattle.spv_logic.specs.Sorts.{head_in_range, numeral_fits, term_sort}
use Rattle.spv_term.specs.declared.nodes.TermFault.{TermFault}
use Rattle.spv_term.specs.declared.nodes.TermFault.TheVariants as fault
use Rattle.spv_term.specs.Arena.{Arena, tree, trees_of}
use Rattle.spv_proof_rules.specs.Stops.{layers, terms_of}
use Rattle.spv_proof_rules.specs.Outcomes.{IsFirst}
use Rattle.spv_rules.specs.declared.making.pieces.Piece.{Piece}
use Rattle.spv_rules.specs.declared.making.pieces.Piece.TheVariants.{Known, Over}

abbrev pub arguments : List Term → Terms
arguments [] = no_terms
arguments (t ∷ ts) = terms t (arguments ts)

-- how many terms stay below a head over so many
abbrev pub below : {X : Type 0} → ℕ → List X → ℕ
below n stack = length stack - n

abbrev pub over : Head → ℕ → List Term → Term
over h n stack = term h (arguments (drop (below n stack) stack))

-- a piece is put onto a stack
abbrev pub put : (TermId → Term) → List Term → Piece → List Term
put at stack (Known t) = stack ++ at t ∷ []
put at stack (Over h n) = take (below n stack) stack ++ over h n stack ∷ []

abbrev pub put_all : (TermId → Term) → List Term → List Piece → List Term
put_all at stack [] = stack
put_all at stack (p ∷ pieces) = put_all at (put at stack p) pieces

-- whether a stack of so many terms has enough of them for each piece
abbrev pub enough : ℕ → List Piece → Bool
enough n [] = true
enough n (Known t ∷ pieces) = enough (suc n) pieces
enough n (Over h k ∷ pieces) = nat_le k n && enough (suc (n - k)) pieces

-- a term that is in the arena, or a head whose types are there and whose numeral fits
abbrev pub Stands : Arena → Piece → Type 0
Stands a (Known t) = t.0 < length a.nodes
Stands a (Over h n) = IsTrue (head_in_range a.shapes h) × IsTrue (numeral_fits h)

abbrev pub AllStand : Arena → List Piece → Type 0
AllStand a [] = Unit {0}
AllStand a (p ∷ pieces) = Stands a p × AllStand a pieces

-- the pieces of one term
pub record IsSketch (a : Arena) (pieces : List Piece) (t : Term) : Type 0 where
  pub one : put_all (tree a) [] pieces ≡ t ∷ []
  pub enough : IsTrue (enough 0 pieces)
  pub stand : AllStand a pieces

-- which is well sorted
pub record ArePieces (a : Arena) (pieces : List Piece) (t : Term) : Type 0 where
  pub sketch : IsSketch a pieces t
  pub sorted : IsSome (term_sort a.shapes a.decls t)

-- pieces of some such term
pub record HaveTerm (a : Arena) (pieces : List Piece) : Type 0 where
  pub term : Term
  pub are : ArePieces a pieces term

-- ---- one piece after the other

-- a piece may be put onto these terms
abbrev pub MayPut : Arena → List Term → Piece → Type 0
MayPut a stack (Known t) = t.0 < length a.nodes
MayPut a stack (Over h n) = (n ≤ length stack) × IsTrue (head_in_range a.shapes h) × IsTrue (numeral_fits h) × IsSome (term_sort a.shapes a.decls (over h n stack))

-- the terms that must be there then beside those that a stack has: of a term its subterms, of a head the term that it makes
abbrev pub with_piece : (TermId → Term) → List Term → Piece → List Term
with_piece at stack (Known t) = layers (at t)
with_piece at stack (Over h n) = over h n stack ∷ []

-- an error is why terms were not all kept; for want of memory those that were come first
abbrev pub IsMadeFault : Arena → TermFault → Result (List Term) (List Term) → Type 0
IsMadeFault a fault.Size r = r ≡ Err (trees_of a.nodes)
IsMadeFault a fault.Memory r = IsFirst (trees_of a.nodes) (terms_of r)
