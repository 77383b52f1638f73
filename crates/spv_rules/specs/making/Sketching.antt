-- The pieces of a term in which ids stand in the place of variables, and what is still to be written of them.
use Rattle.std.specs.Prelude.{◌≡◌, ℕ, suc, ◌+◌, ◌*◌, ◌<◌, List, [], ◌∷◌, ◌++◌, length, Option, Some, None, slice_get, if◌then◌else◌}
use Rattle.spv_logic.specs.declared.conditions.TermId.{TermId}
use Rattle.spv_logic.specs.declared.operators.Head.{Head}
use Rattle.spv_logic.specs.Terms.{Term, Terms, term, no_terms, terms, head_eq}
use Rattle.spv_term.specs.declared.nodes.Node.{Node}
use Rattle.spv_term.specs.Arena.{Arena, tree}
use Rattle.spv_term.specs.substitution.Walk.{size}
use Rattle.spv_rules.specs.declared.making.pieces.Piece.{Piece}
use Rattle.spv_rules.specs.declared.making.pieces.Piece.TheVariants.{Known, Over}
use Rattle.spv_rules.specs.declared.making.sketching.Work.{Work}
use Rattle.spv_rules.specs.declared.making.sketching.Work.TheVariants.{Visit, Place}

-- ---- pieces

-- ids stand in the place of variables, each in the place of its own
abbrev pub id_for : List Head → List TermId → Head → Option TermId
id_for [] ts h = None
id_for (x ∷ xs) [] h = None
id_for (x ∷ xs) (t ∷ ts) h = if head_eq x h then Some t else id_for xs ts h

abbrev pub count : Terms → ℕ
count no_terms = 0
count (terms t ts) = suc (count ts)

abbrev pub known_or : Option TermId → List Piece → List Piece
known_or None pieces = pieces
known_or (Some u) pieces = Known u ∷ []

abbrev mutual
  -- the pieces of a term: an id where one stands in the place of its head, else those of its arguments, and then its head
  pub pieces_of : (Head → Option TermId) → Term → List Piece
  pieces_of by (term h ts) = known_or (by h) (pieces_of_all by ts ++ Over h (count ts) ∷ [])

  pub pieces_of_all : (Head → Option TermId) → Terms → List Piece
  pieces_of_all by no_terms = []
  pieces_of_all by (terms t ts) = pieces_of by t ++ pieces_of_all by ts

-- ---- what is still to be written: the last of these works comes first

-- visits of these terms, the first of them first
abbrev pub visits : List TermId → List Work
visits [] = []
visits (t ∷ ts) = visits ts ++ Visit t ∷ []

abbrev pub written : (Head → Option TermId) → Arena → Work → List Piece
written by a (Visit t) = pieces_of by (tree a t)
written by a (Place h n) = Over h n ∷ []

-- the pieces that are still to be written
abbrev pub awaited : (Head → Option TermId) → Arena → List Work → List Piece
awaited by a [] = []
awaited by a (w ∷ works) = awaited by a works ++ written by a w

-- a bound of the steps that it takes
abbrev pub weight : Arena → Work → ℕ
weight a (Visit t) = 2 * size (tree a t)
weight a (Place h n) = 1

abbrev pub weights : Arena → List Work → ℕ
weights a [] = 0
weights a (w ∷ works) = weight a w + weights a works

abbrev pub WorkIn : Arena → Work → Type 0
WorkIn a (Visit t) = t.0 < length a.nodes
WorkIn a (Place h n) = Unit {0}

abbrev pub WorksIn : Arena → List Work → Type 0
WorksIn a [] = Unit {0}
WorksIn a (w ∷ works) = WorkIn a w × WorksIn a works

-- the head of a term and visits of its arguments are put in front of all other works
abbrev pub Inside : Arena → TermId → List Work → List Work → Type 0
Inside a t works left = (n : Node) → slice_get a.nodes t.0 ≡ Some n → left ≡ (works ++ Place n.head (length n.args) ∷ []) ++ visits n.args

-- one work is done: what is written and what is still to be written come to the same, and it takes fewer steps
pub record IsStep (by : Head → Option TermId) (a : Arena) (w : Work) (works : List Work) (out : List Piece) (left : List Work) (more : List Piece) : Type 0 where
  pub same : more ++ awaited by a left ≡ out ++ (written by a w ++ awaited by a works)
  pub less : weights a left < weights a works + weight a w
  pub works_in : WorksIn a left
