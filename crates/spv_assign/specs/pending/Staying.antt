-- Which terms stay as they are where pairs are put in, and the answers for the others in their places.
use Rattle.std.specs.Prelude.{◌≡◌, ℕ, Bool, true, false, List, [], ◌∷◌, ◌++◌, drop}
use Rattle.spv_logic.specs.declared.conditions.TermId.{TermId}
use Rattle.spv_logic.specs.Substitution.{substitute}
use Rattle.spv_term.specs.Arena.{Arena, tree}
use Rattle.spv_term.specs.substitution.Images.{pairs_at}

-- pairs put nothing into a term
pub record Stays (a : Arena) (pairs : List (TermId × TermId)) (t : TermId) : Type 0 where
  pub same : substitute (pairs_at a pairs) (tree a t) ≡ tree a t

abbrev pub AllStay : Arena → List (TermId × TermId) → List TermId → Type 0
AllStay a pairs [] = Unit {0}
AllStay a pairs (t ∷ ts) = Stays a pairs t × AllStay a pairs ts

-- a mark for each term of a list; one without it stays
abbrev pub AreMarked : Arena → List (TermId × TermId) → List Bool → List TermId → Type 0
AreMarked a pairs [] [] = Unit {0}
AreMarked a pairs [] (t ∷ ts) = ⊥
AreMarked a pairs (m ∷ marks) [] = ⊥
AreMarked a pairs (m ∷ marks) (t ∷ ts) = (m ≡ false → Stays a pairs t) × AreMarked a pairs marks ts

-- a term if it is marked
abbrev pub if_marked : Bool → TermId → List TermId
if_marked true t = t ∷ []
if_marked false t = []

-- the marked terms of a list
abbrev pub marked : List Bool → List TermId → List TermId
marked [] ts = []
marked (m ∷ marks) [] = []
marked (m ∷ marks) (t ∷ ts) = if_marked m t ++ marked marks ts

-- how many terms a mark stands for
abbrev pub one_if : Bool → ℕ
one_if true = 1
one_if false = 0

-- the other term in the place of one that is marked
abbrev pub one_put_back : Bool → TermId → List TermId → List TermId
one_put_back true t [] = []
one_put_back true t (u ∷ us) = u ∷ []
one_put_back false t us = t ∷ []

-- a list with others in the places of its marked terms, in order
abbrev pub put_back : List Bool → List TermId → List TermId → List TermId
put_back [] ts us = []
put_back (m ∷ marks) [] us = []
put_back (m ∷ marks) (t ∷ ts) us = one_put_back m t us ++ put_back marks ts (drop (one_if m) us)
