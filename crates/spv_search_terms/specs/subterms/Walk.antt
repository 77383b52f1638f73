-- Going through terms: what is still to be done, and what one work does.
use Rattle.std.specs.Prelude.{◌≡◌, ℕ, ◌+◌, ◌*◌, ◌<◌, List, [], ◌∷◌, ◌++◌, map, length, Some, slice_get}
use Rattle.spv_logic.specs.declared.conditions.TermId.{TermId}
use Rattle.spv_logic.specs.Terms.{Term}
use Rattle.spv_term.specs.declared.nodes.Node.{Node}
use Rattle.spv_term.specs.Arena.{Arena, AllBelow, tree}
use Rattle.spv_atoms.specs.Atoms.{with_term}
use Rattle.spv_atoms.specs.Order.{order, size}
use Rattle.spv_atoms.specs.Found.{AreReady}
use Rattle.spv_models.specs.leaf_models.Subterms.{enters_each}
use Rattle.spv_search_terms.specs.declared.subterms.walk.Work.{Work}
use Rattle.spv_search_terms.specs.declared.subterms.walk.Work.TheVariants.{Visit, Finish}

-- before each of these ids its arguments stand
pub record AreBehind (a : Arena) (ids : List TermId) : Type 0 where
  pub before : (i : ℕ) (t : TermId) (n : Node) → slice_get ids i ≡ Some t → slice_get a.nodes t.0 ≡ Some n → AreReady ids i n.args

-- ---- what is still to be done: the last of these works comes first

-- visits of these terms, the first of them first
abbrev pub visits : List TermId → List Work
visits [] = []
visits (t ∷ ts) = visits ts ++ Visit t ∷ []

abbrev pub done_by : Arena → Work → List Term → List Term
done_by a (Visit t) done = order enters_each (tree a t) done
done_by a (Finish t) done = with_term done (tree a t)

-- the terms when all of it is done
abbrev pub after : Arena → List Work → List Term → List Term
after a [] done = done
after a (w ∷ works) done = done_by a w (after a works done)

-- a bound of the steps that it takes
abbrev pub weight : Arena → Work → ℕ
weight a (Visit t) = 2 * size (tree a t)
weight a (Finish t) = 1

abbrev pub weights : Arena → List Work → ℕ
weights a [] = 0
weights a (w ∷ works) = weight a w + weights a works

abbrev pub WorkIn : Arena → Work → Type 0
WorkIn a (Visit t) = t.0 < length a.nodes
WorkIn a (Finish t) = t.0 < length a.nodes

abbrev pub WorksIn : Arena → List Work → Type 0
WorksIn a [] = Unit {0}
WorksIn a (w ∷ works) = WorkIn a w × WorksIn a works

-- one work is done: what is left to be done, and the terms that are, come to the same; and it takes fewer steps
pub record IsStep (a : Arena) (w : Work) (works : List Work) (done : List TermId) (left : List Work) (more : List TermId) : Type 0 where
  pub same : after a left (map (tree a) more) ≡ after a works (done_by a w (map (tree a) done))
  pub less : weights a left < weights a works + weight a w
  pub works_in : WorksIn a left
  pub done_in : AllBelow (length a.nodes) more

-- a term and the visits of its arguments are put in front of all other works
abbrev pub Inside : Arena → TermId → List Work → List Work → Type 0
Inside a t works left = (n : Node) → slice_get a.nodes t.0 ≡ Some n → left ≡ (works ++ Finish t ∷ []) ++ visits n.args
