-- The parts that are left of a tree that grows, and the nodes that take them, one after the other.
use Rattle.std.specs.Prelude.{◌≡◌, ℕ, List, [], ◌∷◌, ◌++◌, length, map}
use Rattle.spv_logic.specs.Terms.{Term}
use Rattle.spv_proof_rules.specs.Effects.{Question}
use Rattle.spv_proof_rules.specs.Accepted as accepted
use Rattle.spv_proof_rules.specs.Accepted.{walk, cases_of}
use Rattle.spv_models.specs.split_trees.Paths.{facts, IsLive}
use Rattle.spv_models.specs.split_trees.Kept.{MaySplit}
use Rattle.spv_verdicts.specs.declared.answers.growing.Grown.{Grown}
use Rattle.spv_verdicts.specs.declared.answers.growing.Grown.TheVariants as grown

-- a part that is left: the cases of its path, and the atoms that were split on above it, the last one first
pub record Branch : Type 0 where
  pub cases : List Term
  pub above : List Term

-- the part with which a tree begins
abbrev pub root : Branch
root = record { cases = []; above = [] }

-- the part of a branch that has a case of an atom behind the others
abbrev pub part_of : Branch → Term → Term → Branch
part_of b t f = record { cases = b.cases ++ f ∷ []; above = t ∷ b.above }

-- the parts that a node leaves of the branch that it takes: of a split, one for each case of its atom
abbrev pub left_by : Question → Branch → Grown → List Branch
left_by q b grown.Open = []
left_by q b (grown.Closed steps) = []
left_by q b (grown.Split t count) = map (part_of b (q.at t)) (cases_of q (q.at t))

-- a path may split on this atom, which has so many cases
pub record HasCases (q : Question) (b : Branch) (t : Term) (count : ℕ) : Type 0 where
  pub may : MaySplit q b.cases b.above t
  pub many : count ≡ length (cases_of q t)

-- when a node may take a branch: an open path is live, steps close a closed one, and a split is on an atom on which the path may split
abbrev pub MayTake : Question → Branch → Grown → Type 0
MayTake q b grown.Open = IsLive q (facts q b.cases)
MayTake q b (grown.Closed steps) = walk q b.cases steps ≡ accepted.Closed
MayTake q b (grown.Split t count) = HasCases q b (q.at t) count

-- nodes take branches from the front of a list, and leave others in their place; in the end these branches are left
abbrev pub Comes : Question → List Branch → List Grown → List Branch → Type 0
Comes q bs [] rest = bs ≡ rest
Comes q [] (n ∷ nodes) rest = ⊥
Comes q (b ∷ bs) (n ∷ nodes) rest = MayTake q b n × Comes q (left_by q b n ++ bs) nodes rest
