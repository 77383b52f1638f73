-- A tree as it grows: each split knows how many parts it has.
use Rattle.std.specs.Prelude.{◌≡◌, ℕ, zero, suc, ◌+◌, Bool, true, false, ◌&&◌, List, [], ◌∷◌, ◌++◌, take, drop, length, reverse}
use Rattle.spv_logic.specs.declared.conditions.TermId.{TermId}
use Rattle.spv_logic.specs.Terms.{Term}
use Rattle.spv_models.specs.split_trees.Trees as trees
use Rattle.spv_models.specs.split_trees.Trees.{Tree}
use Rattle.spv_verdicts.specs.declared.answers.growing.Grown.{Grown}
use Rattle.spv_verdicts.specs.declared.answers.growing.Grown.TheVariants as grown
use Rattle.spv_verdicts.specs.declared.answers.trees.SplitNode.{SplitNode}
use Rattle.spv_verdicts.specs.declared.answers.trees.SplitNode.TheVariants as node
use Rattle.spv_verdicts.specs.answers.Nodes.{joined, first_tree}

-- how many parts a node has
abbrev pub parts_count : Grown → ℕ
parts_count grown.Open = 0
parts_count (grown.Closed steps) = 0
parts_count (grown.Split t count) = count

abbrev pub is_positive : ℕ → Bool
is_positive zero = false
is_positive (suc n) = true

-- whether a split has a part
abbrev pub has_parts : Grown → Bool
has_parts grown.Open = true
has_parts (grown.Closed steps) = true
has_parts (grown.Split t count) = is_positive count

-- whether nodes are so many whole trees, one behind the other
abbrev pub are_whole : ℕ → List Grown → Bool
are_whole zero [] = true
are_whole zero (n ∷ nodes) = false
are_whole (suc wanted) [] = false
are_whole (suc wanted) (n ∷ nodes) = has_parts n && are_whole (parts_count n + wanted) nodes

-- or one
abbrev pub is_whole : List Grown → Bool
is_whole nodes = are_whole 1 nodes

-- ---- trees

abbrev pub with_grown : (TermId → Term) → Grown → List Tree → List Tree
with_grown at grown.Open others = trees.Open ∷ others
with_grown at (grown.Closed steps) others = trees.Closed steps ∷ others
with_grown at (grown.Split t count) others = trees.Split (at t) (joined (take count others)) ∷ drop count others

abbrev pub grown_trees : (TermId → Term) → List Grown → List Tree
grown_trees at [] = []
grown_trees at (n ∷ nodes) = with_grown at n (grown_trees at nodes)

-- the tree of nodes, over terms by their ids
abbrev pub grown_at : (TermId → Term) → List Grown → Tree
grown_at at nodes = first_tree (grown_trees at nodes)

-- ---- places

-- the places of the trees of nodes, of which the first one stands at a place
abbrev pub roots : ℕ → List Grown → List ℕ
roots place [] = []
roots place (n ∷ nodes) = place ∷ drop (parts_count n) (roots (suc place) nodes)

-- a node with the places of its parts, which are the first of these
abbrev pub placed_node : Grown → List ℕ → SplitNode
placed_node grown.Open places = node.Open
placed_node (grown.Closed steps) places = node.Closed steps
placed_node (grown.Split t count) places = node.Split t (take count places)

-- nodes from a place on, each with the places of its parts
abbrev pub placed : ℕ → List Grown → List SplitNode
placed place [] = []
placed place (n ∷ nodes) = placed_node n (roots (suc place) nodes) ∷ placed (suc place) nodes

-- ---- on the way

-- so many of the last places were taken, the last one first
pub record IsTaken (old new : List ℕ) (parts : List ℕ) (count : ℕ) : Type 0 where
  pub same : reverse old ≡ parts ++ reverse new
  pub many : length parts ≡ count

pub record IsNodePlaced (n : Grown) (place : ℕ) (old new : List ℕ) (m : SplitNode) : Type 0 where
  pub roots_are : reverse new ≡ place ∷ drop (parts_count n) (reverse old)
  pub node_is : m ≡ placed_node n (reverse old)
