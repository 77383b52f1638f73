-- The nodes of a split tree, as a tree and as those of a proof.
use Rattle.std.specs.Prelude.{ℕ, suc, Bool, true, false, ◌&&◌, List, [], ◌∷◌, ◌++◌, map, take, drop, length, Some, None, nat_eq}
use Rattle.spv_logic.specs.declared.conditions.TermId.{TermId}
use Rattle.spv_logic.specs.Terms.{Term}
use Rattle.spv_atoms.specs.declared.proofs.ProofNode.{ProofNode}
use Rattle.spv_atoms.specs.Shape.{is_some_part}
use Rattle.spv_models.specs.split_trees.Trees.{Tree, Trees, Open, Closed, Split, no_trees, trees}
use Rattle.spv_verdicts.specs.declared.answers.trees.SplitNode.{SplitNode}
use Rattle.spv_verdicts.specs.declared.answers.trees.SplitNode.TheVariants as node

-- ---- places

-- the places of a node's parts
abbrev pub parts_of : SplitNode → List ℕ
parts_of node.Open = []
parts_of (node.Closed steps) = []
parts_of (node.Split t parts) = parts

-- whether a split has a part
abbrev pub has_parts : SplitNode → Bool
has_parts node.Open = true
has_parts (node.Closed steps) = true
has_parts (node.Split t parts) = is_some_part parts

-- whether nodes from a place on are those that are wanted, each followed by its parts
abbrev pub in_order : ℕ → List ℕ → List SplitNode → Bool
in_order place [] [] = true
in_order place [] (n ∷ nodes) = false
in_order place (wanted ∷ others) [] = false
in_order place (wanted ∷ others) (n ∷ nodes) =
    nat_eq wanted place && (has_parts n && in_order (suc place) (parts_of n ++ others) nodes)

-- whether nodes are a tree, the root first and each split followed by its parts
abbrev pub is_split_tree : List SplitNode → Bool
is_split_tree nodes = in_order 0 (0 ∷ []) nodes

-- ---- trees

abbrev pub joined : List Tree → Trees
joined [] = no_trees
joined (t ∷ ts) = trees t (joined ts)

-- the trees of nodes, where these are the trees of the nodes behind the first one: a split takes as many of them as it has parts
abbrev pub with_node : (TermId → Term) → SplitNode → List Tree → List Tree
with_node at node.Open others = Open ∷ others
with_node at (node.Closed steps) others = Closed steps ∷ others
with_node at (node.Split t parts) others = Split (at t) (joined (take (length parts) others)) ∷ drop (length parts) others

abbrev pub trees_at : (TermId → Term) → List SplitNode → List Tree
trees_at at [] = []
trees_at at (n ∷ nodes) = with_node at n (trees_at at nodes)

abbrev pub first_tree : List Tree → Tree
first_tree [] = Open
first_tree (t ∷ ts) = t

-- the tree of nodes, over terms by their ids
abbrev pub tree_at : (TermId → Term) → List SplitNode → Tree
tree_at at nodes = first_tree (trees_at at nodes)

-- ---- proofs

-- a node as one of a proof
abbrev pub proof_node : SplitNode → ProofNode
proof_node node.Open = record { steps = []; split = None }
proof_node (node.Closed steps) = record { steps = steps; split = None }
proof_node (node.Split t parts) = record { steps = []; split = Some (record { atom = t; parts = parts }) }

abbrev pub proof_nodes : List SplitNode → List ProofNode
proof_nodes nodes = map proof_node nodes
