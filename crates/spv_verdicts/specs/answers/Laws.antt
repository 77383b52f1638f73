-- What is true of trees that are kept as lists.
use Rattle.std.specs.Prelude.{◌≡◌, true, List, [], ◌∷◌, ◌++◌, length, IsTrue, ⊤}
use Rattle.spv_logic.specs.declared.conditions.TermId.{TermId}
use Rattle.spv_logic.specs.Terms.{Term}
use Rattle.spv_atoms.specs.Atoms.{is_atom}
use Rattle.spv_atoms.specs.Shape.{is_tree}
use Rattle.spv_proof_rules.specs.Effects.{Question, is_truth}
use Rattle.spv_proof_rules.specs.Accepted as accepted
use Rattle.spv_proof_rules.specs.Accepted.{accepts, walk, cases_of}
use Rattle.spv_models.specs.split_trees.Trees.{Tree, Trees, Open, Closed, Split, no_trees, trees}
use Rattle.spv_verdicts.specs.declared.answers.trees.SplitNode.{SplitNode}
use Rattle.spv_verdicts.specs.answers.Nodes.{is_split_tree, trees_at, tree_at, proof_nodes}

abbrev pub NodesAreOneTree : Type 0
NodesAreOneTree = (at : TermId → Term) (nodes : List SplitNode) → IsTrue (is_split_tree nodes) → length (trees_at at nodes) ≡ 1

abbrev mutual
  -- each path of a tree behind these cases is closed by its steps, and each split is on an atom and has a part for each of its cases
  pub AllClosed : Question → List Term → Tree → Type 0
  AllClosed q cases Open = ⊥
  AllClosed q cases (Closed steps) = walk q cases steps ≡ accepted.Closed
  AllClosed q cases (Split t parts) = (is_atom (is_truth q) t ≡ true) × PartsClosed q cases (cases_of q t) parts

  pub PartsClosed : Question → List Term → List Term → Trees → Type 0
  PartsClosed q cases [] no_trees = ⊤
  PartsClosed q cases (f ∷ fs) (trees part parts) = AllClosed q (cases ++ f ∷ []) part × PartsClosed q cases fs parts
  PartsClosed q cases _ _ = ⊥

-- such a tree is an accepted proof
abbrev pub ClosedIsAccepted : Type 0
ClosedIsAccepted = (q : Question) (nodes : List SplitNode) → IsTrue (is_split_tree nodes) → AllClosed q [] (tree_at q.at nodes) → accepts q (proof_nodes nodes) ≡ true

-- and its nodes stand as those of a proof do
abbrev pub ClosedIsTree : Type 0
ClosedIsTree = (nodes : List SplitNode) → IsTrue (is_split_tree nodes) → IsTrue (is_tree (proof_nodes nodes))
