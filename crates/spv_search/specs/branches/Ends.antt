-- What comes of a tree that is whole.
use Rattle.std.specs.Prelude.{◌≡◌, Bool, true, false, List}
use Rattle.spv_logic.specs.declared.conditions.TermId.{TermId}
use Rattle.spv_logic.specs.Terms.{Term}
use Rattle.spv_term.specs.Arena.{Arena}
use Rattle.spv_atoms.specs.declared.proofs.ProofNode.{ProofNode}
use Rattle.spv_proof_rules.specs.Effects.{Question}
use Rattle.spv_proof_rules.specs.Accepted.{accepts}
use Rattle.spv_proof_rules.specs.Stand.{NodesIn}
use Rattle.spv_models.specs.leaf_models.Laws.{AreFormulas}
use Rattle.spv_models.specs.leaf_models.Tables.{formulas_of}
use Rattle.spv_models.specs.split_trees.Kept.{IsKept}
use Rattle.spv_verdicts.specs.declared.answers.growing.Grown.{Grown}
use Rattle.spv_verdicts.specs.declared.answers.trees.SplitNode.{SplitNode}
use Rattle.spv_verdicts.specs.answers.Nodes.{is_split_tree, tree_at, proof_nodes}
use Rattle.spv_verdicts.specs.answers.Growing.{grown_at, placed}
use Rattle.spv_verdicts.specs.answers.Views.{SplitNodesIn}
use Rattle.spv_search.specs.declared.branches.finishing.Finished.{Finished}
use Rattle.spv_search.specs.declared.branches.finishing.Finished.TheVariants as finished
use Rattle.spv_search.specs.branches.Growth.{Growth, IsGrowing}

-- ---- of nodes

-- the list that nodes are in the end is a tree, theirs
pub record IsTreeOf (nodes : List Grown) (tree : List SplitNode) : Type 0 where
  pub nodes_are : tree ≡ placed 0 nodes
  pub is : is_split_tree tree ≡ true
  pub same : (at : TermId → Term) → tree_at at tree ≡ grown_at at nodes

pub record IsProofOf (nodes : List Grown) (proof : List ProofNode) : Type 0 where
  pub tree : List SplitNode
  pub of_nodes : IsTreeOf nodes tree
  pub proof_is : proof ≡ proof_nodes tree

-- nodes of which one is open, or not, are this tree or this proof
abbrev pub EndsAs : List Grown → Bool → Finished → Type 0
EndsAs nodes is_open (finished.Proved proof) = (is_open ≡ false) × IsProofOf nodes proof
EndsAs nodes is_open (finished.Open tree) = (is_open ≡ true) × IsTreeOf nodes tree

-- ---- of a tree that grew

-- without an open node it is an accepted proof, where the formulas are of sort Bool; with one it is kept
abbrev pub IsFinished : Growth → Finished → Type 0
IsFinished s (finished.Proved proof) = (s.is_open ≡ false) × ((q : Question) → IsGrowing q s → AreFormulas q.shapes q.decls (formulas_of q.sequent) → accepts q proof ≡ true)
IsFinished s (finished.Open tree) = (s.is_open ≡ true) × ((q : Question) → IsGrowing q s → IsKept q s.splits (tree_at q.at tree))

-- all terms that it names are in the arena
abbrev pub FinishedIn : Arena → Finished → Type 0
FinishedIn a (finished.Proved proof) = NodesIn a proof
FinishedIn a (finished.Open tree) = SplitNodesIn a tree
