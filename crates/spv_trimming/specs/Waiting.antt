-- The places of nodes that are still to come.
use Rattle.std.specs.Prelude.{◌≡◌, ℕ, suc, List, ◌∷◌, Option, IsTrue}
use Rattle.spv_atoms.specs.declared.proofs.Split.{Split}
use Rattle.spv_atoms.specs.declared.proofs.ProofNode.{ProofNode}
use Rattle.spv_atoms.specs.Shape.{in_order}

-- a node with this split stands at the place that comes next: with it in front, nodes are in order, if the others are behind it
abbrev pub Takes : List ℕ → ℕ → Option Split → List ℕ → Type 0
Takes old place split new = (n : ProofNode) (nodes : List ProofNode) → n.split ≡ split → IsTrue (in_order (suc place) new nodes) → IsTrue (in_order place old (n ∷ nodes))
