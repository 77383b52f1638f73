-- A proof's nodes as a tree.
use Rattle.std.specs.Prelude.{ℕ, suc, Bool, true, false, ◌&&◌, List, [], ◌∷◌, ◌++◌, Option, Some, None, nat_eq}
use Rattle.spv_atoms.specs.declared.proofs.Split.{Split}
use Rattle.spv_atoms.specs.declared.proofs.ProofNode.{ProofNode}

-- the places of a node's cases
abbrev pub parts_of : Option Split → List ℕ
parts_of None = []
parts_of (Some s) = s.parts

abbrev pub is_some_part : List ℕ → Bool
is_some_part [] = false
is_some_part (p ∷ parts) = true

-- whether a split, where there is one, has a case
abbrev pub has_cases : Option Split → Bool
has_cases None = true
has_cases (Some s) = is_some_part s.parts

-- whether nodes from a place on are those that are wanted, each followed by its cases
abbrev pub in_order : ℕ → List ℕ → List ProofNode → Bool
in_order place [] [] = true
in_order place [] (n ∷ nodes) = false
in_order place (wanted ∷ others) [] = false
in_order place (wanted ∷ others) (n ∷ nodes) =
    nat_eq wanted place && (has_cases n.split && in_order (suc place) (parts_of n.split ++ others) nodes)

-- whether nodes are a tree, listed as its text has them
abbrev pub is_tree : List ProofNode → Bool
is_tree nodes = in_order 0 (0 ∷ []) nodes
