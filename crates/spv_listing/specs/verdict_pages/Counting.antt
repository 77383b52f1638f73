-- What is counted and what is there, node by node.
use Rattle.std.specs.Prelude.{ℕ, zero, suc, ◌+◌, Bool, true, false, List, [], ◌∷◌, length}
use Rattle.std.specs.List.{count_by}
use Rattle.spv_term.specs.Arena.{Arena}
use Rattle.spv_atoms.specs.declared.proofs.ProofNode.{ProofNode}
use Rattle.spv_proof_rules.specs.Stand.{StepsIn, SplitIn}
use Rattle.spv_verdicts.specs.declared.answers.verdicts.Round.{Round}
use Rattle.spv_verdicts.specs.declared.answers.trees.SplitNode.{SplitNode}
use Rattle.spv_verdicts.specs.declared.answers.trees.SplitNode.TheVariants as node

abbrev pub is_split : SplitNode → Bool
is_split node.Open = false
is_split (node.Closed steps) = false
is_split (node.Split t parts) = true

-- how many splits there are
abbrev pub split_count : List SplitNode → ℕ
split_count nodes = count_by is_split nodes

-- the terms that a node names are in the arena
abbrev pub NodeIn : Arena → ProofNode → Type 0
NodeIn a n = StepsIn a n.steps × SplitIn a n.split

-- the numbers from this one down to 1
abbrev pub numbers_down : ℕ → List ℕ
numbers_down zero = []
numbers_down (suc n) = suc n ∷ numbers_down n

-- ---- rounds

-- how many instances rounds have together
abbrev pub member_total : List Round → ℕ
member_total [] = 0
member_total (r ∷ rounds) = length r.members + member_total rounds
