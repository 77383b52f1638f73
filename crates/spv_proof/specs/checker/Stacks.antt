-- Paths that are still to be closed, over an arena: the last of them comes next.
use Rattle.std.specs.Prelude.{◌≡◌, ◌≤◌, ℕ, Bool, true, false, List, [], ◌∷◌, ◌++◌, map, length, take, Option, Some, None}
use Rattle.std.specs.Option.{option_map}
use Rattle.spv_logic.specs.declared.conditions.TermId.{TermId}
use Rattle.spv_term.specs.Arena.{Arena, AllBelow, tree, trees_of}
use Rattle.spv_atoms.specs.declared.proofs.ProofNode.{ProofNode}
use Rattle.spv_proof_rules.specs.Outcomes as outcomes
use Rattle.spv_proof_steps.specs.declared.facts.Fact.{Fact}
use Rattle.spv_proof_steps.specs.declared.facts.Fact.TheVariants.{Known, Negation, Equation, Below}
use Rattle.spv_proof_steps.specs.Steps.{fact_of, FactStands}
use Rattle.spv_proof.specs.declared.checker.casing.Cases.{Cases}
use Rattle.spv_proof.specs.declared.checker.casing.Cases.TheVariants.{Two, Three}
use Rattle.spv_proof.specs.declared.checker.branches.Branch.{Branch}
use Rattle.spv_proof.specs.declared.checker.tasks.Task.{Task}
use Rattle.spv_proof.specs.checker.Ends.{comes_in}
use Rattle.spv_proof.specs.checker.Tasks.{asks}

-- ---- cases

abbrev pub facts_in : Cases → List Fact
facts_in (Two t) = Known t ∷ Negation t ∷ []
facts_in (Three s t) = Equation s t ∷ Below s t ∷ Below t s ∷ []

abbrev pub AllStand : Arena → List Fact → Type 0
AllStand a [] = Unit {0}
AllStand a (f ∷ facts) = FactStands a f × AllStand a facts

-- the paths of these cases, the first of them last
abbrev pub pushed_cases : ℕ → List Fact → List Branch
pushed_cases mark [] = []
pushed_cases mark (f ∷ facts) = pushed_cases mark facts ++ record { mark = mark; opens = Some f } ∷ []

-- ---- one path

abbrev pub branch_in : Arena → List TermId → Branch → outcomes.Branch
branch_in a facts b = record { before = map (tree a) (take b.mark facts); opens = option_map (fact_of a) b.opens }

abbrev pub OpensIn : Arena → Option Fact → Type 0
OpensIn a None = Unit {0}
OpensIn a (Some f) = FactStands a f

abbrev pub BranchIn : Arena → Branch → Type 0
BranchIn a b = OpensIn a b.opens

-- the node of a path has begun
pub record Begun (old : Arena) (before : List TermId) (b : Branch) (new : Arena) (facts : List TermId) : Type 0 where
  pub outcome : outcomes.begin old.most (trees_of old.nodes) (branch_in old before b) ≡ comes_in new (map (tree new) facts)
  pub in_range : AllBelow (length new.nodes) facts
  pub before_is : take b.mark facts ≡ take b.mark before
  pub longer : b.mark ≤ length facts

-- ---- all paths

-- the next one first
abbrev pub stacked : Arena → List TermId → List Branch → List outcomes.Branch
stacked a facts [] = []
stacked a facts (b ∷ pending) = stacked a facts pending ++ branch_in a facts b ∷ []

-- each keeps at least so many facts
abbrev pub AllFrom : ℕ → List Branch → Type 0
AllFrom n [] = Unit {0}
AllFrom n (b ∷ pending) = (n ≤ b.mark) × AllFrom n pending

-- each keeps at most so many facts, and no more than those that come before it; and its case may stand in the arena
abbrev pub IsPending : Arena → ℕ → List Branch → Type 0
IsPending a n [] = Unit {0}
IsPending a n (b ∷ pending) = (b.mark ≤ n) × BranchIn a b × AllFrom b.mark pending × IsPending a n pending

-- ---- one node

-- the paths that a node leaves are put before those that wait; there are none where it does not close its own
abbrev pub IsLeft : Arena → List TermId → List Branch → List Branch → Bool → Option (List outcomes.Branch) → Type 0
IsLeft a facts waiting left true o = (new : List outcomes.Branch) × (o ≡ Some new) × (stacked a facts left ≡ new ++ stacked a facts waiting)
IsLeft a facts waiting left false o = o ≡ None

-- what the end of a node leaves
pub record Leaves (a : Arena) (facts : List TermId) (waiting left : List Branch) (b : Bool) (o : Option (List outcomes.Branch)) : Type 0 where
  pub paths : IsLeft a facts waiting left b o
  pub pending : IsPending a (length facts) left

-- a node is checked: what it comes to, and the paths that are left with the facts then
pub record Checked (old : Arena) (k : Task) (before : List TermId) (waiting : List Branch) (b : Branch) (n : ProofNode)
    (new : Arena) (facts : List TermId) (left : List Branch) (closes : Bool) : Type 0 where
  pub opened : Option (List outcomes.Branch)
  pub outcome : outcomes.node_outcome old.most (asks old k) (trees_of old.nodes) (branch_in old before b) n ≡ comes_in new opened
  pub leaves : Leaves new facts waiting left closes opened
  pub waits : stacked new facts waiting ≡ stacked old before waiting
  pub in_range : AllBelow (length new.nodes) facts
