-- Facts that are known, and one that is found among them.
use Rattle.std.specs.Prelude.{◌≡◌, ℕ, ◌<◌, List, length, Some, None, slice_get}
use Rattle.spv_logic.specs.Terms.{Term}
use Rattle.spv_term.specs.Arena.{Arena, tree}
use Rattle.spv_proof_rules.specs.Sums.{negated}
use Rattle.spv_assignments.specs.declared.partial_assignment.facts.Known.{Known}
use Rattle.spv_assignments.specs.partial_assignment.Facts.{fact_of}

-- a fact is among these
pub record IsAmong (known : List Known) (k : Known) : Type 0 where
  pub place : ℕ
  pub is : slice_get known place ≡ Some k

-- a fact of this number is among these, and is this formula
pub record HasFact (a : Arena) (known : List Known) (n : ℕ) (f : Term) : Type 0 where
  pub place : ℕ
  pub found : Known
  pub here : slice_get known place ≡ Some found
  pub number : found.fact ≡ n
  pub is : fact_of a found ≡ f

-- the terms of facts are terms of the arena
pub record AreThere (a : Arena) (known : List Known) : Type 0 where
  pub each : (i : ℕ) (k : Known) → slice_get known i ≡ Some k → k.term.0 < length a.nodes

-- the term of a fact is a term of the arena, and no negation
pub record IsCore (a : Arena) (k : Known) : Type 0 where
  pub in_range : k.term.0 < length a.nodes
  pub bare : negated (tree a k.term) ≡ None

-- the same of each of these
pub record AreCores (a : Arena) (known : List Known) : Type 0 where
  pub each : (i : ℕ) (k : Known) → slice_get known i ≡ Some k → IsCore a k
