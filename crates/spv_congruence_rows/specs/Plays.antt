-- What is true of a play between its steps.
use Rattle.std.specs.Prelude.{◌≡◌, ℕ, length, slice_get, Some}
use Rattle.spv_logic.specs.declared.conditions.TermId.{TermId}
use Rattle.spv_term.specs.declared.nodes.Node.{Node}
use Rattle.spv_term.specs.Arena.{Arena}
use Rattle.spv_congruence.specs.Graph.{Graph, HasNode}
use Rattle.spv_congruence.specs.Told.{IsOf}
use Rattle.spv_congruence_rows.specs.declared.play.Play.{Play}

-- a graph has the terms of another one and what was told there, and its terms are the arena's
pub record Continues (a : Arena) (old new : Graph) : Type 0 where
  pub of : IsOf a new
  pub told : new.told ≡ old.told
  pub kept : (t : TermId) (n : Node) → HasNode old.nodes t n → HasNode new.nodes t n

-- the graph's terms are the arena's, and the numbers of facts are right
pub record IsReady (a : Arena) (p : Play) : Type 0 where
  pub of : IsOf a p.graph
  pub told : p.told ≡ length p.graph.told
  pub marks : (i m n : ℕ) → slice_get p.marks.items i ≡ Some (m, n) → m ≡ n
