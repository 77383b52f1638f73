-- What is true of a play between its steps.
use Rattle.std.specs.Prelude.{List}
use Rattle.spv_logic.specs.declared.conditions.TermId.{TermId}
use Rattle.spv_term.specs.Arena.{Arena}
use Rattle.spv_share.specs.Both.{IsBoth, IsLevel}
use Rattle.spv_share.specs.Relations.{AreNodes}
use Rattle.spv_share_tests.specs.declared.play.Play.{Play}

-- both sides are sound, the atoms are in the graph, and the mark is one of theirs
pub record IsReady (a : Arena) (p : Play) (atoms : List TermId) : Type 0 where
  pub both : IsBoth a p.both
  pub nodes : AreNodes p.both.trail.graph.nodes atoms
  pub level : IsLevel a p.both p.level
