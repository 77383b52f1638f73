-- A graph that is told what a derivation has.
use Rattle.std.specs.Prelude.{◌≡◌, ◌<◌, List, length}
use Rattle.spv_logic.specs.declared.conditions.TermId.{TermId}
use Rattle.spv_logic.specs.Formulas.{equation}
use Rattle.spv_term.specs.Arena.{Arena, tree}
use Rattle.spv_congruence.specs.Graph.{Graph}
use Rattle.spv_congruence.specs.Told.{IsOf}
use Rattle.spv_derivations.specs.declared.derivation.entries.Entry.{Entry}
use Rattle.spv_derivations.specs.derivation.Derivation.{IsDerivation}
use Rattle.spv_explanations.specs.equalities.Reasons.{IsBacked}

pub record IsReady (a : Arena) (g : Graph) (es : List Entry) : Type 0 where
  pub of : IsOf a g
  pub derivation : IsDerivation a es
  pub backed : IsBacked a g es

-- two terms, an equation that may be told, and the equation of the two
pub record IsExample (a : Arena) (left right equal both : TermId) : Type 0 where
  pub left_in : left.0 < length a.nodes
  pub right_in : right.0 < length a.nodes
  pub equal_in : equal.0 < length a.nodes
  pub both_in : both.0 < length a.nodes
  pub is : tree a both ≡ equation (tree a left) (tree a right)
