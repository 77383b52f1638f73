-- Two ids of an arena as the sides of a relation.
use Rattle.std.specs.Prelude.{◌≡◌, ◌<◌, length, Option, Some}
use Rattle.spv_logic.specs.declared.conditions.TermId.{TermId}
use Rattle.spv_logic.specs.Terms.{Term}
use Rattle.spv_term.specs.Arena.{Arena, tree}

-- ids of the arena, and the two terms that they are
pub record IsPair (a : Arena) (sides : Option (Term × Term)) (p : TermId × TermId) : Type 0 where
  pub left : p.0.0 < length a.nodes
  pub right : p.1.0 < length a.nodes
  pub are : sides ≡ Some (tree a p.0, tree a p.1)
