-- How a derivation goes on backing what a graph was told.
use Rattle.std.specs.Prelude.{◌≡◌, ℕ, true, List, Some}
use Rattle.spv_logic.specs.declared.conditions.TermId.{TermId}
use Rattle.spv_term.specs.Arena.{Arena, Extends}
use Rattle.spv_congruence.specs.declared.facts.Fact.{Fact}
use Rattle.spv_congruence.specs.Graph.{Graph}
use Rattle.spv_congruence.specs.Told.{AddsParts, Joins, Undone, empty}
use Rattle.spv_derivations.specs.declared.derivation.entries.Entry.{Entry}
use Rattle.spv_derivations.specs.derivation.Sides.{sides_at}
use Rattle.spv_explanations.specs.equalities.Reasons.{GoesOn, IsBacked}

pub record StaysBacked : Type 0 where
  -- a graph that was told nothing
  pub nothing : (a : Arena) (es : List Entry) → IsBacked a empty es
  -- terms were added
  pub added : (a : Arena) (es : List Entry) (t : TermId) (old new : Graph) → AddsParts a t old new → IsBacked a old es → IsBacked a new es
  -- one more fact was told, and an equality states its sides
  pub told : (a : Arena) (es : List Entry) (old new : Graph) (x : Fact) → Joins old x new → (x.equal ≡ true → sides_at a es x.why ≡ Some (x.left, x.right)) → IsBacked a old es → IsBacked a new es
  -- facts were taken back
  pub taken : (a : Arena) (es : List Entry) (old new : Graph) (n : ℕ) → Undone old n new → IsBacked a old es → IsBacked a new es
  -- the derivation goes on
  pub goes_on : (a : Arena) (g : Graph) (old new : List Entry) → GoesOn old new → IsBacked a g old → IsBacked a g new
  -- the arena grows
  pub grows : (a b : Arena) (g : Graph) (es : List Entry) → Extends a b → IsBacked a g es → IsBacked b g es
