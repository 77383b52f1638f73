-- What conditions over an arena claim, and the ids in them.
use Rattle.std.specs.Prelude.{◌≡◌, ◌<◌, List, [], ◌∷◌, ◌++◌, map, length}
use Rattle.std.specs.List.{flat_map}
use Rattle.spv_logic.specs.declared.conditions.TermId.{TermId}
use Rattle.spv_logic.specs.declared.types.Sort.{Sort}
use Rattle.spv_logic.specs.declared.operators.Head.{Head}
use Rattle.spv_logic.specs.Terms.{Term}
use Rattle.spv_logic.specs.Conditions as logic
use Rattle.spv_term.specs.declared.nodes.Condition.{Condition}
use Rattle.spv_term.specs.Arena.{Arena, AllBelow, tree, sort_at, sequent}
use Rattle.spv_term.specs.substitution.Images.{head_at}
use Rattle.spv_meaning.specs.Before as before

-- what a condition claims, and where it comes from
abbrev pub condition_of : Arena → Condition → logic.Condition
condition_of a c = record { claim = sequent a c; origin = c.origin }

abbrev pub conditions_of : Arena → List Condition → List logic.Condition
conditions_of a conditions = map (condition_of a) conditions

-- the terms of a condition are there
pub record IsIn (a : Arena) (c : Condition) : Type 0 where
  pub given : AllBelow (length a.nodes) c.given
  pub goal : c.goal.0 < length a.nodes

abbrev pub AreIn : Arena → List Condition → Type 0
AreIn a [] = Unit {0}
AreIn a (c ∷ conditions) = IsIn a c × AreIn a conditions

-- the sorts of what is given, and behind them that of the goal
abbrev pub sorts_of : Arena → Condition → List Sort
sorts_of a c = map (sort_at a) c.given ++ sort_at a c.goal ∷ []

-- the terms of conditions: of each what is given, and then the goal
abbrev pub terms_in : logic.Condition → List Term
terms_in c = c.claim.given ++ c.claim.goal ∷ []

abbrev pub all_terms_in : List logic.Condition → List Term
all_terms_in conditions = flat_map terms_in conditions

-- pairs as heads and the terms that stand in their places
abbrev pub pairs_of : Arena → List (TermId × TermId) → List (Head × Term)
pairs_of a pairs = map (λ p. (head_at a p.0, tree a p.1)) pairs

-- ---- ids

abbrev pub ids_in : Condition → List TermId
ids_in c = c.given ++ c.goal ∷ []

abbrev pub all_ids_in : List Condition → List TermId
all_ids_in conditions = flat_map ids_in conditions

-- one hypothesis more, in front
abbrev pub with_given : TermId → Condition → Condition
with_given h c = record { given = h ∷ c.given; goal = c.goal; origin = c.origin }

-- whatever the arena, conditions are others with one hypothesis more in front
pub record Assumes (h : TermId) (old new : List Condition) : Type 0 where
  pub conditions : (a : Arena) → conditions_of a new ≡ before.all_assuming (tree a h) (conditions_of a old)
  pub in_range : (a : Arena) → h.0 < length a.nodes → AreIn a old → AreIn a new
