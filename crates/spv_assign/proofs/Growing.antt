-- Conditions over an arena that grows.
use Rattle.std.proofs.Common.{◌≡◌, List, [], ◌∷◌, ◌++◌, map, refl, arith}
use Rattle.spv_term.specs.declared.nodes.Condition.{Condition}
use Rattle.spv_term.specs.Arena.{Arena, Extends}
use Rattle.spv_term.proofs.ArenaLemmas.{length-Extends, sort_at-Extends, sorts_at-Extends, AllBelow-Extends, map_tree-Extends, tree-Extends}
use Rattle.spv_assign.specs.Conditions.{conditions_of, AreIn, sorts_of}

module _ {old new : Arena} (more : Extends old new) where
  -- the terms of conditions stay
  pub AreIn-Extends : (conditions : List Condition) → AreIn old conditions → AreIn new conditions
  AreIn-Extends [] h = tt
  AreIn-Extends (c ∷ conditions) h = (
    record {
      given = AllBelow-Extends more c.given h.0.given;
      goal = let longer = length-Extends more in let there = h.0.goal in omega (arith, there, longer);
    },
    AreIn-Extends conditions h.1,
  )

  -- and so does what the conditions claim
  pub conditions_of-Extends : (conditions : List Condition) → AreIn old conditions → conditions_of new conditions ≡ conditions_of old conditions
  conditions_of-Extends [] h = refl
  conditions_of-Extends (c ∷ conditions) h =
      let given = map_tree-Extends more c.given h.0.given in
      let goal = tree-Extends more c.goal h.0.goal in
      let others = conditions_of-Extends conditions h.1 in
      λ i. record { claim = record { given = given i; goal = goal i }; origin = c.origin } ∷ others i

  -- and the sorts
  pub sorts_of-Extends : (conditions : List Condition) → AreIn old conditions → map (sorts_of new) conditions ≡ map (sorts_of old) conditions
  sorts_of-Extends [] h = refl
  sorts_of-Extends (c ∷ conditions) h =
      let given = sorts_at-Extends more c.given h.0.given in
      let goal = sort_at-Extends more c.goal h.0.goal in
      let others = sorts_of-Extends conditions h.1 in
      λ i. (given i ++ goal i ∷ []) ∷ others i

-- what several functions in a row need
pub ruleset growth = (AreIn-Extends, conditions_of-Extends, sorts_of-Extends)
