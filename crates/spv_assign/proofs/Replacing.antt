-- Pairs put into conditions, and hypotheses in front of them.
use Rattle.std.proofs.Common.{◌≡◌, ◌<◌, List, [], ◌∷◌, map, length, Some, if◌then◌else◌, refl, sym, ap, subst}
use Rattle.spv_logic.specs.declared.conditions.TermId.{TermId}
use Rattle.spv_logic.specs.declared.operators.Head.{Head}
use Rattle.spv_logic.specs.Terms.{head_eq}
use Rattle.spv_term.specs.declared.nodes.Condition.{Condition}
use Rattle.spv_term.specs.Arena.{Arena, tree}
use Rattle.spv_program.specs.Calls.{replacing}
use Rattle.spv_meaning.specs.Before as before
use Rattle.spv_term.specs.substitution.Images.{head_at, pairs_at}
use Rattle.spv_assign.specs.Conditions.{condition_of, conditions_of, AreIn, pairs_of, with_given, Assumes}

-- ---- pairs

-- pairs of ids put in what the pairs of heads and terms put in
pairs-same : (a : Arena) (pairs : List (TermId × TermId)) (h : Head) → replacing (pairs_of a pairs) h ≡ pairs_at a pairs h
pairs-same a [] h = refl
pairs-same a (p ∷ pairs) h = ap (λ o. if head_eq h (head_at a p.0) then Some (tree a p.1) else o) (pairs-same a pairs h)

pub replacing-is : (a : Arena) (pairs : List (TermId × TermId)) → pairs_at a pairs ≡ replacing (pairs_of a pairs)
replacing-is a pairs = λ i h. sym (pairs-same a pairs h) i

pub map_twice : {A B C : Type 0} (f : B → C) (g : A → B) (xs : List A) → map f (map g xs) ≡ map (λ x. f (g x)) xs
map_twice f g [] = refl
map_twice f g (x ∷ xs) = ap (λ ys. f (g x) ∷ ys) (map_twice f g xs)

-- ---- hypotheses in front

assumed : (a : Arena) (h : TermId) (conditions : List Condition) → conditions_of a (map (with_given h) conditions) ≡ before.all_assuming (tree a h) (conditions_of a conditions)
assumed a h [] = refl
assumed a h (c ∷ conditions) = ap (λ cs. condition_of a (with_given h c) ∷ cs) (assumed a h conditions)

assumed_in : (a : Arena) (h : TermId) (conditions : List Condition) → h.0 < length a.nodes → AreIn a conditions → AreIn a (map (with_given h) conditions)
assumed_in a h [] there k = tt
assumed_in a h (c ∷ conditions) there k = (record { given = (there, k.0.given); goal = k.0.goal }, assumed_in a h conditions there k.1)

pub assumes : (h : TermId) (old new : List Condition) → new ≡ map (with_given h) old → Assumes h old new
assumes h old new e = subst (Assumes h old) (sym e) (record { conditions = λ a. assumed a h old; in_range = λ a there k. assumed_in a h old there k })
