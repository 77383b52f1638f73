-- What a heuristic to a search says.
use Rattle.std.specs.Prelude.{◌≡◌, ⊤, ◌⊎◌, Bool, true, List, length, Option, None}
use Rattle.spv_logic.specs.declared.conditions.TermId.{TermId}
use Rattle.spv_term.specs.Arena.{Arena, AllBelow}
use Rattle.spv_atoms.specs.Valued.{IsLayered}
use Rattle.spv_assignments.specs.kleene.Passes.{at, StandsAt}
use Rattle.spv_assignments.specs.declared.partial_assignment.facts.Known.{Known}
use Rattle.spv_decisions.specs.decision.Choosing.{lacks_order}
use Rattle.spv_decisions.specs.declared.heuristic.heuristic.Advice.{Advice}
use Rattle.spv_decisions.specs.declared.heuristic.heuristic.Advice.TheVariants.{Split, Decided, Nothing}
use Rattle.spv_decisions.specs.declared.heuristic.heuristic.Heuristic.{Heuristic}

-- an atom that a search may split on: it has no value, or it is an equation of numbers that is false and of whose sides no order is known
abbrev pub MayBeSplit : Arena → List TermId → List (Option Bool) → List Known → TermId → Type 0
MayBeSplit a atoms values known t = StandsAt atoms t × ((at values t.0 ≡ None) ⊎ (lacks_order a values known t ≡ true))

-- a heuristic over an arena: its terms are there, arguments first
pub record IsHeuristic (a : Arena) (g : Heuristic) : Type 0 where
  pub in_range : AllBelow (length a.nodes) g.order
  pub layered : IsLayered a g.order

-- what is advised may be done; all else is a free choice
abbrev pub IsAdvice : Arena → List TermId → List (Option Bool) → List Known → Advice → Type 0
IsAdvice a atoms values known (Split t) = MayBeSplit a atoms values known t
IsAdvice a atoms values known Decided = ⊤
IsAdvice a atoms values known Nothing = ⊤
