-- Which atom a search splits on next.
use Rattle.std.specs.Prelude.{◌≡◌, ◌⊎◌, ℕ, Bool, true, false, ◌&&◌, not, List, Option, Some, None, is_some, slice_get}
use Rattle.spv_logic.specs.declared.conditions.TermId.{TermId}
use Rattle.spv_term.specs.Arena.{Arena, tree}
use Rattle.spv_atoms.specs.Atoms.{is_number}
use Rattle.spv_proof_rules.specs.Evaluation.{sides}
use Rattle.spv_derivations.specs.derivation.Derivation.{are_numbers}
use Rattle.spv_assignments.specs.kleene.Passes.{at, StandsAt}
use Rattle.spv_assignments.specs.declared.partial_assignment.facts.Known.{Known}
use Rattle.spv_decisions.specs.literal_lookup.Orders.{has_order}
use Rattle.spv_decisions.specs.declared.decision.choosing.Choice.{Choice}
use Rattle.spv_decisions.specs.declared.decision.choosing.Choice.TheVariants.{Split, Full}

-- ---- orders

-- whether a term is an equation of two numbers
abbrev pub is_comparison : Arena → TermId → Bool
is_comparison a t = are_numbers (is_number a.shapes a.decls) (sides (tree a t))

abbrev pub is_false : Option Bool → Bool
is_false (Some false) = true
is_false _ = false

-- whether a term is an equation of two numbers that is false, and no fact is an order of its sides
abbrev pub lacks_order : Arena → List (Option Bool) → List Known → TermId → Bool
lacks_order a values known t = is_false (at values t.0) && (is_comparison a t && not (has_order a known t))

-- ---- the choice

-- each of these atoms has a value
pub record HaveValues (values : List (Option Bool)) (atoms : List TermId) : Type 0 where
  pub each : (i : ℕ) (t : TermId) → slice_get atoms i ≡ Some t → is_some (at values t.0) ≡ true

-- none of these atoms is an equation that lacks an order
pub record HaveOrders (a : Arena) (values : List (Option Bool)) (known : List Known) (atoms : List TermId) : Type 0 where
  pub each : (i : ℕ) (t : TermId) → slice_get atoms i ≡ Some t → lacks_order a values known t ≡ false

-- an atom to split on: one without a value; or, where each has one, an equation that lacks an order
abbrev pub IsSplit : Arena → List TermId → List (Option Bool) → List Known → TermId → Type 0
IsSplit a atoms values known t = StandsAt atoms t × ((at values t.0 ≡ None) ⊎ (HaveValues values atoms × (lacks_order a values known t ≡ true)))

-- an atom to split on, or that there is none
abbrev pub IsChoice : Arena → List TermId → List (Option Bool) → List Known → Choice → Type 0
IsChoice a atoms values known (Split t) = IsSplit a atoms values known t
IsChoice a atoms values known Full = HaveValues values atoms × HaveOrders a values known atoms
