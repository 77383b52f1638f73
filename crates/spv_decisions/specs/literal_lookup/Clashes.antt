-- Two facts that are never both true.
use Rattle.std.specs.Prelude.{◌≡◌, ◌⊎◌, ℕ, Bool, true, false, ◌||◌, List, Some, slice_get}
use Rattle.spv_logic.specs.Terms.{Term}
use Rattle.spv_term.specs.Arena.{Arena}
use Rattle.spv_proof_rules.specs.Effects.{contrary}
use Rattle.spv_derivations.specs.declared.derivation.entries.Part.TheVariants.{True}
use Rattle.spv_assignments.specs.declared.partial_assignment.facts.Known.{Known}
use Rattle.spv_assignments.specs.partial_assignment.Facts.{fact_of}
use Rattle.spv_decisions.specs.declared.literal_lookup.clashing.Clash.{Clash}
use Rattle.spv_decisions.specs.declared.literal_lookup.clashing.Clash.TheVariants.{Opposite, Crossed}
use Rattle.spv_decisions.specs.literal_lookup.Orders.{crosses, orders}

-- whether one of two formulas is the negation of the other, or an order of its sides
abbrev pub clash : Term → Term → Bool
clash f g = contrary f g || (crosses f g || crosses g f)

-- why a new fact and another one are never both true
abbrev pub IsClashWith : Arena → Known → Known → Clash → Type 0
IsClashWith a new k (Opposite n) = (k.fact ≡ n) × (contrary (fact_of a new) (fact_of a k) ≡ true)
IsClashWith a new k (Crossed e o) = (e.part ≡ True) × (orders a e.term o ≡ true) × (((e ≡ new) × (o ≡ k)) ⊎ ((e ≡ k) × (o ≡ new)))

-- why a new fact and one of these are never both true
pub record IsClash (a : Arena) (known : List Known) (new : Known) (c : Clash) : Type 0 where
  pub place : ℕ
  pub other : Known
  pub here : slice_get known place ≡ Some other
  pub between : IsClashWith a new other c

-- a new fact clashes with none of these
pub record NoneClashes (a : Arena) (known : List Known) (new : Known) : Type 0 where
  pub each : (i : ℕ) (k : Known) → slice_get known i ≡ Some k → clash (fact_of a new) (fact_of a k) ≡ false
