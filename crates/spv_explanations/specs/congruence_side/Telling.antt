-- What the graph is told by a literal.
use Rattle.std.specs.Prelude.{Bool, true, false, ◌&&◌, List, [], ◌∷◌, map, Option, Some, None, slice_get, if◌then◌else◌}
use Rattle.spv_logic.specs.declared.conditions.TermId.{TermId}
use Rattle.spv_term.specs.Arena.{Arena, tree}
use Rattle.spv_congruence.specs.declared.facts.Fact.{Fact}
use Rattle.spv_derivations.specs.declared.derivation.entries.Part.{Part}
use Rattle.spv_derivations.specs.declared.derivation.entries.Part.TheVariants.{True, False, Below, Above}
use Rattle.spv_derivations.specs.derivation.Sides.{Pair, node_sides}
use Rattle.spv_derivations.specs.derivation.Derived.{is_truth}

-- two terms that are joined, or separated
pub record Tie : Type 0 where
  pub left : TermId
  pub right : TermId
  pub equal : Bool

abbrev pub tie_of : Fact → Tie
tie_of x = record { left = x.left; right = x.right; equal = x.equal }

-- what was told, whatever the reasons
abbrev pub ties : List Fact → List Tie
ties told = map tie_of told

abbrev pub unless_truths : Arena → Option Pair → Option Pair
unless_truths a None = None
unless_truths a (Some st) = if is_truth a (tree a st.0) && is_truth a (tree a st.1) then None else Some st

-- the sides of an equation that is no connective
abbrev pub equation_sides : Arena → TermId → Option Pair
equation_sides a t = unless_truths a (node_sides (slice_get a.nodes t.0))

abbrev pub sides_tie : Bool → Option Pair → List Tie
sides_tie equal None = []
sides_tie equal (Some st) = record { left = st.0; right = st.1; equal = equal } ∷ []

abbrev pub value_tie : TermId → TermId → Tie
value_tie t value = record { left = t; right = value; equal = true }

-- a literal joins its term with TRUE or with FALSE, and joins or separates the sides of an equation
abbrev pub literal_ties : Arena → TermId → TermId → TermId → Part → List Tie
literal_ties a truth falsity t True = value_tie t truth ∷ sides_tie true (equation_sides a t)
literal_ties a truth falsity t False = value_tie t falsity ∷ sides_tie false (equation_sides a t)
literal_ties a truth falsity t Below = value_tie t falsity ∷ sides_tie false (equation_sides a t)
literal_ties a truth falsity t Above = value_tie t falsity ∷ sides_tie false (equation_sides a t)
