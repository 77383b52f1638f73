-- What facts say of the terms of an arena, by their ids.
use Rattle.std.specs.Prelude.{◌≡◌, ⊤, ℕ, ◌<◌, Bool, false, ◌&&◌, ◌||◌, List, length, None, Some, slice_get, slice_index_or}
use Rattle.std.specs.List.{list_any}
use Rattle.spv_logic.specs.declared.conditions.TermId.{TermId}
use Rattle.spv_logic.specs.Terms.{Term}
use Rattle.spv_logic.specs.Formulas.{negation, below}
use Rattle.spv_term.specs.Arena.{Arena, tree}
use Rattle.spv_atoms.specs.Order.{same_id}
use Rattle.spv_proof_rules.specs.Sums.{negated}
use Rattle.spv_proof_rules.specs.Evaluation.{cites}
use Rattle.spv_proof_steps.specs.Candidates.{lower}
use Rattle.spv_assignments.specs.declared.partial_assignment.facts.Known.{Known}
use Rattle.spv_assignments.specs.declared.assignment_vector.sayings.RowConstraint.{RowConstraint}
use Rattle.spv_assignments.specs.declared.assignment_vector.sayings.RowConstraint.TheVariants.{Affirms, Denies, Orders}
use Rattle.spv_assignments.specs.declared.assignment_vector.sayings.Order.{Order}
use Rattle.spv_assignments.specs.declared.assignment_vector.sayings.Sayings.{Sayings}

-- ---- one saying

-- what is said, as a term
abbrev pub meaning : Arena → RowConstraint → Term
meaning a (Affirms t) = tree a t
meaning a (Denies t) = negation (tree a t)
meaning a (Orders s t) = below (tree a s) (tree a t)

-- it is said of terms of the arena; that a negation is true is said by a denial, and that an order is true by that order
abbrev pub Fits : Arena → RowConstraint → Type 0
Fits a (Affirms t) = (t.0 < length a.nodes) × ((negated (tree a t) ≡ None) × (lower (tree a t) ≡ None))
Fits a (Denies t) = t.0 < length a.nodes
Fits a (Orders s t) = (s.0 < length a.nodes) × (t.0 < length a.nodes)

-- what a formula says
pub record IsRowConstraint (a : Arena) (f : Term) (s : RowConstraint) : Type 0 where
  pub fits : Fits a s
  pub is : meaning a s ≡ f

-- whether two sayings are the same
abbrev pub same_saying : RowConstraint → RowConstraint → Bool
same_saying (Affirms t) (Affirms u) = same_id t u
same_saying (Denies t) (Denies u) = same_id t u
same_saying (Orders s t) (Orders u v) = same_id s u && same_id t v
same_saying _ _ = false

-- ---- all sayings

abbrev pub order : TermId → TermId → Order
order s t = record { low = s; high = t }

abbrev pub same_order : Order → Order → Bool
same_order p q = same_id p.low q.low && same_id p.high q.high

-- whether a term is marked
abbrev pub is_marked : List Bool → TermId → Bool
is_marked marks t = slice_index_or marks t.0 false

-- none of so many terms is
pub record HasNoMarks (n : ℕ) (marks : List Bool) : Type 0 where
  pub count : length marks ≡ n
  pub none : (t : TermId) → is_marked marks t ≡ false

-- whether this is said
abbrev pub says : Sayings → RowConstraint → Bool
says given (Affirms t) = is_marked given.affirmed t
says given (Denies t) = is_marked given.denied t
says given (Orders s t) = list_any (same_order (order s t)) given.orders

-- it is of so many terms that something may be said
pub record IsOfTerms (n : ℕ) (given : Sayings) : Type 0 where
  pub affirmed : length given.affirmed ≡ n
  pub denied : length given.denied ≡ n

-- this is said of one of them
abbrev pub IsWithin : Sayings → RowConstraint → Type 0
IsWithin given (Affirms t) = t.0 < length given.affirmed
IsWithin given (Denies t) = t.0 < length given.denied
IsWithin given (Orders s t) = ⊤

-- nothing is said
pub record IsEmpty (given : Sayings) : Type 0 where
  pub none : (s : RowConstraint) → says given s ≡ false

-- one saying more
pub record Adds (s : RowConstraint) (old new : Sayings) : Type 0 where
  pub each : (u : RowConstraint) → says new u ≡ (says old u || same_saying u s)

-- what these facts say, and nothing else, is said
pub record AreSaid (a : Arena) (facts : List Term) (given : Sayings) : Type 0 where
  pub each : (s : RowConstraint) → Fits a s → says given s ≡ cites facts (meaning a s)

-- the terms of facts are terms of the arena
pub record AreThere (a : Arena) (known : List Known) : Type 0 where
  pub each : (i : ℕ) (k : Known) → slice_get known i ≡ Some k → k.term.0 < length a.nodes
