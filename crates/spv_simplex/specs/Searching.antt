-- What a check finds, on the numbers.
use Rattle.std.specs.Prelude.{◌≡◌, ℕ, ◌<◌, true, false, List, length}
use Rattle.spv_frac.specs.rational.Rational.{Rational}
use Rattle.spv_tableau_rules.specs.tableaux.Bounds.{Limits}
use Rattle.spv_tableau_rules.specs.tableaux.Steps.{none_to, may_leave}
use Rattle.spv_tableau_rules.specs.tableaux.Operations.{Operation, fits}
use Rattle.spv_tableau_rules.specs.tableaux.Contradictions.{Multiple}
use Rattle.spv_dictionary.specs.Dictionary.{Dictionary, basic_at, places, with_solved}
use Rattle.spv_dictionary.specs.updates.Shifts.{value_in}
use Rattle.spv_dictionary.specs.declared.pivoting.choosing.Chosen.{Chosen}
use Rattle.spv_dictionary.specs.declared.pivoting.entering.Entry.{Entry}
use Rattle.spv_dictionary.specs.pivoting.Combining.{multiples_in}
use Rattle.spv_dictionary.specs.pivoting.Finding.{IsStuckOn, IsChosen}
use Rattle.spv_simplex.specs.pivot_runs.Along.{IsGone}
use Rattle.spv_simplex.specs.pivot_runs.Derivation.{IsPlacing, ArePlaced, Goes, IsNextOn}
use Rattle.spv_simplex.specs.declared.checked.Checked.{Checked}
use Rattle.spv_simplex.specs.declared.checked.Checked.TheVariants.{Feasible, Infeasible, Wide, Pivots}
use Rattle.spv_simplex.specs.Evidence.{EvidenceValue, exchange_of, no_operation, with_step, with_operation}

-- columns moved into their bounds, up to one that an operation does not fit for
pub record PlacingEnds (limits : Limits) (d : Dictionary) (values after : List Rational) (o : Operation) : Type 0 where
  pub slot : ℕ
  pub placed : ArePlaced limits d values slot after
  pub inside : slot < length d.outside
  pub refused : IsPlacing limits d after slot o
  pub unfit : fits o ≡ false

-- a step was made, and the evidence has it
pub record IsTurn (limits : Limits) (d : Dictionary) (values : List Rational) (e : EvidenceValue) (new : Dictionary) (after : List Rational) (evidence : EvidenceValue) : Type 0 where
  pub chosen : Chosen
  pub entry : Entry
  pub room : length e.steps < e.room.steps
  pub gone : IsGone limits d values chosen entry new after
  pub evidence_is : evidence ≡ with_step e (exchange_of chosen.column entry.column)

-- why no step is made
pub data Stops (limits : Limits) (d : Dictionary) (values : List Rational) (new : Dictionary) (combination : List Multiple) (e : EvidenceValue) : Checked → Type 0 where
  met : none_to (length d.spots) (may_leave limits (places d) (value_in values)) ≡ true → new ≡ d → Stops limits d values new combination e Feasible
  stuck : (chosen : Chosen) → IsStuckOn limits d (value_in values) chosen
      → combination ≡ multiples_in d (length d.outside) (basic_at d chosen.row) chosen.side (length d.basic) → new ≡ d → Stops limits d values new combination e Infeasible
  wide : IsNextOn limits d values e.operation → fits e.operation ≡ false → new ≡ with_solved d new.solved → Stops limits d values new combination e Wide
  full : (chosen : Chosen) (entry : Entry) → IsChosen limits d (value_in values) chosen entry → length e.steps ≡ e.room.steps → e.operation ≡ no_operation → new ≡ d
      → Stops limits d values new combination e Pivots

-- what is so then
pub record HasStopped (limits : Limits) (d : Dictionary) (values : List Rational) (e : EvidenceValue) (new : Dictionary) (after : List Rational) (combination : List Multiple) (evidence : EvidenceValue)
    (answer : Checked) : Type 0 where
  pub values_are : after ≡ values
  pub evidence_is : evidence ≡ with_operation e evidence.operation
  pub stops : Stops limits d values new combination evidence answer

-- steps were made, and then none
pub record Arrives (limits : Limits) (d : Dictionary) (values : List Rational) (e : EvidenceValue) (new : Dictionary) (after : List Rational) (combination : List Multiple) (evidence : EvidenceValue)
    (answer : Checked) : Type 0 where
  pub here : Dictionary
  pub goes : Goes limits d values evidence.steps here after
  pub stops : Stops limits here after new combination evidence answer
  pub start_is : evidence.start ≡ e.start
  pub room_is : evidence.room ≡ e.room

-- what a check finds
pub data Ends (limits : Limits) (d : Dictionary) (values : List Rational) (e : EvidenceValue) (new : Dictionary) (after : List Rational) (combination : List Multiple) (evidence : EvidenceValue)
    : Checked → Type 0 where
  placing : PlacingEnds limits d values after evidence.operation → new ≡ d → evidence ≡ with_operation e evidence.operation → Ends limits d values e new after combination evidence Wide
  arriving : (now : List Rational) (answer : Checked) → ArePlaced limits d values (length d.outside) now → Arrives limits d now e new after combination evidence answer
      → Ends limits d values e new after combination evidence answer
