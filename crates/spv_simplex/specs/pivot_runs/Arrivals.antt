-- What the derivation of a check on the numbers comes to.
use Rattle.std.specs.Prelude.{◌≡◌, ℕ, ◌<◌, Bool, true, false, List, [], ◌∷◌, length, Some, nat_eq, if◌then◌else◌}
use Rattle.spv_frac.specs.rational.Rational.{Rational}
use Rattle.spv_tableau_rules.specs.declared.tableaux.side.Side.{Side}
use Rattle.spv_tableau_rules.specs.tableaux.Numbers.{nothing}
use Rattle.spv_tableau_rules.specs.tableaux.Rows.{Rows, columns, IsSolution}
use Rattle.spv_tableau_rules.specs.tableaux.Bounds.{AreBounds, Limits, limits, Meets}
use Rattle.spv_tableau_rules.specs.tableaux.Solved.{Places, is_basic, basis_of, IsSolved}
use Rattle.spv_tableau_rules.specs.tableaux.Steps.{none_to, may_leave, inside}
use Rattle.spv_tableau_rules.specs.tableaux.Operations.{Operation, fits}
use Rattle.spv_tableau_rules.specs.tableaux.Walks.{Exchange, Start, held_at, Walk, IsWide, IsUnfinished}
use Rattle.spv_tableau_rules.specs.tableaux.Contradictions.{IsContradiction}
use Rattle.spv_dictionary.specs.Dictionary.{Dictionary, IsDictionary, basic_at, entries, places}
use Rattle.spv_dictionary.specs.updates.Shifts.{value_in}
use Rattle.spv_dictionary.specs.declared.pivoting.choosing.Chosen.{Chosen}
use Rattle.spv_dictionary.specs.declared.pivoting.entering.Entry.{Entry}
use Rattle.spv_dictionary.specs.pivoting.Combining.{multiples_in}
use Rattle.spv_dictionary.specs.pivoting.Finding.{IsStuckOn, IsChosen}
use Rattle.spv_simplex.specs.pivot_runs.Along.{IsAt}
use Rattle.spv_simplex.specs.pivot_runs.Derivation.{IsPlacing, ArePlaced, Goes, IsNextOn}

-- a check sets out from a solved form and values that solve the rows
pub record SetsOut (rows : Rows) (start : Start) (d : Dictionary) (values : List Rational) : Type 0 where
  pub form : IsDictionary d
  pub solved : IsSolved rows (places d) (entries d)
  pub spots : length d.spots ≡ columns rows
  pub width : length d.outside ≡ rows.parts
  pub count : length values ≡ columns rows
  pub solution : IsSolution rows (value_in values)
  pub parts : (c : ℕ) → c < rows.parts → is_basic (places d c) ≡ false → value_in values c ≡ nothing
  pub bounds : AreBounds rows start.bounds
  pub basis : start.basis ≡ d.basic
  pub held : (c : ℕ) → c < columns rows → is_basic (places d c) ≡ false → held_at start.held c ≡ value_in values c

-- the steps of a walk have led here
pub record IsUnderway (rows : Rows) (start : Start) (made : List Exchange) (d : Dictionary) (values : List Rational) : Type 0 where
  pub places : Places
  pub walk : Walk rows (limits rows start.bounds) (held_at start.held) (inside (limits rows start.bounds) (held_at start.held) (basis_of start.basis)) made places
  pub at : IsAt rows (limits rows start.bounds) (held_at start.held) places d values
  pub width : length d.outside ≡ rows.parts

-- what a column outside the basis holds: what it held outside of it before, or a bound
pub data Rests (limits : Limits) (old new : Dictionary) (before after : List Rational) (c : ℕ) : Type 0 where
  as_before : is_basic (places old c) ≡ false → value_in after c ≡ value_in before c → Rests limits old new before after c
  at_bound : (side : Side) → limits c side ≡ Some (value_in after c) → Rests limits old new before after c

-- what is so wherever a check ends
pub record Stands (rows : Rows) (start : Start) (old new : Dictionary) (before after : List Rational) : Type 0 where
  pub solved : IsSolved rows (places new) (entries new)
  pub spots : length new.spots ≡ columns rows
  pub width : length new.outside ≡ rows.parts
  pub count : length after ≡ columns rows
  pub solution : IsSolution rows (value_in after)
  pub parts : (c : ℕ) → c < rows.parts → is_basic (places new c) ≡ false → value_in after c ≡ nothing
  pub rests : (c : ℕ) → c < columns rows → is_basic (places new c) ≡ false → Rests (limits rows start.bounds) old new before after c

-- the columns of a basis after these steps
abbrev pub in_basis_after : (ℕ → Bool) → List Exchange → ℕ → Bool
in_basis_after basis [] c = basis c
in_basis_after basis (x ∷ steps) c = in_basis_after (λ y. if nat_eq y x.entering then true else if nat_eq y x.leaving then false else basis y) steps c

-- ---- laws

abbrev pub PlacedStands : Type 0
PlacedStands = (rows : Rows) (start : Start) (d : Dictionary) (before : List Rational) → SetsOut rows start d before
    → (n : ℕ) (values : List Rational) → ArePlaced (limits rows start.bounds) d before n values → Stands rows start d d before values

-- an operation that does not fit, while columns move into their bounds
abbrev pub PlacingIsWide : Type 0
PlacingIsWide = (rows : Rows) (start : Start) (d : Dictionary) (before : List Rational) → SetsOut rows start d before
    → (n : ℕ) (values : List Rational) → ArePlaced (limits rows start.bounds) d before n values → n < length d.outside
    → (o : Operation) → IsPlacing (limits rows start.bounds) d values n o → fits o ≡ false → IsWide rows start [] o

-- steps, once all columns outside the basis have moved, are a walk
abbrev pub GoesUnderway : Type 0
GoesUnderway = (rows : Rows) (start : Start) (d : Dictionary) (before : List Rational) → SetsOut rows start d before
    → (values : List Rational) → ArePlaced (limits rows start.bounds) d before (length d.outside) values
    → (made : List Exchange) (here : Dictionary) (now : List Rational) → Goes (limits rows start.bounds) d values made here now → IsUnderway rows start made here now

abbrev pub UnderwayStands : Type 0
UnderwayStands = (rows : Rows) (start : Start) (d : Dictionary) (before : List Rational) → SetsOut rows start d before
    → (made : List Exchange) (here : Dictionary) (now : List Rational) → IsUnderway rows start made here now → Stands rows start d here before now

-- the kept basis is the one that the check began with, after the steps that were made
abbrev pub UnderwayBasis : Type 0
UnderwayBasis = (rows : Rows) (start : Start) (made : List Exchange) (d : Dictionary) (values : List Rational) → IsUnderway rows start made d values
    → (c : ℕ) → c < columns rows → is_basic (places d c) ≡ in_basis_after (λ y. is_basic (basis_of start.basis y)) made c

-- an operation that does not fit, in a step
abbrev pub StepIsWide : Type 0
StepIsWide = (rows : Rows) (start : Start) (made : List Exchange) (d : Dictionary) (values : List Rational) → IsUnderway rows start made d values → IsDictionary d
    → AreBounds rows start.bounds → (o : Operation) → IsNextOn (limits rows start.bounds) d values o → fits o ≡ false → IsWide rows start made o

-- where no column of the basis is out of its bounds, the point meets all of them
abbrev pub NoneLeavesMeets : Type 0
NoneLeavesMeets = (rows : Rows) (start : Start) (made : List Exchange) (d : Dictionary) (values : List Rational) → IsUnderway rows start made d values → AreBounds rows start.bounds
    → none_to (length d.spots) (may_leave (limits rows start.bounds) (places d) (value_in values)) ≡ true → Meets (limits rows start.bounds) (value_in values)

-- a stuck column is read as a contradiction
abbrev pub StuckIsContradiction : Type 0
StuckIsContradiction = (rows : Rows) (start : Start) (made : List Exchange) (d : Dictionary) (values : List Rational) → IsUnderway rows start made d values → IsDictionary d
    → (chosen : Chosen) → IsStuckOn (limits rows start.bounds) d (value_in values) chosen
    → IsContradiction rows start.bounds (multiples_in d (length d.outside) (basic_at d chosen.row) chosen.side (length d.basic))

-- one more step would follow
abbrev pub StepIsUnfinished : Type 0
StepIsUnfinished = (rows : Rows) (start : Start) (made : List Exchange) (d : Dictionary) (values : List Rational) → IsUnderway rows start made d values → IsDictionary d
    → (chosen : Chosen) (entry : Entry) → IsChosen (limits rows start.bounds) d (value_in values) chosen entry
    → (most : ℕ) → length made ≡ most → IsUnfinished rows start made most
