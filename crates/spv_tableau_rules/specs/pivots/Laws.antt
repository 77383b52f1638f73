-- What solved forms, their points and stuck columns obey.
use Rattle.std.specs.Prelude.{◌≡◌, ℕ, ◌<◌, true, false, List, Some}
use Rattle.spv_frac.specs.rational.Rational.{Rational, is_zero}
use Rattle.spv_tableau_rules.specs.declared.tableaux.side.Side.{Side}
use Rattle.spv_tableau_rules.specs.tableaux.Numbers.{minus}
use Rattle.spv_tableau_rules.specs.tableaux.Rows.{Rows, columns, Point, IsSolution}
use Rattle.spv_tableau_rules.specs.tableaux.Bounds.{Bound, Limits, limits, Meets}
use Rattle.spv_tableau_rules.specs.tableaux.Solved.{At, Places, is_basic, Entries, IsSolved, point, at_rest, exchanged, pivot, row_places, row_entries}
use Rattle.spv_tableau_rules.specs.tableaux.Steps.{IsStep, IsStuck}
use Rattle.spv_tableau_rules.specs.tableaux.Operations.{shift}
use Rattle.spv_tableau_rules.specs.tableaux.Contradictions.{Multiple, IsContradiction}
use Rattle.spv_tableau_rules.specs.pivots.Moved.{moved, placed, as_held, stuck_multiples}

-- the rows themselves are a solved form
abbrev pub RowsAreSolved : Type 0
RowsAreSolved = (rows : Rows) → IsSolved rows (row_places rows) (row_entries rows)

-- an exchange of two columns whose entry is not 0 leads from a solved form to one
abbrev pub PivotSolves : Type 0
PivotSolves = (rows : Rows) (places : Places) (t : Entries) (leaving : ℕ) (side : Side) (entering : ℕ) → IsSolved rows places t
    → leaving < columns rows → is_basic (places leaving) ≡ true → entering < columns rows → is_basic (places entering) ≡ false → is_zero (t leaving entering) ≡ false
    → IsSolved rows (exchanged places leaving side entering) (pivot t leaving entering)

-- a solved form is one whatever the places of the columns outside the basis
abbrev pub BasisAlone : Type 0
BasisAlone = (rows : Rows) (places others : Places) (t : Entries) → ((c : ℕ) → c < columns rows → is_basic (others c) ≡ is_basic (places c)) → IsSolved rows places t → IsSolved rows others t

-- nor what its entries are at columns outside the basis, or behind the last column
abbrev pub EntriesAlone : Type 0
EntriesAlone = (rows : Rows) (places : Places) (t u : Entries) → ((b c : ℕ) → b < columns rows → is_basic (places b) ≡ true → c < columns rows → u b c ≡ t b c)
    → IsSolved rows places t → IsSolved rows places u

-- a step leads from a solved form to one
abbrev pub StepSolves : Type 0
StepSolves = (rows : Rows) (limits : Limits) (places : Places) (v : Point) (t : Entries) (leaving : ℕ) (side : Side) (entering : ℕ) → IsSolved rows places t
    → IsStep rows limits places v t leaving side entering → IsSolved rows (exchanged places leaving side entering) (pivot t leaving entering)

-- a basis has one solved form
abbrev pub OneSolvedForm : Type 0
OneSolvedForm = (rows : Rows) (places : Places) (t u : Entries) → IsSolved rows places t → IsSolved rows places u
    → (b c : ℕ) → b < columns rows → is_basic (places b) ≡ true → c < columns rows → t b c ≡ u b c

-- the point of a placed basis solves the rows
abbrev pub PointSolves : Type 0
PointSolves = (rows : Rows) (limits : Limits) (held : Point) (places : Places) (t : Entries) → IsSolved rows places t
    → IsSolution rows (point rows limits held places t)

-- and is the only solution in which the columns outside the basis rest
abbrev pub OnlyPoint : Type 0
OnlyPoint = (rows : Rows) (limits : Limits) (held : Point) (places : Places) (t : Entries) → IsSolved rows places t
    → (v : Point) → IsSolution rows v → ((c : ℕ) → c < columns rows → is_basic (places c) ≡ false → v c ≡ at_rest limits held places c)
    → (c : ℕ) → c < columns rows → v c ≡ point rows limits held places t c

-- a solution stays one where a column outside the basis moves
abbrev pub MovedSolves : Type 0
MovedSolves = (rows : Rows) (places : Places) (t : Entries) → IsSolved rows places t → (v : Point) → IsSolution rows v
    → (entering : ℕ) (distance : Rational) → entering < columns rows → is_basic (places entering) ≡ false → IsSolution rows (moved v places t entering distance)

-- in a step the entering column moves so far that the leaving one reaches its bound
abbrev pub StepMoves : Type 0
StepMoves = (rows : Rows) (limits : Limits) (held : Point) (places : Places) (t : Entries) (leaving : ℕ) (side : Side) (entering : ℕ) (bound : Rational) → IsSolved rows places t
    → IsStep rows limits places (point rows limits held places t) t leaving side entering → limits leaving side ≡ Some bound
    → (c : ℕ) → c < columns rows
    → moved (point rows limits held places t) places t entering (shift (point rows limits held places t) t leaving entering bound) c
    ≡ point rows limits held (exchanged places leaving side entering) (pivot t leaving entering) c

-- a column outside the basis that is put at its bound moves there
abbrev pub InsideMoves : Type 0
InsideMoves = (rows : Rows) (limits : Limits) (held : Point) (places : Places) (t : Entries) (column : ℕ) (side : Side) (bound : Rational) → IsSolved rows places t
    → column < columns rows → is_basic (places column) ≡ false → limits column side ≡ Some bound
    → (c : ℕ) → c < columns rows
    → moved (point rows limits held places t) places t column (minus bound (point rows limits held places t column)) c
    ≡ point rows limits held (placed places column (At side)) t c

-- a solution is the point of its own values
abbrev pub HeldPoint : Type 0
HeldPoint = (rows : Rows) (limits : Limits) (places : Places) (t : Entries) (v : Point) → IsSolved rows places t → IsSolution rows v
    → (c : ℕ) → c < columns rows → v c ≡ point rows limits v (as_held places) t c

-- a column that is out of its bounds, where none may enter for it, is a contradiction of the bounds
abbrev pub StuckContradicts : Type 0
StuckContradicts = (rows : Rows) (bounds : List Bound) (held : Point) (places : Places) (t : Entries) (leaving : ℕ) (side : Side) → IsSolved rows places t
    → IsStuck rows (limits rows bounds) places (point rows (limits rows bounds) held places t) t leaving side
    → IsContradiction rows bounds (stuck_multiples rows t leaving side)

-- a contradiction of the bounds means that no solution meets them
abbrev pub ContradictionRefutes : Type 0
ContradictionRefutes = (rows : Rows) (bounds : List Bound) (multiples : List Multiple) → IsContradiction rows bounds multiples
    → (v : Point) → IsSolution rows v → Meets (limits rows bounds) v → ⊥
