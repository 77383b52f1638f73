-- What pointers and NEW do.
use Rattle.std.specs.Prelude.{◌≡◌, ℕ, true, List, [], ◌∷◌, None, pos}
use Rattle.spv_logic.specs.Values.{Value, Truth, Pointer, RecordOf, no_rows, row}
use Rattle.spv_program.specs.Expressions.{Read}
use Rattle.spv_program.specs.Statements.{Statement, Assign, New}
use Rattle.spv_program.specs.Programs.{Program}
use Rattle.spv_meaning.specs.declared.faults.Fault.TheVariants as fault
use Rattle.spv_meaning.specs.Places.{HeapRow, State}
use Rattle.spv_worked.specs.Small.{x, p, q, integer, ref, node, other, program, num, at, set, content, block, z, told, state, with_cells, main_run, ended, stopped}

-- VAR x: INTEGER; p, q: ^Node
abbrev pub with_body : Statement → Program
with_body s = program ((x, integer) ∷ (p, ref) ∷ (q, ref) ∷ []) [] None None s

-- a cell of Node with this val, and one of Other
abbrev pub node_cell : ℕ → ℕ → HeapRow
node_cell cell k = record { cell = cell; type = node; content = RecordOf (row (pos 11) (z k) no_rows) }

abbrev pub other_cell : ℕ → HeapRow
other_cell cell = record { cell = cell; type = other; content = RecordOf (row (pos 11) (Truth true) no_rows) }

-- cell 1 is of Node, with val 10, and cell 2 is of Other; p and q are these pointers
abbrev pub start : ℕ → ℕ → State
start at_p at_q = with_cells (node_cell 1 10 ∷ other_cell 2 ∷ []) (state ((x, z 0) ∷ (p, Pointer at_p) ∷ (q, Pointer at_q) ∷ []))

-- ---- cells

-- p^.val := 7; x := q^.val, where p and q point to one cell
abbrev pub SharedCell : Type 0
SharedCell =
    told (x ∷ []) [] (main_run (with_body (block (Assign (content p) (num 7) ∷ set x (Read (content q)) ∷ []))) 0 (start 1 1) [])
    ≡ ended (7 ∷ []) []

abbrev pub ReadingStops : ℕ → Type 0
ReadingStops at_p = told (x ∷ []) [] (main_run (with_body (set x (Read (content p)))) 0 (start at_p 1) []) ≡ stopped fault.Nil []

abbrev pub WritingStops : ℕ → Type 0
WritingStops at_p = told (x ∷ []) [] (main_run (with_body (Assign (content p) (num 1))) 0 (start at_p 1) []) ≡ stopped fault.Nil []

-- ---- NEW

-- NEW(p); x := p^.val
abbrev pub creating : Program
creating = with_body (block (New 1 (at p) node ∷ set x (Read (content p)) ∷ []))

abbrev pub node_with : ℕ → Value
node_with k = RecordOf (row (pos 11) (z k) no_rows)

-- the cell and its content are choices
abbrev pub NewTakesItsChoices : Type 0
NewTakesItsChoices = told (x ∷ []) [] (main_run creating 0 (start 0 1) (Pointer 3 ∷ node_with 30 ∷ [])) ≡ ended (30 ∷ []) []

-- and the choices that are left are the next ones: NEW(p); NEW(q); x := p^.val
abbrev pub NewTwice : Type 0
NewTwice =
    told (x ∷ []) [] (main_run (with_body (block (New 1 (at p) node ∷ New 1 (at q) node ∷ set x (Read (content p))
    ∷ []))) 0 (start 0 1) (Pointer 3 ∷ node_with 30 ∷ Pointer 4 ∷ node_with 40 ∷ []))
    ≡ ended (30 ∷ []) []

abbrev pub NewStopsWith : List Value → Type 0
NewStopsWith choices = told (x ∷ []) [] (main_run creating 0 (start 0 1) choices) ≡ stopped fault.Choice []

-- NEW(p^.val) has no such place: the place on the left is fixed first, before the choices
abbrev pub PlaceBeforeChoices : Type 0
PlaceBeforeChoices = told (x ∷ []) [] (main_run (with_body (New 1 (content p) node)) 0 (start 0 1) []) ≡ stopped fault.Nil []
