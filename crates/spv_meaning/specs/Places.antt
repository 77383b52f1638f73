-- States, and the places in them.
use Rattle.std.specs.Prelude.{ℕ, Bool, List, [], ◌∷◌, length, Option, Some, None, ℤ, pos, is_some, nat_eq, if◌then◌else◌}
use Rattle.std.specs.Option.{option_and_then, unwrap_or}
use Rattle.std.specs.Ordering.{int_eq}
use Rattle.spv_logic.specs.declared.names.names.Symbol.{Symbol}
use Rattle.spv_logic.specs.declared.types.TypeId.{TypeId}
use Rattle.spv_logic.specs.declared.conditions.RoutineId.{RoutineId}
use Rattle.spv_logic.specs.Values.{Value, Rows, Number, ArrayOf, RecordOf, no_rows, row, rows_in, row_at, set_row}
use Rattle.spv_logic.specs.Terms.{store_in}
use Rattle.spv_program.specs.Lists.{found, changed}

-- ---- places

-- where a place begins: a variable of the program, what a frame (counted from the oldest) keeps under a name, or a cell
pub data Root : Type 0 where
  ProgramVariable : Symbol → Root
  OwnValue : ℕ → Symbol → Root
  CellOf : ℕ → Root

-- a step into a structure: to an array's element, or to a record's field
pub data PathStep : Type 0 where
  IndexStep : ℤ → PathStep
  FieldStep : Symbol → PathStep

pub record Place : Type 0 where
  pub root : Root
  pub path : List PathStep

-- all that a root has
abbrev pub whole : Root → Place
whole root = record { root = root; path = [] }

-- ---- states

-- what a name of a routine stands for: a place if it is a VAR parameter, else a value
pub data Binding : Type 0 where
  Holding : Value → Binding
  Referring : Place → Binding

-- a call that has not ended: its routine, and its names
pub record Frame : Type 0 where
  pub routine : RoutineId
  pub names : List (Symbol × Binding)

-- a cell of the heap: its number (positive, another one for each), the type of its content, and the content
pub record HeapRow : Type 0 where
  pub cell : ℕ
  pub type : TypeId
  pub content : Value

-- the variables of the program, the calls that have not ended (the newest first), and the cells
pub record State : Type 0 where
  pub variables : List (Symbol × Value)
  pub frames : List Frame
  pub heap : List HeapRow

-- ---- parts of values

abbrev pub row_found : Rows → ℤ → Option Value
row_found no_rows key = None
row_found (row i v rows) key = if int_eq key i then Some v else row_found rows key

-- the part that a step leads to: an array has one at each index, a record at each of its fields
abbrev pub step_part : Value → PathStep → Option Value
step_part (ArrayOf d rows) (IndexStep i) = Some (row_at rows i d)
step_part (RecordOf rows) (FieldStep f) = row_found rows (pos f.0)
step_part _ _ = None

abbrev pub part_at : Value → List PathStep → Option Value
part_at v [] = Some v
part_at v (s ∷ path) = option_and_then (λ w. part_at w path) (step_part v s)

-- a structure with another part behind a step
abbrev pub with_step : Value → PathStep → Value → Value
with_step v (IndexStep i) w = store_in v (Number i) w
with_step v (FieldStep f) w = RecordOf (set_row (rows_in v) (pos f.0) w)

abbrev pub with_part : Value → List PathStep → Value → Value
with_part v [] w = w
with_part v (s ∷ path) w = with_step v s (with_part (unwrap_or (step_part v s) v) path w)

-- ---- roots

-- a frame by its number: 0 is the oldest
abbrev pub frame_at : List Frame → ℕ → Option Frame
frame_at [] number = None
frame_at (f ∷ frames) number = if nat_eq number (length frames) then Some f else frame_at frames number

abbrev pub held : Binding → Option Value
held (Holding v) = Some v
held (Referring place) = None

abbrev pub own_value : Symbol → Frame → Option Value
own_value x f = option_and_then held (found f.names x)

abbrev pub row_of : List HeapRow → ℕ → Option HeapRow
row_of [] cell = None
row_of (r ∷ heap) cell = if nat_eq r.cell cell then Some r else row_of heap cell

abbrev pub content_of : HeapRow → Option Value
content_of r = Some r.content

abbrev pub root_value : State → Root → Option Value
root_value state (ProgramVariable x) = found state.variables x
root_value state (OwnValue number x) = option_and_then (own_value x) (frame_at state.frames number)
root_value state (CellOf cell) = option_and_then content_of (row_of state.heap cell)

abbrev pub with_frame_value : List Frame → ℕ → Symbol → Value → List Frame
with_frame_value [] number x v = []
with_frame_value (f ∷ frames) number x v =
    if nat_eq number (length frames) then record { routine = f.routine; names = changed f.names x (Holding v) } ∷ frames
    else f ∷ with_frame_value frames number x v

abbrev pub with_content : List HeapRow → ℕ → Value → List HeapRow
with_content [] cell v = []
with_content (r ∷ heap) cell v =
    if nat_eq r.cell cell then record { cell = r.cell; type = r.type; content = v } ∷ heap else r ∷ with_content heap cell v

abbrev pub with_root : State → Root → Value → State
with_root state (ProgramVariable x) v = record state { variables = changed state.variables x v }
with_root state (OwnValue number x) v = record state { frames = with_frame_value state.frames number x v }
with_root state (CellOf cell) v = record state { heap = with_content state.heap cell v }

-- ---- look and put

-- what a place holds, where it exists
abbrev pub look : State → Place → Option Value
look state place = option_and_then (λ v. part_at v place.path) (root_value state place.root)

-- a place exists where its root is there, and each step fits the value that it meets
abbrev pub exists : State → Place → Bool
exists state place = is_some (look state place)

abbrev pub value_or_zero : Option Value → Value
value_or_zero o = unwrap_or o (Number (pos 0))

-- the state with only that place changed
abbrev pub put : State → Place → Value → State
put state place v = with_root state place.root (with_part (value_or_zero (root_value state place.root)) place.path v)
