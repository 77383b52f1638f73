-- The types of frames and of places, and whether frames are right.
use Rattle.std.specs.Prelude.{◌≡◌, ℕ, Bool, true, false, ◌&&◌, not, List, [], ◌∷◌, ◌++◌, map, length, Option, Some, None, nat_eq, if◌then◌else◌}
use Rattle.std.specs.Option.{option_and_then}
use Rattle.spv_logic.specs.declared.names.names.Symbol.{Symbol}
use Rattle.spv_logic.specs.declared.types.TypeId.{TypeId}
use Rattle.spv_logic.specs.declared.types.Sort.{Sort}
use Rattle.spv_logic.specs.declared.types.Shape.{Shape}
use Rattle.spv_logic.specs.declared.conditions.RoutineId.{RoutineId}
use Rattle.spv_logic.specs.Fits.{fits}
use Rattle.spv_logic.specs.Shapes.{element_sort, fields_of, field_sort_of}
use Rattle.spv_program.specs.Lists.{same_name, found}
use Rattle.spv_program.specs.Types.{sort_of}
use Rattle.spv_program.specs.FormulaTypes.{is_sort}
use Rattle.spv_program.specs.Programs.{Formal, Routine, Program, shapes, routine_at}
use Rattle.spv_program.specs.Scopes.{result_name}
use Rattle.spv_meaning.specs.Places.{Root, PathStep, Place, Binding, Frame, HeapRow, ProgramVariable, OwnValue, CellOf, IndexStep, FieldStep, Holding, Referring, row_of}

-- ---- the sorts of parts

-- the sort of what a step leads to, from a structure of a sort
abbrev pub step_sort : List Shape → Sort → PathStep → Option Sort
step_sort shapes s (IndexStep i) = element_sort shapes s
step_sort shapes s (FieldStep f) = field_sort_of (fields_of shapes s) f.0

abbrev pub path_sort : List Shape → Sort → List PathStep → Option Sort
path_sort shapes s [] = Some s
path_sort shapes s (x ∷ path) = option_and_then (λ e. path_sort shapes e path) (step_sort shapes s x)

-- ---- the types of frames

-- a name of a frame: its type, and whether it is a VAR parameter
pub record Slot : Type 0 where
  pub name : Symbol
  pub of : TypeId
  pub by_place : Bool

-- the routine of a frame, and its names in their order
pub record FrameType : Type 0 where
  pub routine : RoutineId
  pub slots : List Slot

abbrev pub formal_slot : Formal → Slot
formal_slot f = record { name = f.name; of = f.of; by_place = f.by_place }

abbrev pub own_slot : Symbol × TypeId → Slot
own_slot n = record { name = n.0; of = n.1; by_place = false }

-- the names of a routine's frame
abbrev pub slots_of : Routine → List Slot
slots_of r = map formal_slot r.formals ++ map own_slot (result_name r.name r.result ++ r.locals)

abbrev pub frame_of : RoutineId → Routine → FrameType
frame_of id r = record { routine = id; slots = slots_of r }

-- the types of the frames, the newest first, while a routine or the main block runs: a routine's own is the newest
pub data IsIn (p : Program) : Option RoutineId → List FrameType → Type 0 where
  in_main : (types : List FrameType) → IsIn p None types
  in_routine : (id : RoutineId) (r : Routine) (older : List FrameType) → routine_at p id ≡ Some r
      → IsIn p (Some id) (frame_of id r ∷ older)

-- ---- the types of places

-- the type of a frame by the frame's number: 0 is the oldest
abbrev pub frame_type : List FrameType → ℕ → Option FrameType
frame_type [] number = None
frame_type (t ∷ types) number = if nat_eq number (length types) then Some t else frame_type types number

abbrev pub slot_in : List Slot → Symbol → Option Slot
slot_in [] x = None
slot_in (s ∷ slots) x = if same_name s.name x then Some s else slot_in slots x

-- a VAR parameter keeps no value of its own
abbrev pub kept_type : Slot → Option TypeId
kept_type s = if s.by_place then None else Some s.of

abbrev pub own_type : Symbol → FrameType → Option TypeId
own_type x t = option_and_then kept_type (slot_in t.slots x)

abbrev pub row_type : HeapRow → Option TypeId
row_type r = Some r.type

abbrev pub cell_type : List HeapRow → ℕ → Option TypeId
cell_type heap cell = option_and_then row_type (row_of heap cell)

-- the type of what a root has, where it is one of the program's variables, of these frames or of these cells
abbrev pub root_type : Program → List FrameType → List HeapRow → Root → Option TypeId
root_type p types heap (ProgramVariable x) = found p.variables x
root_type p types heap (OwnValue number x) = option_and_then (own_type x) (frame_type types number)
root_type p types heap (CellOf cell) = cell_type heap cell

-- the sort of what is at a place
abbrev pub place_sort : Program → List FrameType → List HeapRow → Place → Option Sort
place_sort p types heap a =
    option_and_then (λ t. path_sort (shapes p) (sort_of p.forms t) a.path) (root_type p types heap a.root)

-- ---- right frames

-- a value of the name's type, or a place of its sort in the program's variables, in older frames or in cells
abbrev pub binding_right : Program → List FrameType → List HeapRow → Slot → Binding → Bool
binding_right p older heap s (Holding v) = not s.by_place && fits (shapes p) v (sort_of p.forms s.of)
binding_right p older heap s (Referring a) = s.by_place && is_sort (sort_of p.forms s.of) (place_sort p older heap a)

-- whether each name is bound in this order, and rightly
abbrev pub names_right : Program → List FrameType → List HeapRow → List Slot → List (Symbol × Binding) → Bool
names_right p older heap [] [] = true
names_right p older heap (s ∷ slots) (n ∷ names) =
    same_name s.name n.0 && (binding_right p older heap s n.1 && names_right p older heap slots names)
names_right p older heap _ _ = false

abbrev pub frames_right : Program → List FrameType → List HeapRow → List Frame → Bool
frames_right p [] heap [] = true
frames_right p (t ∷ types) heap (f ∷ frames) =
    nat_eq t.routine.0 f.routine.0 && (names_right p types heap t.slots f.names && frames_right p types heap frames)
frames_right p _ heap _ = false
