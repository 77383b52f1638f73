-- What runs leave.
use Rattle.std.specs.Prelude.{◌≡◌, ℕ, List, Option, Some, IsTrue}
use Rattle.spv_logic.specs.declared.names.names.Symbol.{Symbol}
use Rattle.spv_logic.specs.declared.types.TypeId.{TypeId}
use Rattle.spv_logic.specs.declared.conditions.RoutineId.{RoutineId}
use Rattle.spv_program.specs.Programs.{Program, routine_in}
use Rattle.spv_meaning.specs.Places.{HeapRow, State, look}
use Rattle.spv_meaning.specs.Views.{place_of, shown_type}
use Rattle.spv_meaning.specs.FrameTypes.{FrameType, cell_type}
use Rattle.spv_meaning.specs.Starts.{IsRight, IsRightFor, heap_ok, has_frame, is_of_type}

-- the cells that were there are there, with the types that they had
pub record Grows (before after : List HeapRow) : Type 0 where
  pub keeps : (cell : ℕ) (t : TypeId) → cell_type before cell ≡ Some t → cell_type after cell ≡ Some t

-- a state that is right again, with the cells that were there before
pub record Leaves (p : Program) (types : List FrameType) (before : List HeapRow) (after : State) : Type 0 where
  pub right : IsRight p types after
  pub grows : Grows before after.heap

-- a right state for a routine, or the main block: it has the routine's frame, each name that shows has a value of its type,
-- and the heap is right; that is all that a start has but that nothing overlaps
pub record HasValues (p : Program) (here : Option RoutineId) (state : State) : Type 0 where
  pub right : IsRightFor p here state
  pub frame : IsTrue (has_frame p here (routine_in p here) state)
  pub names : (x : Symbol) (t : TypeId) → shown_type p (routine_in p here) x ≡ Some t
      → IsTrue (is_of_type p t (look state (place_of here state x)))
  pub heap : IsTrue (heap_ok p state.heap)
