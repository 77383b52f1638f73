-- States from which a routine, or the main block, may start.
use Rattle.std.specs.Prelude.{◌≡◌, ℕ, Bool, true, false, ◌&&◌, List, [], ◌∷◌, ◌++◌, map, length, Option, Some, None, IsTrue, nat_eq, nat_lt}
use Rattle.std.specs.List.{list_all}
use Rattle.std.specs.Ordering.{int_eq}
use Rattle.spv_logic.specs.declared.names.names.Symbol.{Symbol}
use Rattle.spv_logic.specs.declared.types.TypeId.{TypeId}
use Rattle.spv_logic.specs.declared.conditions.RoutineId.{RoutineId}
use Rattle.spv_logic.specs.Values.{Value}
use Rattle.spv_logic.specs.Fits.{fits}
use Rattle.spv_program.specs.declared.types.Item.{Item}
use Rattle.spv_program.specs.declared.types.Item.TheVariants.{Variable, Class}
use Rattle.spv_program.specs.Lists.{same_name, found, all_differ}
use Rattle.spv_program.specs.Types.{same_type, sort_of}
use Rattle.spv_program.specs.Programs.{GlobalItem, Routine, Program, shapes, routine_in}
use Rattle.spv_program.specs.Scopes.{result_name}
use Rattle.spv_meaning.specs.Places.{Root, PathStep, Place, Binding, Frame, HeapRow, State, ProgramVariable, OwnValue, CellOf, IndexStep, FieldStep, Holding, Referring, whole, row_of, look}
use Rattle.spv_meaning.specs.Views.{place_of, shown_type}
use Rattle.spv_meaning.specs.Evaluation.{is_cell_of}
use Rattle.spv_meaning.specs.FrameTypes.{FrameType, IsIn, frames_right}

-- ---- the heap

abbrev pub row_ok : Program → HeapRow → Bool
row_ok p r = nat_lt 0 r.cell && fits (shapes p) r.content (sort_of p.forms r.type)

-- cells are positive and differ, over all types, and each content has its type's sort
abbrev pub heap_ok : Program → List HeapRow → Bool
heap_ok p heap = list_all (row_ok p) heap && all_differ (λ r s. nat_eq r.cell s.cell) heap

-- ---- the frame

-- whether each name is bound in this order, a VAR parameter to a place and every other one to a value
abbrev pub binds : List (Symbol × Bool) → List (Symbol × Binding) → Bool
binds [] [] = true
binds ((x, true) ∷ names) ((y, Referring place) ∷ bound) = same_name x y && binds names bound
binds ((x, false) ∷ names) ((y, Holding v) ∷ bound) = same_name x y && binds names bound
binds _ _ = false

-- the names of a routine's frame, and whether each is a VAR parameter
abbrev pub frame_names : Routine → List (Symbol × Bool)
frame_names r = map (λ f. (f.name, f.by_place)) r.formals ++ map (λ n. (n.0, false)) (result_name r.name r.result ++ r.locals)

abbrev pub newest_binds : RoutineId → Routine → List Frame → Bool
newest_binds id r [] = false
newest_binds id r (f ∷ frames) = nat_eq f.routine.0 id.0 && binds (frame_names r) f.names

-- the newest frame is the routine's; the main block needs none
abbrev pub has_frame : Program → Option RoutineId → Option Routine → State → Bool
has_frame p (Some id) (Some r) state = newest_binds id r state.frames
has_frame p _ _ state = true

-- ---- values

-- whether there is a value, and it is one of this type
abbrev pub is_of_type : Program → TypeId → Option Value → Bool
is_of_type p t None = false
is_of_type p t (Some v) = fits (shapes p) v (sort_of p.forms t)

-- ---- what is apart

-- what a name or an item of a GLOBAL list covers: a place, or the cells of a type
pub data Area : Type 0 where
  At : Place → Area
  CellsOf : TypeId → Area

abbrev pub same_root : Root → Root → Bool
same_root (ProgramVariable x) (ProgramVariable y) = same_name x y
same_root (OwnValue n x) (OwnValue m y) = nat_eq n m && same_name x y
same_root (CellOf c) (CellOf d) = nat_eq c d
same_root _ _ = false

abbrev pub same_step : PathStep → PathStep → Bool
same_step (IndexStep i) (IndexStep j) = int_eq i j
same_step (FieldStep f) (FieldStep g) = same_name f g
same_step _ _ = false

-- whether one path begins with the other
abbrev pub paths_meet : List PathStep → List PathStep → Bool
paths_meet [] path = true
paths_meet (s ∷ path) [] = true
paths_meet (s ∷ path) (t ∷ other) = same_step s t && paths_meet path other

abbrev pub places_overlap : Place → Place → Bool
places_overlap a b = same_root a.root b.root && paths_meet a.path b.path

abbrev pub lies_in : List HeapRow → Root → TypeId → Bool
lies_in heap (CellOf cell) t = is_cell_of t (row_of heap cell)
lies_in heap _ t = false

abbrev pub overlap : List HeapRow → Area → Area → Bool
overlap heap (At a) (At b) = places_overlap a b
overlap heap (At a) (CellsOf t) = lies_in heap a.root t
overlap heap (CellsOf t) (At b) = lies_in heap b.root t
overlap heap (CellsOf t) (CellsOf u) = same_type t u

abbrev pub bound_area : ℕ → Symbol × Binding → Area
bound_area number (x, Holding v) = At (whole (OwnValue number x))
bound_area number (x, Referring place) = At place

abbrev pub frame_areas : List Frame → List Area
frame_areas [] = []
frame_areas (f ∷ frames) = map (bound_area (length frames)) f.names

abbrev pub item_area : GlobalItem → Area
item_area g = of_item g.item
  where
    of_item : Item → Area
    of_item (Variable x) = At (whole (ProgramVariable x))
    of_item (Class t) = CellsOf t

-- the names of a routine's frame and the items of its GLOBAL list cover areas that do not overlap
abbrev pub apart : Option Routine → State → Bool
apart None state = true
apart (Some r) state = all_differ (overlap state.heap) (frame_areas state.frames ++ map item_area r.globals)

-- ---- right states

-- a state whose frames are of these types: each variable of the program has a value of its type, each frame binds its
-- names rightly, and the heap is right
pub record IsRight (p : Program) (types : List FrameType) (state : State) : Type 0 where
  pub variables : (x : Symbol) (t : TypeId) → found p.variables x ≡ Some t → IsTrue (is_of_type p t (found state.variables x))
  pub frames : IsTrue (frames_right p types state.heap state.frames)
  pub heap : IsTrue (heap_ok p state.heap)

-- a right state in which a routine, or the main block, may run: the newest frame is the routine's
pub record IsRightFor (p : Program) (here : Option RoutineId) (state : State) : Type 0 where
  pub types : List FrameType
  pub inside : IsIn p here types
  pub right : IsRight p types state

-- ---- starts

-- a state from which a routine may start, or the main block where none is named: it has the routine's frame, each name
-- that shows has a value of its type's sort (so the places of VAR parameters exist), nothing overlaps, and the state is
-- right also where the routine does not see it, so that no assignment through a VAR parameter leaves a value of another sort
pub record IsStart (p : Program) (here : Option RoutineId) (state : State) : Type 0 where
  pub right : IsRightFor p here state
  pub frame : IsTrue (has_frame p here (routine_in p here) state)
  pub names : (x : Symbol) (t : TypeId) → shown_type p (routine_in p here) x ≡ Some t → IsTrue (is_of_type p t (look state (place_of here state x)))
  pub heap : IsTrue (heap_ok p state.heap)
  pub areas : IsTrue (apart (routine_in p here) state)
