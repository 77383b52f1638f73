-- What lies in areas, and what it is to write in them.
use Rattle.std.specs.Prelude.{ℕ, Bool, true, false, ◌&&◌, ◌||◌, not, List, [], ◌∷◌, ◌++◌, map, filter, Option, Some, None, IsTrue, nat_eq}
use Rattle.std.specs.List.{list_all, list_any}
use Rattle.spv_logic.specs.declared.names.names.Symbol.{Symbol}
use Rattle.spv_logic.specs.declared.types.TypeId.{TypeId}
use Rattle.spv_logic.specs.declared.types.Sort.{Sort}
use Rattle.spv_logic.specs.declared.conditions.RoutineId.{RoutineId}
use Rattle.spv_logic.specs.Values.{Value}
use Rattle.spv_logic.specs.Fits.{fits}
use Rattle.spv_program.specs.Types.{same_type, sort_of}
use Rattle.spv_program.specs.Programs.{Program, shapes}
use Rattle.spv_meaning.specs.Places.{Root, PathStep, Place, Binding, Frame, HeapRow, State, ProgramVariable, OwnValue, CellOf, Holding, Referring, whole, put}
use Rattle.spv_meaning.specs.Walks.{is_new, with_new_cell}
use Rattle.spv_meaning.specs.Starts.{Area, At, CellsOf, same_root, same_step, lies_in, overlap}
use Rattle.spv_preservation.specs.facts.Places.{IsPlace}

-- ---- what lies in areas

-- whether a path begins with another
abbrev pub begins_with : List PathStep → List PathStep → Bool
begins_with path [] = true
begins_with [] (s ∷ front) = false
begins_with (t ∷ path) (s ∷ front) = same_step s t && begins_with path front

-- whether a place lies at or below another
abbrev pub is_below : Place → Place → Bool
is_below a b = same_root b.root a.root && begins_with a.path b.path

-- whether a place lies in an area: at or below the area's place, or in a cell of the area's type
abbrev pub is_in : List HeapRow → Place → Area → Bool
is_in heap a (At b) = is_below a b
is_in heap a (CellsOf t) = lies_in heap a.root t

abbrev pub is_in_one : List HeapRow → List Area → Place → Bool
is_in_one heap areas a = list_any (is_in heap a) areas

abbrev pub is_cells_of : TypeId → Area → Bool
is_cells_of t (At a) = false
is_cells_of t (CellsOf u) = same_type u t

-- whether the cells of a type are one of the areas
abbrev pub has_cells_of : List Area → TypeId → Bool
has_cells_of areas t = list_any (is_cells_of t) areas

-- whether one of the areas overlaps an area
abbrev pub is_touched : List HeapRow → List Area → Area → Bool
is_touched heap areas area = list_any (λ b. overlap heap b area) areas

-- a part of a place
abbrev pub part_of : Place → List PathStep → Place
part_of a rel = record { root = a.root; path = a.path ++ rel }

abbrev pub lies_below : Place → Area → Bool
lies_below a (At b) = is_below b a
lies_below a (CellsOf t) = false

-- whether each of the areas that overlaps a place lies at or below a part of it
abbrev pub is_touched_below : List HeapRow → List Area → Place → List PathStep → Bool
is_touched_below heap areas a rel = list_all (λ b. not (overlap heap b (At a)) || lies_below (part_of a rel) b) areas

-- whether each of the areas that overlaps the cells of a type lies in one cell
abbrev pub is_touched_in : List HeapRow → List Area → TypeId → ℕ → Bool
is_touched_in heap areas t cell = list_all (λ b. not (overlap heap b (CellsOf t)) || lies_below (whole (CellOf cell)) b) areas

-- ---- writing

-- a state becomes another by puts in these areas, each of a value of the place's sort, and by new cells of the types whose
-- cells are one of the areas
pub data Writes (p : Program) (areas : List Area) : State → State → Type 0 where
  nothing : (s : State) → Writes p areas s s
  puts : (s t : State) (a : Place) (e : Sort) (v : Value) → IsPlace (shapes p) s a e → IsTrue (fits (shapes p) v e)
      → IsTrue (is_in_one s.heap areas a) → Writes p areas (put s a v) t → Writes p areas s t
  creates : (s t : State) (cell : ℕ) (u : TypeId) (v : Value) → IsTrue (is_new s.heap cell)
      → IsTrue (fits (shapes p) v (sort_of p.forms u)) → IsTrue (has_cells_of areas u)
      → Writes p areas (with_new_cell cell u v s) t → Writes p areas s t

-- ---- what no writing changes

-- what a name of a frame refers to, where it is a VAR parameter
abbrev pub reference : Binding → Option Place
reference (Holding v) = None
reference (Referring a) = Some a

-- the routine of a frame, and what its names refer to
pub record Outline : Type 0 where
  pub routine : RoutineId
  pub names : List (Symbol × Option Place)

abbrev pub outline : Frame → Outline
outline f = record { routine = f.routine; names = map (λ n. (n.0, reference n.1)) f.names }

abbrev pub outlines : State → List Outline
outlines s = map outline s.frames

-- ---- the areas of a frame

-- whether a root is kept by the frame of this number
abbrev pub is_kept_by : ℕ → Root → Bool
is_kept_by number (ProgramVariable x) = false
is_kept_by number (OwnValue n x) = nat_eq n number
is_kept_by number (CellOf cell) = false

abbrev pub is_area_of : ℕ → Area → Bool
is_area_of number (At a) = is_kept_by number a.root
is_area_of number (CellsOf t) = false

-- the areas that do not lie in the frame of this number
abbrev pub without_frame : ℕ → List Area → List Area
without_frame number areas = filter (λ a. not (is_area_of number a)) areas
