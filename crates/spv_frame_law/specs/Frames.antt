-- Which areas the names and items of a routine are.
use Rattle.std.specs.Prelude.{ℕ, Bool, true, false, ◌&&◌, ◌||◌, List, [], ◌∷◌, ◌++◌, map, length, Option, Some, None, ◌≡◌}
use Rattle.std.specs.List.{list_all, list_any, flat_map}
use Rattle.spv_logic.specs.declared.names.names.Symbol.{Symbol}
use Rattle.spv_logic.specs.declared.operators.Head.{Head}
use Rattle.spv_logic.specs.declared.operators.Head.TheVariants as head
use Rattle.spv_program.specs.declared.types.Item.{Item}
use Rattle.spv_program.specs.declared.types.Item.TheVariants.{Variable, Class}
use Rattle.spv_program.specs.Lists.{found}
use Rattle.spv_program.specs.Programs.{Routine, Program, routine_at}
use Rattle.spv_program.specs.Scopes.{is_own}
use Rattle.spv_program.specs.Expressions.{Call, call}
use Rattle.spv_program.specs.Frames.{place_roots, globals_of}
use Rattle.spv_program.specs.Uses.{Root, Own, Shared, same_root, name_root}
use Rattle.spv_program.specs.Changes.{var_items}
use Rattle.spv_meaning.specs.Places.{Binding, Frame, HeapRow, State, ProgramVariable, Holding, Referring, whole}
use Rattle.spv_meaning.specs.Views.{sees}
use Rattle.spv_meaning.specs.Starts.{Area, At, CellsOf, bound_area, frame_areas}
use Rattle.spv_writes.specs.Writes.{is_in_one}

-- the area of a variable or a class of the program
abbrev pub area_of_item : Item → Area
area_of_item (Variable x) = At (whole (ProgramVariable x))
area_of_item (Class t) = CellsOf t

abbrev pub bound_areas : ℕ → Symbol → Option Binding → List Area
bound_areas number x None = []
bound_areas number x (Some b) = bound_area number (x, b) ∷ []

-- what a name covers that the newest frame binds
abbrev pub own_areas : List Frame → Symbol → List Area
own_areas [] x = []
own_areas (f ∷ frames) x = bound_areas (length frames) x (found f.names x)

-- what a root covers: an own name, or an item of the program
abbrev pub root_areas : List Frame → Root → List Area
root_areas frames (Own x) = own_areas frames x
root_areas frames (Shared i) = area_of_item i ∷ []

abbrev pub areas_of : List Frame → List Root → List Area
areas_of frames roots = flat_map (root_areas frames) roots

-- the places that names refer to
abbrev pub referred : List (Symbol × Binding) → List Area
referred [] = []
referred ((x, Holding v) ∷ names) = referred names
referred ((x, Referring a) ∷ names) = At a ∷ referred names

-- whether the names that refer to places refer, one after the other, into the areas of these roots
abbrev pub refer_in_turn : List HeapRow → List Frame → List (Symbol × Binding) → List Root → Bool
refer_in_turn heap frames [] [] = true
refer_in_turn heap frames [] (root ∷ roots) = false
refer_in_turn heap frames ((x, Holding v) ∷ names) roots = refer_in_turn heap frames names roots
refer_in_turn heap frames ((x, Referring a) ∷ names) [] = false
refer_in_turn heap frames ((x, Referring a) ∷ names) (root ∷ roots) = is_in_one heap (root_areas frames root) a && refer_in_turn heap frames names roots

-- what a call writes: the places that VAR parameters refer to, and the items of the routine's VAR groups
abbrev pub call_areas : List (Symbol × Binding) → Routine → List Area
call_areas names r = referred names ++ map area_of_item (var_items r.globals)

-- what a routine may write: what the names of its frame cover, its VAR places among them, and the items of its VAR groups
abbrev pub routine_areas : Routine → State → List Area
routine_areas r state = frame_areas state.frames ++ map area_of_item (var_items r.globals)

-- ---- what shows

-- whether a root is an own name of a routine, or an item that it sees
abbrev pub root_shown : Option Routine → Root → Bool
root_shown here (Own x) = is_own here x
root_shown here (Shared i) = sees here i

-- whether a variable or a class of a view is that of one of these roots
abbrev pub is_of_one : Option Routine → List Root → Head → Bool
is_of_one here roots (head.Var x s n) = list_any (same_root (name_root (is_own here) x)) roots
is_of_one here roots (head.ClassVar t n) = list_any (same_root (Shared (Class t))) roots
is_of_one here roots _ = false

-- whether what a call names for its VAR parameters, and what its routine's GLOBAL list has, shows where it stands
abbrev pub call_shown : Program → Option Routine → Call → Bool
call_shown p here (call r line given) =
    list_all (root_shown here) (place_roots (is_own here) given) && list_all (λ g. sees here g.item) (globals_of (routine_at p r))
