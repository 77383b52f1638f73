-- What a state shows of the names of a routine, or of the main block.
use Rattle.std.specs.Prelude.{ℕ, zero, Bool, true, false, List, [], ◌∷◌, ◌++◌, filter, length, Option, Some, None, nat_eq, option_map, if◌then◌else◌}
use Rattle.std.specs.Option.{option_and_then}
use Rattle.spv_logic.specs.declared.names.names.Symbol.{Symbol}
use Rattle.spv_logic.specs.declared.types.TypeId.{TypeId}
use Rattle.spv_logic.specs.declared.types.Sort.{Sort}
use Rattle.spv_logic.specs.declared.types.Shape.{Shape}
use Rattle.spv_logic.specs.declared.conditions.RoutineId.{RoutineId}
use Rattle.spv_logic.specs.declared.operators.Head.TheVariants as head
use Rattle.spv_logic.specs.Values.{Value, Pointer, ClassOf, no_rows, with_cell, members_of}
use Rattle.spv_logic.specs.Terms.{sort_eq, class_with}
use Rattle.spv_logic.specs.Shapes.{sort_of_type}
use Rattle.spv_logic.specs.Fits.{default_of}
use Rattle.spv_logic.specs.Conditions.{View}
use Rattle.spv_program.specs.declared.types.Item.{Item}
use Rattle.spv_program.specs.declared.types.Item.TheVariants.{Variable, Class}
use Rattle.spv_program.specs.Lists.{found}
use Rattle.spv_program.specs.Types.{sort_of}
use Rattle.spv_program.specs.Programs.{Routine, Program, shapes, routine_in, lists}
use Rattle.spv_program.specs.Scopes.{own_names_in, item_sort, is_value_parameter}
use Rattle.spv_meaning.specs.Places.{Place, Binding, Frame, HeapRow, State, ProgramVariable, OwnValue, Holding, Referring, whole, look}

-- ---- where names lie

abbrev pub bound_place : ℕ → Symbol → Option Binding → Place
bound_place number x None = whole (ProgramVariable x)
bound_place number x (Some (Holding v)) = whole (OwnValue number x)
bound_place number x (Some (Referring place)) = place

-- the place of a name in the newest frame; a name that is not there is the program's
abbrev pub place_in : List Frame → Symbol → Place
place_in [] x = whole (ProgramVariable x)
place_in (f ∷ frames) x = bound_place (length frames) x (found f.names x)

-- the place of a name in a routine; the main block knows the program's variables alone
abbrev pub place_of : Option RoutineId → State → Symbol → Place
place_of None state x = whole (ProgramVariable x)
place_of (Some r) state x = place_in state.frames x

-- ---- classes

-- a class with one cell more
abbrev pub with_heap_row : HeapRow → Value → Value
with_heap_row r c = class_with (with_cell (members_of c) r.cell) c (Pointer r.cell) r.content

-- the class of a type: the cells of that type with their contents, and the type's default elsewhere
abbrev pub class_of : List Shape → List HeapRow → TypeId → Value
class_of shapes [] t = ClassOf [] (default_of shapes (sort_of_type shapes t)) no_rows
class_of shapes (r ∷ heap) t =
    if nat_eq r.type.0 t.0 then with_heap_row r (class_of shapes heap t) else class_of shapes heap t

-- ---- views

-- whether a routine sees something of the program: the items of its GLOBAL list; the main block sees everything
abbrev pub sees : Option Routine → Item → Bool
sees None item = true
sees (Some r) item = lists r.globals item false

-- the names that show, with their types: own names, and variables of the program that are seen
abbrev pub shown_names : Program → Option Routine → List (Symbol × TypeId)
shown_names p here = own_names_in here ++ filter (λ n. sees here (Variable n.0)) p.variables

abbrev pub shown_type : Program → Option Routine → Symbol → Option TypeId
shown_type p here x = found (shown_names p here) x

-- what is there, where it is of the wanted sort
abbrev pub of_sort : Option Sort → Sort → Option Value → Option Value
of_sort None s value = None
of_sort (Some declared) s value = if sort_eq declared s then value else None

-- what a state shows now: the values of the names, and the classes
abbrev pub now_view : Program → Option RoutineId → State → View
now_view p here state (head.Var x s zero) =
    of_sort (option_map (sort_of p.forms) (shown_type p (routine_in p here) x)) s (look state (place_of here state x))
now_view p here state (head.ClassVar t zero) =
    if sees (routine_in p here) (Class t) then Some (class_of (shapes p) state.heap t) else None
now_view p here state _ = None

-- the value of an item of a routine
abbrev pub item_value : Program → Option RoutineId → State → Item → Option Value
item_value p here state (Variable x) = look state (place_of here state x)
item_value p here state (Class t) = Some (class_of (shapes p) state.heap t)

abbrev pub initial_item : Option Routine → Symbol → Option Item
initial_item None x = None
initial_item (Some r) x = found r.initial x

-- the sort of a value parameter, none of another name
abbrev pub parameter_sort : Program → Option Routine → Symbol → Option Sort
parameter_sort p None x = None
parameter_sort p (Some r) x = if is_value_parameter r x then Some (item_sort p (Some r) (Variable x)) else None

-- what a state at the entry of a routine shows for later: its value parameters, and what its INITIAL names stand for
abbrev pub entry_view : Program → Option RoutineId → State → View
entry_view p here state (head.Start x s) = of_sort (parameter_sort p (routine_in p here) x) s (look state (place_of here state x))
entry_view p here state (head.Var x s zero) =
    let item = initial_item (routine_in p here) x in
    of_sort (option_map (item_sort p (routine_in p here)) item) s (option_and_then (item_value p here state) item)
entry_view p here state _ = None
