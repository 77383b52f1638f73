-- Which names a routine has, and which ones its annotations see.
use Rattle.std.specs.Prelude.{Bool, false, not, ◌&&◌, List, [], ◌∷◌, ◌++◌, map, Option, Some, None, is_some, option_map}
use Rattle.std.specs.List.{list_any}
use Rattle.spv_logic.specs.declared.names.names.Symbol.{Symbol}
use Rattle.spv_logic.specs.declared.types.TypeId.{TypeId}
use Rattle.spv_logic.specs.declared.types.Sort.{Sort}
use Rattle.spv_logic.specs.declared.types.Sort.TheVariants as sort
use Rattle.spv_program.specs.declared.types.Item.{Item}
use Rattle.spv_program.specs.declared.types.Item.TheVariants.{Variable, Class}
use Rattle.spv_program.specs.Lists.{same_name, found, first_of}
use Rattle.spv_program.specs.Types.{sort_of}
use Rattle.spv_program.specs.Programs.{Routine, Program}

-- ---- the routine's own names

-- a function's name, for its result
abbrev pub result_name : Symbol → Option TypeId → List (Symbol × TypeId)
result_name name None = []
result_name name (Some t) = (name, t) ∷ []

-- the parameters, the function's name and the local variables, with their types
abbrev pub own_names : Routine → List (Symbol × TypeId)
own_names r = map (λ f. (f.name, f.of)) r.formals ++ (result_name r.name r.result ++ r.locals)

-- the main block has no own names
abbrev pub own_names_in : Option Routine → List (Symbol × TypeId)
own_names_in None = []
own_names_in (Some r) = own_names r

abbrev pub is_own : Option Routine → Symbol → Bool
is_own here x = is_some (found (own_names_in here) x)

-- the type of a variable: an own name, or a variable of the program
abbrev pub name_type : Program → Option Routine → Symbol → Option TypeId
name_type p here x = first_of (found (own_names_in here) x) (found p.variables x)

-- whether a name is that of the function in whose body it stands
abbrev pub is_result : Option Routine → Symbol → Bool
is_result None x = false
is_result (Some r) x = is_some r.result && same_name r.name x

-- whether a name is an INITIAL name of the routine in whose body it stands
abbrev pub is_initial : Option Routine → Symbol → Bool
is_initial None x = false
is_initial (Some r) x = list_any (same_name x) (map (λ i. i.0) r.initial)

abbrev pub is_value_parameter : Routine → Symbol → Bool
is_value_parameter r x = list_any (λ f. same_name f.name x && not f.by_place) r.formals

-- ---- what annotations see

-- names with the sorts of what they stand for
abbrev pub Scope : Type 0
Scope = List (Symbol × Sort)

abbrev pub with_sorts_of : Program → List (Symbol × TypeId) → Scope
with_sorts_of p names = map (λ n. (n.0, sort_of p.forms n.1)) names

abbrev pub sort_or_int : Option Sort → Sort
sort_or_int None = sort.Int
sort_or_int (Some s) = s

-- the sort of what an INITIAL name stands for
abbrev pub item_sort : Program → Option Routine → Item → Sort
item_sort p here (Variable x) = sort_or_int (option_map (sort_of p.forms) (name_type p here x))
item_sort p here (Class t) = sort.Class t

abbrev pub initial_names : Program → Option Routine → Scope
initial_names p None = []
initial_names p (Some r) = map (λ i. (i.0, item_sort p (Some r) i.1)) r.initial

-- in a body, and in the annotations of the main block: own names, INITIAL names, variables of the program
abbrev pub body_scope : Program → Option Routine → Scope
body_scope p here = with_sorts_of p (own_names_in here) ++ (initial_names p here ++ with_sorts_of p p.variables)

abbrev pub parameters_of : Program → Routine → Scope
parameters_of p r = with_sorts_of p (map (λ f. (f.name, f.of)) r.formals)

-- in ENTRY: parameters, and variables of the program
abbrev pub entry_scope : Program → Routine → Scope
entry_scope p r = parameters_of p r ++ with_sorts_of p p.variables

-- in EXIT also the function's name and the INITIAL names
abbrev pub exit_scope : Program → Routine → Scope
exit_scope p r =
    parameters_of p r ++ (with_sorts_of p (result_name r.name r.result) ++ (initial_names p (Some r) ++ with_sorts_of p p.variables))
