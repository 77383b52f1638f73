-- What a name stands for, told by the typed program and by the names of the routine in which it stands.
use Rattle.std.specs.Prelude.{ℕ, suc, Bool, true, false, List, [], ◌∷◌, ◌++◌, map, Option, Some, None, is_some, option_map, ℤ, if◌then◌else◌}
use Rattle.std.specs.List.{list_any}
use Rattle.spv_logic.specs.declared.names.names.Symbol.{Symbol}
use Rattle.spv_logic.specs.declared.types.TypeId.{TypeId}
use Rattle.spv_logic.specs.declared.conditions.RoutineId.{RoutineId}
use Rattle.spv_program.specs.Lists.{same_name, found}
use Rattle.spv_program.specs.Programs.{Routine, Program}
use Rattle.spv_typing.specs.Known.{KnownNames, Function}

-- what a name of a routine stands for
pub data Own : Type 0 where
  -- a constant, which is this number
  Constant : ℤ → Own
  -- a parameter or a local variable; in annotations also a function's name, for its result
  Place : Own
  -- an INITIAL name
  Start : Own

-- what a part of the text sees: the names that are known from the start, the program, the names of the routine, which hide
-- those of the program, and the routine in whose body the part stands
pub record View : Type 0 where
  pub start : KnownNames
  pub program : Program
  pub own : List (Symbol × Own)
  pub here : Option Routine

-- what a name of the routine tells, or where the routine has none, what the program has
abbrev pub own_or : {A : Type 0} → Option Own → (Own → A) → A → A
own_or (Some o) f other = f o
own_or None f other = other

abbrev pub number_of : Own → Option ℤ
number_of (Constant z) = Some z
number_of _ = None

abbrev pub is_place : Own → Bool
is_place Place = true
is_place _ = false

abbrev pub is_start : Own → Bool
is_start Start = true
is_start _ = false

-- the place of a name in a list, where it is there
abbrev pub place_among : List Symbol → Symbol → Option ℕ
place_among [] x = None
place_among (y ∷ names) x = if same_name x y then Some 0 else option_map (λ n. suc n) (place_among names x)

abbrev pub routine_at : ℕ → RoutineId
routine_at n = record { 0 = n }

-- INTEGER and BOOLEAN are the first two types
abbrev pub types_from_start : KnownNames → List (Symbol × TypeId)
types_from_start k = (k.integer, record { 0 = 0 }) ∷ (k.boolean, record { 0 = 1 }) ∷ []

abbrev pub is_name_of : Option Routine → Symbol → Bool
is_name_of None x = false
is_name_of (Some r) x = same_name r.name x

module _ (v : View) where
  -- the number that a constant of this name is
  abbrev pub constant_named : Symbol → Option ℤ
  constant_named x = own_or (found v.own x) number_of (found v.program.constants x)

  -- whether a variable or a parameter has this name
  abbrev pub names_place : Symbol → Bool
  names_place x = own_or (found v.own x) is_place (is_some (found v.program.variables x))

  -- whether an INITIAL name is this
  abbrev pub names_start : Symbol → Bool
  names_start x = own_or (found v.own x) is_start false

  -- the type of this name
  abbrev pub type_named : Symbol → Option TypeId
  type_named x = own_or (found v.own x) (λ o. None) (found (types_from_start v.start ++ v.program.types) x)

  -- whether a declared symbol has this name
  abbrev pub names_symbol : Symbol → Bool
  names_symbol x = own_or (found v.own x) (λ o. false) (list_any (λ d. same_name d.name x) v.program.symbols)

  -- the function of annotations of this name
  abbrev pub function_named : Symbol → Option Function
  function_named x = found v.start.functions x

  -- the number of the routine of this name
  abbrev pub routine_named : Symbol → Option RoutineId
  routine_named x = own_or (found v.own x) (λ o. None) (option_map routine_at (place_among (map (λ r. r.name) v.program.routines) x))

  -- whether this is the name of the routine in whose body it stands
  abbrev pub names_result : Symbol → Bool
  names_result x = own_or (found v.own x) (λ o. false) (is_name_of v.here x)

-- ---- what parts of a program see

-- from outside all routines
abbrev pub at_top : KnownNames → Program → View
at_top start p = record { start = start; program = p; own = []; here = None }

-- with these names of a routine
abbrev pub seen : KnownNames → Program → Option Routine → List (Symbol × Own) → View
seen start p here own = record { start = start; program = p; own = own; here = here }

-- constants, variables and parameters as names of a routine
abbrev pub own_constants : List (Symbol × ℤ) → List (Symbol × Own)
own_constants xs = map (λ x. (x.0, Constant x.1)) xs

abbrev pub own_places : List (Symbol × TypeId) → List (Symbol × Own)
own_places xs = map (λ x. (x.0, Place)) xs
