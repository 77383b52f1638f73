-- What is known where the walk stands: names from the start, the program so far, and the names of a routine.
use Rattle.std.specs.Prelude.{ℕ, Bool, ◌&&◌, ◌||◌, not, List, [], ◌∷◌, ◌++◌, map, Option, None, is_some, ℤ, codes}
use Rattle.std.specs.List.{list_any}
use Rattle.spv_logic.specs.declared.names.names.Symbol.{Symbol}
use Rattle.spv_logic.specs.names.Names.{place_of}
use Rattle.spv_logic.specs.declared.types.TypeId.{TypeId}
use Rattle.spv_logic.specs.declared.types.Sort.{Sort}
use Rattle.spv_logic.specs.declared.types.Decl.{Decl}
use Rattle.spv_logic.specs.declared.conditions.RoutineId.{RoutineId}
use Rattle.spv_program.specs.declared.types.Item.{Item}
use Rattle.spv_program.specs.Lists.{same_name, found, first_of}
use Rattle.spv_program.specs.Formulas.{Annotation}
use Rattle.spv_program.specs.Programs.{Formal, GlobalItem, Program}

-- ---- names that are known from the start

-- a function of formulas that is known from the start; PUT takes the name of a field as its second argument
pub data Function : Type 0 where
  Select Store Put Cell SetCell Extend PointerTo Car Cdr Cons Atom : Function

-- the names that are known from the start, by their numbers in a table of names
pub record KnownNames : Type 0 where
  pub integer : Symbol
  pub boolean : Symbol
  pub list : Symbol
  pub functions : List (Symbol × Function)
  -- the words that printed terms are written with
  pub reserved : List Symbol

abbrev pub number_in : List (List ℕ) → List ℕ → Symbol
number_in names text = record { 0 = place_of names text }

-- in this table; a text that is not there has the number of names, which no name has
abbrev pub known_in : List (List ℕ) → KnownNames
known_in names = record {
  integer = number_in names (codes "INTEGER");
  boolean = number_in names (codes "BOOLEAN");
  list = number_in names (codes "LIST");
  functions =
      (number_in names (codes "SELECT"), Select) ∷ (number_in names (codes "STORE"), Store)
      ∷ (number_in names (codes "PUT"), Put) ∷ (number_in names (codes "CELL"), Cell)
      ∷ (number_in names (codes "SETCELL"), SetCell) ∷ (number_in names (codes "EXTEND"), Extend)
      ∷ (number_in names (codes "POINTERTO"), PointerTo) ∷ (number_in names (codes "CAR"), Car)
      ∷ (number_in names (codes "CDR"), Cdr) ∷ (number_in names (codes "CONS"), Cons)
      ∷ (number_in names (codes "ATOM"), Atom) ∷ [];
  reserved =
      number_in names (codes "SELECT") ∷ number_in names (codes "STORE") ∷ number_in names (codes "FIELD")
      ∷ number_in names (codes "PUT") ∷ number_in names (codes "CELL") ∷ number_in names (codes "SETCELL")
      ∷ number_in names (codes "EXTEND") ∷ number_in names (codes "POINTERTO") ∷ number_in names (codes "CAR")
      ∷ number_in names (codes "CDR") ∷ number_in names (codes "CONS") ∷ number_in names (codes "ATOM")
      ∷ number_in names (codes "IMPLIES") ∷ [];
}

-- whether a name is a word that printed terms are written with; no symbol and no routine has such a name
abbrev pub is_reserved : KnownNames → Symbol → Bool
is_reserved k x = list_any (λ word. same_name word x) k.reserved

-- whether a name is that of a type or sort that is known from the start; it is never declared again
abbrev pub is_fixed : KnownNames → Symbol → Bool
is_fixed k x = same_name k.integer x || (same_name k.boolean x || same_name k.list x)

-- ---- routines

-- what those who call a routine know of it, and the number that it has among the routines with a body
pub record Heading : Type 0 where
  pub name : Symbol
  pub line : ℕ
  pub is_function : Bool
  pub number : RoutineId
  pub formals : List Formal
  pub result : Option TypeId
  pub globals : List GlobalItem

-- a heading with what else its clauses say
pub record Specified : Type 0 where
  pub heading : Heading
  pub initial : List (Symbol × Item)
  pub entry : Option Annotation
  pub exit : Option Annotation

-- ---- what a name stands for

pub data Meaning : Type 0 where
  -- a type
  OfType : TypeId → Meaning
  -- the sort LIST
  OfList : Meaning
  -- a constant, which is this number
  OfConstant : ℤ → Meaning
  -- a variable or a parameter of this type; in annotations also a function's name, for its result
  OfPlace : TypeId → Meaning
  -- an INITIAL name, of this sort
  OfStart : Sort → Meaning
  -- a declared symbol
  OfSymbol : Decl → Meaning
  -- a routine
  OfRoutine : Heading → Meaning

abbrev pub Names : Type 0
Names = List (Symbol × Meaning)

abbrev pub named : {X : Type 0} → (X → Meaning) → List (Symbol × X) → Names
named f xs = map (λ x. (x.0, f x.1)) xs

-- the program so far, the headings so far, and which of them wait for their bodies
pub record Known : Type 0 where
  pub start : KnownNames
  pub program : Program
  pub headings : List Heading
  pub awaited : List Specified

-- the types INTEGER and BOOLEAN are the first two
abbrev pub integer_type : TypeId
integer_type = record { 0 = 0 }

abbrev pub boolean_type : TypeId
boolean_type = record { 0 = 1 }

abbrev pub names_from_start : KnownNames → Names
names_from_start k = (k.integer, OfType integer_type) ∷ (k.boolean, OfType boolean_type) ∷ (k.list, OfList) ∷ []

-- the names of the program's scope; no two are the same
abbrev pub program_names : Known → Names
program_names k =
    names_from_start k.start
    ++ (named OfConstant k.program.constants
    ++ (named OfType k.program.types
    ++ (named OfPlace k.program.variables
    ++ (map (λ d. (d.name, OfSymbol d)) k.program.symbols ++ map (λ h. (h.name, OfRoutine h)) k.headings))))

-- ---- where a formula or a statement stands

-- the names of the routine's scope, which hide those of the program, and the routine
pub record Scope : Type 0 where
  pub known : Known
  pub own : Names
  pub routine : Option Heading

abbrev pub meaning : Scope → Symbol → Option Meaning
meaning s x = first_of (found s.own x) (found (program_names s.known) x)

-- the function of formulas of a name that nothing else has
abbrev pub function : Scope → Symbol → Option Function
function s x = found s.known.start.functions x

-- the scope of the program itself
abbrev pub at_top : Known → Scope
at_top k = record { known = k; own = []; routine = None }

-- ---- which names are free

abbrev pub is_named : Names → Symbol → Bool
is_named names x = is_some (found names x)

-- whether constants, types and variables of the program may take a name
abbrev pub is_free : Known → Symbol → Bool
is_free k x = not (is_named (program_names k) x)

-- whether symbols and routines may
abbrev pub is_free_for_call : Known → Symbol → Bool
is_free_for_call k x = is_free k x && not (is_reserved k.start x)
