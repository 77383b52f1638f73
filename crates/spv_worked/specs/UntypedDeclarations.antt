-- Programs that are not well typed, for what they declare: each breaks one rule alone.
use Rattle.std.specs.Prelude.{◌≡◌, false, List, [], ◌∷◌, ◌++◌, Some, None, pos}
use Rattle.std.specs.List.{list_any}
use Rattle.spv_logic.specs.declared.types.TypeId.{TypeId}
use Rattle.spv_logic.specs.declared.types.Sort.TheVariants as sort
use Rattle.spv_program.specs.declared.types.TypeForm.{TypeForm}
use Rattle.spv_program.specs.declared.types.TypeForm.TheVariants.{Range, Pointer, Array, Record}
use Rattle.spv_program.specs.declared.types.Item.TheVariants.{Variable, Class}
use Rattle.spv_program.specs.Statements.{Empty}
use Rattle.spv_program.specs.Programs.{Routine, Program}
use Rattle.spv_program.specs.Typing.{well_typed}
use Rattle.spv_worked.specs.Small.{x, f, n, val, Node, p0, Fact, type, integer, nine, row_of_nine, node, forms, program, named, number, equal, note, value_formal, place_formal}
use Rattle.spv_worked.specs.TypedPrograms.{variables, plain_item, var_item, nothing, sharing, pointing, over}

-- none of these programs is well typed
abbrev pub NoneTyped : List Program → Type 0
NoneTyped programs = list_any well_typed programs ≡ false

-- no type has this number
abbrev pub no_type : TypeId
no_type = type 99

-- ---- types

-- a program with no statements and a type more, of number 9
abbrev pub with_form : TypeForm → Program
with_form form = record (program variables [] None None Empty) {
  forms = forms ++ form ∷ [];
  titles = None ∷ None ∷ None ∷ None ∷ None ∷ None ∷ Some Node ∷ None ∷ None ∷ None ∷ [];
}

-- a subrange that ends before it begins; parts of no type; indices of no subrange; one field twice; types in themselves
abbrev pub with_wrong_types : List Program
with_wrong_types =
    with_form (Range (pos 3) (pos 1))
    ∷ with_form (Pointer no_type)
    ∷ with_form (Array integer integer)
    ∷ with_form (Array nine no_type)
    ∷ with_form (Record (record { name = val; of = no_type } ∷ []))
    ∷ with_form (Record (record { name = val; of = integer } ∷ record { name = val; of = nine } ∷ []))
    ∷ with_form (Record (record { name = val; of = type 9 } ∷ []))
    ∷ with_form (Array nine (type 9)) ∷ []

-- ---- names

abbrev pub plain : Program
plain = program variables [] None None Empty

-- a title is missing; names of no type; a symbol of sorts that are not there; and one name for two things, of each kind
abbrev pub with_wrong_names : List Program
with_wrong_names =
    record plain { titles = [] }
    ∷ record plain { types = (Node, no_type) ∷ [] }
    ∷ record plain { variables = (x, no_type) ∷ [] }
    ∷ record plain { symbols = record { name = Fact; args = sort.Ptr no_type ∷ []; result = sort.Int } ∷ [] }
    ∷ record plain { symbols = record { name = Fact; args = sort.Int ∷ []; result = sort.Ptr no_type } ∷ [] }
    ∷ record plain { constants = (x, pos 1) ∷ [] }
    ∷ record plain { types = (x, integer) ∷ [] }
    ∷ record plain { variables = (x, integer) ∷ (x, nine) ∷ [] }
    ∷ record plain { symbols = record { name = x; args = []; result = sort.Int } ∷ [] }
    ∷ record plain { routines = record nothing { name = x } ∷ [] }
    ∷ record plain { routines = nothing ∷ nothing ∷ [] } ∷ []

-- ---- headings

abbrev pub with_routine : Routine → Program
with_routine r = over r pointing Empty

-- parameters, results, locals and items that are not there; a result that is an array; an item twice
abbrev pub with_wrong_headings : List Program
with_wrong_headings =
    with_routine (record nothing { formals = value_formal n no_type ∷ [] })
    ∷ with_routine (record nothing { result = Some no_type })
    ∷ with_routine (record nothing { result = Some row_of_nine })
    ∷ with_routine (record nothing { result = Some node })
    ∷ with_routine (record nothing { locals = (n, no_type) ∷ [] })
    ∷ with_routine (record nothing { globals = plain_item (Variable n) ∷ [] })
    ∷ with_routine (record nothing { globals = plain_item (Class no_type) ∷ [] })
    ∷ with_routine (record nothing { globals = plain_item (Variable x) ∷ var_item (Variable x) ∷ [] })
    ∷ with_routine (record nothing { globals = plain_item (Class node) ∷ plain_item (Class node) ∷ [] }) ∷ []

-- INITIAL names of a value parameter, of a local, of a variable and a class that are not in a VAR group
abbrev pub with_wrong_initials : List Program
with_wrong_initials =
    with_routine (record nothing { formals = value_formal n integer ∷ []; initial = (p0, Variable n) ∷ [] })
    ∷ with_routine (record nothing { locals = (n, integer) ∷ []; initial = (p0, Variable n) ∷ [] })
    ∷ with_routine (record nothing { globals = plain_item (Variable x) ∷ []; initial = (p0, Variable x) ∷ [] })
    ∷ with_routine (record nothing { globals = plain_item (Class node) ∷ []; initial = (p0, Class node) ∷ [] })
    ∷ with_routine (record nothing { initial = (p0, Variable x) ∷ [] }) ∷ []

-- one name twice in a routine: parameters, a parameter and a local, INITIAL names and others, the routine's own name, and
-- a variable of the GLOBAL list
abbrev pub with_wrong_scopes : List Program
with_wrong_scopes =
    with_routine (record nothing { formals = value_formal n integer ∷ place_formal n integer ∷ [] })
    ∷ with_routine (record nothing { formals = value_formal n integer ∷ []; locals = (n, integer) ∷ [] })
    ∷ with_routine (record nothing { locals = (n, integer) ∷ (n, nine) ∷ [] })
    ∷ with_routine (record nothing {
      formals = place_formal n integer ∷ [];
      initial = (p0, Variable n) ∷ (p0, Variable n) ∷ [];
    })
    ∷ with_routine (record nothing { formals = place_formal n integer ∷ []; initial = (n, Variable n) ∷ [] })
    ∷ with_routine (record nothing { formals = value_formal f integer ∷ [] })
    ∷ with_routine (record nothing { locals = (f, integer) ∷ [] })
    ∷ with_routine (record nothing { locals = (x, integer) ∷ []; globals = plain_item (Variable x) ∷ [] })
    ∷ with_routine (record nothing { formals = place_formal x integer ∷ []; globals = plain_item (Variable x) ∷ [] }) ∷ []

-- ---- ENTRY and EXIT

-- they are truth values; ENTRY sees no local, no result and no INITIAL name, and EXIT no local
abbrev pub with_wrong_conditions : List Program
with_wrong_conditions =
    with_routine (record nothing { entry = Some (note 1 (number 1)) })
    ∷ with_routine (record nothing { exit = Some (note 1 (number 1)) })
    ∷ with_routine (record nothing { locals = (n, integer) ∷ []; entry = Some (note 1 (equal (named n) (number 1))) })
    ∷ with_routine (record nothing { locals = (n, integer) ∷ []; exit = Some (note 1 (equal (named n) (number 1))) })
    ∷ with_routine (record nothing { result = Some integer; entry = Some (note 1 (equal (named f) (number 1))) })
    ∷ with_routine (record sharing { entry = Some (note 1 (equal (named p0) (number 1))) })
    ∷ record plain { main = record { entry = Some (note 1 (number 1)); exit = None; body = Empty } }
    ∷ record plain { main = record { entry = None; exit = Some (note 1 (number 1)); body = Empty } } ∷ []
