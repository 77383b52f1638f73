-- What the code's tables are in the definition of the walk.
use Rattle.std.specs.Prelude.{Option, Some, None, List, [], ◌∷◌, map, option_map}
use Rattle.spv_logic.specs.declared.names.names.Symbol.{Symbol}
use Rattle.spv_program.specs.typed.ProgramViews.{formal_of, global_of}
use Rattle.spv_program.specs.typed.FormulaViews.{annotation_of}
use Rattle.spv_typing.specs.Known as spec
use Rattle.spv_environments.specs.declared.functions.Function.{Function}
use Rattle.spv_environments.specs.declared.functions.Function.TheVariants as function
use Rattle.spv_environments.specs.declared.functions.KnownNames.{KnownNames}
use Rattle.spv_environments.specs.declared.routines.Heading.{Heading}
use Rattle.spv_environments.specs.declared.routines.Specified.{Specified}

-- ---- names that are known from the start

abbrev pub function_of : Function → spec.Function
function_of function.Select = spec.Select
function_of function.Store = spec.Store
function_of function.Put = spec.Put
function_of function.Cell = spec.Cell
function_of function.SetCell = spec.SetCell
function_of function.Extend = spec.Extend
function_of function.PointerTo = spec.PointerTo
function_of function.Car = spec.Car
function_of function.Cdr = spec.Cdr
function_of function.Cons = spec.Cons
function_of function.Atom = spec.Atom

abbrev pub known_names_of : KnownNames → spec.KnownNames
known_names_of k = record {
  integer = k.integer;
  boolean = k.boolean;
  list = k.list;
  functions =
      (k.select, spec.Select) ∷ (k.store, spec.Store) ∷ (k.put, spec.Put) ∷ (k.cell, spec.Cell) ∷ (k.set_cell, spec.SetCell)
      ∷ (k.extend, spec.Extend) ∷ (k.pointer_to, spec.PointerTo) ∷ (k.car, spec.Car) ∷ (k.cdr, spec.Cdr)
      ∷ (k.cons, spec.Cons) ∷ (k.atom, spec.Atom) ∷ [];
  reserved =
      k.select ∷ k.store ∷ k.field ∷ k.put ∷ k.cell ∷ k.set_cell ∷ k.extend ∷ k.pointer_to ∷ k.car ∷ k.cdr ∷ k.cons ∷ k.atom
      ∷ k.implies ∷ [];
}

-- ---- routines

abbrev pub heading_of : Symbol → Heading → spec.Heading
heading_of name h = record {
  name = name;
  line = h.line;
  is_function = h.is_function;
  number = h.number;
  formals = map formal_of h.formals;
  result = h.result;
  globals = map global_of h.globals;
}

abbrev pub specified_of : Symbol → Specified → spec.Specified
specified_of name s = record {
  heading = heading_of name s.heading;
  initial = s.initial;
  entry = option_map annotation_of s.entry;
  exit = option_map annotation_of s.exit;
}

-- the routines that wait for their bodies
abbrev pub waiting : List (Symbol × Option Specified) → List spec.Specified
waiting [] = []
waiting ((name, Some s) ∷ others) = specified_of name s ∷ waiting others
waiting ((name, None) ∷ others) = waiting others

abbrev pub headings_of : List (Symbol × Heading) → List spec.Heading
headings_of entries = map (λ e. heading_of e.0 e.1) entries
