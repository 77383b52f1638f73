-- Small programs by their parts, and what is told of a run.
use Rattle.std.specs.Prelude.{ℕ, true, false, List, [], ◌∷◌, map, Option, Some, None, pos}
use Rattle.spv_logic.specs.declared.names.names.Symbol.{Symbol}
use Rattle.spv_logic.specs.declared.types.TypeId.{TypeId}
use Rattle.spv_logic.specs.declared.types.Sort.TheVariants as sort
use Rattle.spv_logic.specs.declared.conditions.Kind.{Kind}
use Rattle.spv_logic.specs.declared.conditions.RoutineId.{RoutineId}
use Rattle.spv_logic.specs.declared.operators.Head.{Head}
use Rattle.spv_logic.specs.declared.operators.Head.TheVariants as head
use Rattle.spv_logic.specs.Values.{Value, Number}
use Rattle.spv_logic.specs.Conditions.{both}
use Rattle.spv_program.specs.declared.types.TypeForm.{TypeForm}
use Rattle.spv_program.specs.declared.types.TypeForm.TheVariants.{Integer, Boolean, Range, Pointer as PointerTo, Array, Record}
use Rattle.spv_program.specs.declared.operators.Comparison.TheVariants as comparison
use Rattle.spv_program.specs.declared.operators.Arithmetic.TheVariants as arithmetic
use Rattle.spv_program.specs.Expressions.{Expression, Designator, Numeral, Read, Calculated, designator, no_selectors, at_index, at_field, at_cell}
use Rattle.spv_program.specs.Formulas as formula
use Rattle.spv_program.specs.Formulas.{Formula, Annotation}
use Rattle.spv_program.specs.Statements.{Statement, Empty, Assign, Sequence}
use Rattle.spv_program.specs.Programs.{Formal, Routine, Program}
use Rattle.spv_meaning.specs.declared.faults.Fault.{Fault}
use Rattle.spv_meaning.specs.Places.{HeapRow, State, look, whole, ProgramVariable}
use Rattle.spv_meaning.specs.Outcomes.{End, Ended, Stopped, Jump, Going, Met, Outcome}
use Rattle.spv_meaning.specs.Views.{entry_view}
use Rattle.spv_meaning.specs.Walks.{run}

-- ---- names and types

abbrev pub name : ℕ → Symbol
name n = record { 0 = n }

abbrev pub x : Symbol
x = name 0

abbrev pub y : Symbol
y = name 1

abbrev pub i : Symbol
i = name 2

abbrev pub b : Symbol
b = name 3

abbrev pub a : Symbol
a = name 4

abbrev pub p : Symbol
p = name 5

abbrev pub q : Symbol
q = name 6

abbrev pub f : Symbol
f = name 7

abbrev pub g : Symbol
g = name 8

abbrev pub n : Symbol
n = name 9

abbrev pub t : Symbol
t = name 10

abbrev pub val : Symbol
val = name 11

abbrev pub Node : Symbol
Node = name 12

abbrev pub Other : Symbol
Other = name 13

abbrev pub p0 : Symbol
p0 = name 14

abbrev pub q0 : Symbol
q0 = name 15

abbrev pub Fact : Symbol
Fact = name 16

abbrev pub type : ℕ → TypeId
type n = record { 0 = n }

abbrev pub integer : TypeId
integer = type 0

abbrev pub boolean : TypeId
boolean = type 1

-- 1..3
abbrev pub three : TypeId
three = type 2

-- 1..9
abbrev pub nine : TypeId
nine = type 3

-- ARRAY [1..9] OF INTEGER
abbrev pub row_of_nine : TypeId
row_of_nine = type 4

-- ^Node
abbrev pub ref : TypeId
ref = type 5

-- RECORD val: INTEGER END
abbrev pub node : TypeId
node = type 6

-- ^Other
abbrev pub other_ref : TypeId
other_ref = type 7

-- RECORD val: BOOLEAN END
abbrev pub other : TypeId
other = type 8

abbrev pub forms : List TypeForm
forms =
    Integer ∷ Boolean ∷ Range (pos 1) (pos 3) ∷ Range (pos 1) (pos 9) ∷ Array nine integer ∷ PointerTo node ∷ Record
    (record { name = val; of = integer } ∷ [])
    ∷ PointerTo other ∷ Record (record { name = val; of = boolean } ∷ []) ∷ []

-- a program over these types
abbrev pub program : List (Symbol × TypeId) → List Routine → Option Annotation → Option Annotation → Statement → Program
program variables routines entry exit body = record {
  forms = forms;
  titles = None ∷ None ∷ None ∷ None ∷ None ∷ None ∷ Some Node ∷ None ∷ Some Other ∷ [];
  types = (Node, node) ∷ (Other, other) ∷ [];
  constants = [];
  variables = variables;
  symbols = record { name = Fact; args = sort.Int ∷ []; result = sort.Int } ∷ [];
  routines = routines;
  main = record { entry = entry; exit = exit; body = body };
}

-- ---- expressions, formulas and statements

abbrev pub num : ℕ → Expression
num z = Numeral (pos z)

abbrev pub at : Symbol → Designator
at v = designator 1 v no_selectors

abbrev pub read : Symbol → Expression
read v = Read (at v)

-- a[e]
abbrev pub element : Symbol → Expression → Designator
element v e = designator 1 v (at_index row_of_nine e no_selectors)

-- v^.val
abbrev pub content : Symbol → Designator
content v = designator 1 v (at_cell 1 node (at_field node val no_selectors))

abbrev pub set : Symbol → Expression → Statement
set v e = Assign (at v) e

-- statements one after the other
abbrev pub block : List Statement → Statement
block [] = Empty
block (s ∷ others) = Sequence s (block others)

-- 1 DIV 0
abbrev pub one_by_zero : Expression
one_by_zero = Calculated arithmetic.Div (num 1) (num 0)

abbrev pub named : Symbol → Formula
named v = formula.Named 1 v

abbrev pub number : ℕ → Formula
number z = formula.Numeral (pos z)

abbrev pub equal : Formula → Formula → Formula
equal s u = formula.Compared comparison.Equal s u

abbrev pub note : ℕ → Formula → Annotation
note line s = record { formula = s; line = line }

-- TRUE, on a line
abbrev pub anything : ℕ → Option Annotation
anything line = Some (note line (formula.Boolean true))

abbrev pub value_formal : Symbol → TypeId → Formal
value_formal v of = record { name = v; of = of; by_place = false; line = 1 }

abbrev pub place_formal : Symbol → TypeId → Formal
place_formal v of = record { name = v; of = of; by_place = true; line = 1 }

abbrev pub routine : ℕ → RoutineId
routine n = record { 0 = n }

-- ---- what is told of a run

abbrev pub z : ℕ → Value
z k = Number (pos k)

-- how a run ended: with these values of some variables, by a fault, by a jump to a label, or not yet
pub data Told : Type 0 where
  EndedWith : List (Option Value) → Told
  StoppedBy : Fault → Told
  JumpedTo : ℕ → Told
  StillGoing : Told

-- an annotation that was reached: its kind, its line, and what shows of some names then
pub record Reached : Type 0 where
  pub kind : Kind
  pub line : ℕ
  pub shows : List (Option Value)

pub record Report : Type 0 where
  pub end : Told
  pub met : List Reached

abbrev pub value_in : State → Symbol → Option Value
value_in state v = look state (whole (ProgramVariable v))

abbrev pub end_told : List Symbol → End State → Told
end_told names (Ended state) = EndedWith (map (value_in state) names)
end_told names (Stopped fault) = StoppedBy fault
end_told names (Jump label state) = JumpedTo label
end_told names Going = StillGoing

abbrev pub met_told : List Head → Met → Reached
met_told heads m = record { kind = m.kind; line = m.line; shows = map (both m.entry m.now) heads }

-- of a run its end, with the values of some variables, and the annotations reached, with what shows of some names
abbrev pub told : List Symbol → List Head → Outcome State → Report
told names heads outcome = record { end = end_told names outcome.end; met = map (met_told heads) outcome.met }

-- a variable of sort Int, as it is now
abbrev pub int : Symbol → Head
int v = head.Var v sort.Int 0

-- a state of variables alone, and one with cells
abbrev pub state : List (Symbol × Value) → State
state variables = record { variables = variables; frames = []; heap = [] }

abbrev pub with_cells : List HeapRow → State → State
with_cells heap start = record { variables = start.variables; frames = start.frames; heap = heap }

-- the run of a program's main block, with so many turns and these choices
abbrev pub main_run : Program → ℕ → State → List Value → Outcome State
main_run prog turns start choices = run prog turns (record { routine = None; entry = entry_view prog None start }) prog.main.body start choices

-- ---- reports

-- ended with these numbers in the variables
abbrev pub ended : List ℕ → List Reached → Report
ended numbers met = record { end = EndedWith (map (λ k. Some (z k)) numbers); met = met }

abbrev pub stopped : Fault → List Reached → Report
stopped fault met = record { end = StoppedBy fault; met = met }

abbrev pub going : List Reached → Report
going met = record { end = StillGoing; met = met }

-- an annotation that was reached, with these numbers under the names
abbrev pub reached : Kind → ℕ → List ℕ → Reached
reached kind line numbers = record { kind = kind; line = line; shows = map (λ k. Some (z k)) numbers }
