-- Terms and conditions, as they are written in worked examples.
use Rattle.std.specs.Prelude.{ℕ, List, Option, pos}
use Rattle.spv_logic.specs.declared.names.names.Symbol.{Symbol}
use Rattle.spv_logic.specs.declared.conditions.Kind.{Kind}
use Rattle.spv_logic.specs.declared.conditions.RoutineId.{RoutineId}
use Rattle.spv_logic.specs.declared.types.Sort.{Sort}
use Rattle.spv_logic.specs.declared.types.Sort.TheVariants as sort
use Rattle.spv_logic.specs.declared.operators.Head.TheVariants as head
use Rattle.spv_logic.specs.Terms.{Term}
use Rattle.spv_logic.specs.Conditions.{Condition}
use Rattle.spv_program.specs.Terms.{alone, unary, binary, numeral}
use Rattle.spv_worked.specs.Small.{node}

-- a variable, or a fresh one with a number, of sort Int
abbrev pub X : Symbol → Term
X x = alone (head.Var x sort.Int 0)

abbrev pub fresh : Symbol → ℕ → Term
fresh x k = alone (head.Var x sort.Int k)

-- the same of another sort
abbrev pub of : Sort → Symbol → ℕ → Term
of s x k = alone (head.Var x s k)

abbrev pub N : ℕ → Term
N k = numeral (pos k)

abbrev pub eq : Term → Term → Term
eq s t = binary head.Eq s t

abbrev pub less : Term → Term → Term
less s t = binary head.Lt s t

abbrev pub at_most : Term → Term → Term
at_most s t = binary head.Le s t

abbrev pub plus : Term → Term → Term
plus s t = binary head.Add s t

abbrev pub minus : Term → Term → Term
minus s t = binary head.Sub s t

abbrev pub times : Term → Term → Term
times s t = binary head.Mul s t

abbrev pub no : Term → Term
no t = unary head.Not t

abbrev pub both_of : Term → Term → Term
both_of s t = binary head.And s t

abbrev pub either : Term → Term → Term
either s t = binary head.Or s t

abbrev pub TRUE : Term
TRUE = alone head.True

abbrev pub FALSE : Term
FALSE = alone head.False

-- the cells of Node, and its NIL
abbrev pub cells : Term
cells = alone (head.ClassVar node 0)

abbrev pub NIL : Term
NIL = alone (head.Nil node)

-- a condition: its routine, kind and line, the hypotheses and the goal
abbrev pub condition : Option RoutineId → Kind → ℕ → List Term → Term → Condition
condition routine kind line given goal = record {
  claim = record { given = given; goal = goal };
  origin = record { routine = routine; kind = kind; line = line };
}
