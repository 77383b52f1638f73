-- What is proved of evaluations with calls.
use Rattle.std.specs.Prelude.{◌≡◌, ℕ, Bool, true, false, List, Option, Some, IsTrue}
use Rattle.spv_logic.specs.declared.types.TypeId.{TypeId}
use Rattle.spv_logic.specs.declared.types.Sort.{Sort}
use Rattle.spv_logic.specs.Values.{Value}
use Rattle.spv_logic.specs.Conditions.{Meaning, View, Condition}
use Rattle.spv_program.specs.Expressions.{Expression, Designator, Arguments}
use Rattle.spv_program.specs.Statements.{Statement, Assign, Perform, New}
use Rattle.spv_program.specs.Programs.{Formal, Program, routine_in}
use Rattle.spv_program.specs.Scopes.{is_own}
use Rattle.spv_program.specs.Uses.{expression_uses, designator_uses, argument_uses, expression_calls, designator_calls, argument_calls}
use Rattle.spv_program.specs.ExpressionTypes.{expression_sort, designator_type, arguments_fit}
use Rattle.spv_program.specs.Supplies.{Supply}
use Rattle.spv_program.specs.ExpressionTerms.{Called, valued, placed, argued}
use Rattle.spv_program.specs.Typing.{well_typed}
use Rattle.spv_meaning.specs.Places.{State}
use Rattle.spv_meaning.specs.Levels.{Here, Level, Bound}
use Rattle.spv_meaning.specs.Evaluation.{Got, Fixed, evaluate, fix, arguments}
use Rattle.spv_meaning.specs.Starts.{IsStart}
use Rattle.spv_meaning.specs.Correct.{CorrectBelow}
use Rattle.spv_meaning.specs.Before.{Made, before_calls}
use Rattle.spv_rule_soundness.specs.evaluation.Laws.{uses_seen}
use Rattle.spv_rule_soundness.specs.statements.Truth.{IsWindow, IsEntry, meaning_in, shown, IsTrueFor, Ignores}
use Rattle.spv_rule_soundness.specs.statements.Runs.{all_allowed, Reaches, IsRightTest, IsSupplied, IsSuppliedTest}
use Rattle.spv_rule_soundness.specs.statements.Laws.{below}
use Rattle.spv_frame_law.specs.Laws.{IsFramed}
use Rattle.spv_call_evaluation.specs.Known.{Widely, IsWorth}
use Rattle.spv_call_evaluation.specs.Lying.{IsFixedAt, IsBoundTo}
use Rattle.spv_call_evaluation.specs.Supplied.{IsSuppliedPlace, AreSuppliedArguments}
use Rattle.spv_call_evaluation.specs.Functions.{calls_shown, FunctionsGive}

-- what is asked of where evaluations begin: a well typed program, a start, and functions that give what they promise
pub record IsReady (p : Program) (world : Meaning) (here : Here) (below : Option Level) (state : State) : Type 0 where
  pub typed : IsTrue (well_typed p)
  pub entry : IsEntry p here.entry
  pub start : IsStart p here.routine state
  pub functions : FunctionsGive p world here below state

-- fresh variables that have values, and a list that is true with calls in front of it
pub record IsTrueBefore (p : Program) (world : Meaning) (here : Here) (state : State) (n : Supply) (window : View) (calls : List Called) (wanted : List Condition) : Type 0 where
  pub is_window : IsWindow p n window
  pub true_there : IsTrueFor p world (shown p here window state) (before_calls here.routine calls wanted)

-- an expression: all that it reaches holds, and the value that it gives is what its term is worth
abbrev pub ExpressionsGiveTheirWorth : Type 0
ExpressionsGiveTheirWorth =
    (p : Program) (world : Meaning) (here : Here) (below : Option Level) (state : State) → IsReady p world here below state
    → (e : Expression) (s : Sort) → expression_sort p (routine_in p here.routine) e ≡ Some s → IsTrue (calls_shown p (routine_in p here.routine) (expression_calls e))
    → IsTrue (uses_seen (routine_in p here.routine) (expression_uses (is_own (routine_in p here.routine)) e))
    → (n : Supply) (window : View) (wanted : List Condition) → IsTrueBefore p world here state n window (valued p (routine_in p here.routine) n e).calls wanted
    → (choices : List Value)
    → Reaches p world all_allowed Got (Widely p world here state n (valued p (routine_in p here.routine) n e).supply window wanted Got (IsWorth p (meaning_in p world) here state (valued p (routine_in p here.routine) n e).term))
    (evaluate p below here e state choices)

-- a designator: all that it reaches holds, and the place that it fixes lies where its term says, and holds what its term is worth
abbrev pub PlacesLieWhereTheirTermsSay : Type 0
PlacesLieWhereTheirTermsSay =
    (p : Program) (world : Meaning) (here : Here) (below : Option Level) (state : State) → IsReady p world here below state
    → (d : Designator) (t : TypeId) → designator_type p (routine_in p here.routine) d ≡ Some t → IsTrue (calls_shown p (routine_in p here.routine) (designator_calls d))
    → (writes : Bool) → IsTrue (uses_seen (routine_in p here.routine) (designator_uses (is_own (routine_in p here.routine)) writes d))
    → (n : Supply) (window : View) (wanted : List Condition) → IsTrueBefore p world here state n window (placed p (routine_in p here.routine) n d).calls wanted
    → (choices : List Value)
    → Reaches p world all_allowed Fixed (Widely p world here state n (placed p (routine_in p here.routine) n d).supply window wanted Fixed (IsFixedAt p (meaning_in p world) here state (placed p (routine_in p here.routine) n d).target t))
    (fix p below here d state choices)

-- a list of arguments: all that it reaches holds, and each parameter is bound to what its argument's term is worth, or to where its
-- argument's term lies
abbrev pub ArgumentsAreBoundToTheirTerms : Type 0
ArgumentsAreBoundToTheirTerms =
    (p : Program) (world : Meaning) (here : Here) (below : Option Level) (state : State) → IsReady p world here below state
    → (formals : List Formal) (given : Arguments) → IsTrue (arguments_fit p (routine_in p here.routine) formals given) → IsTrue (calls_shown p (routine_in p here.routine) (argument_calls given))
    → IsTrue (uses_seen (routine_in p here.routine) (argument_uses (is_own (routine_in p here.routine)) given))
    → (n : Supply) (window : View) (wanted : List Condition) → IsTrueBefore p world here state n window (argued p (routine_in p here.routine) n given).calls wanted
    → (choices : List Value)
    → Reaches p world all_allowed Bound (Widely p world here state n (argued p (routine_in p here.routine) n given).supply window wanted Bound (IsBoundTo p (meaning_in p world) here state formals (argued p (routine_in p here.routine) n given).arguments))
    (arguments p below here formals given state choices)

-- where every routine is correct with fewer turns, functions give what they promise, from every start
abbrev pub CorrectFunctionsGive : Type 0
CorrectFunctionsGive =
    (p : Program) → IsFramed p → (world : Meaning) (here : Here) → IsEntry p here.entry → (turns : ℕ) → CorrectBelow p world turns
    → (state : State) → IsStart p here.routine state → FunctionsGive p world here (below p turns) state

-- so an expression is a right test in a world, whatever functions it calls
abbrev pub ExpressionsAreRightTestsIn : Meaning → Type 0
ExpressionsAreRightTestsIn world =
    (p : Program) → IsFramed p → (here : Here) → IsEntry p here.entry
    → (e : Expression) (s : Sort) → expression_sort p (routine_in p here.routine) e ≡ Some s → IsTrue (calls_shown p (routine_in p here.routine) (expression_calls e))
    → IsTrue (uses_seen (routine_in p here.routine) (expression_uses (is_own (routine_in p here.routine)) e))
    → (turns : ℕ) → CorrectBelow p world turns → IsRightTest p world all_allowed here (below p turns) e

-- ---- supplies

-- whatever is evaluated: its calls take their variables from the supply, and its terms, and the list with its calls in front, ignore
-- what is left
abbrev pub ExpressionsAreSupplied : Type 0
ExpressionsAreSupplied = (p : Program) (world : Meaning) (here : Here) (e : Expression) (n : Supply) → IsSuppliedTest p world here e n

abbrev pub PlacesAreSupplied : Type 0
PlacesAreSupplied = (p : Program) (world : Meaning) (here : Here) (d : Designator) (n : Supply) → IsSuppliedPlace p world here d n

abbrev pub ArgumentsAreSupplied : Type 0
ArgumentsAreSupplied = (p : Program) (world : Meaning) (here : Here) (given : Arguments) (n : Supply) → AreSuppliedArguments p world here given n

-- the statements that are no control: assignments, calls and NEW
abbrev pub is_leaf : Statement → Bool
is_leaf (Assign d e) = true
is_leaf (Perform c) = true
is_leaf (New line d t) = true
is_leaf _ = false

-- the list before one ignores what is left of the supply, as the one after it does
abbrev pub LeavesAreSupplied : Type 0
LeavesAreSupplied =
    (p : Program) (world : Meaning) (here : Here) (s : Statement) → IsTrue (is_leaf s) → (q : Made) → Ignores p world q.supply q.conditions
    → IsSupplied p world here s q
