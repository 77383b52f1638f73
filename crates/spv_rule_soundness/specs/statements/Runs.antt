-- Runs that reach only what holds, and what is true where they end.
use Rattle.std.specs.Prelude.{◌≡◌, ℕ, Bool, true, false, List, Option, Some}
use Rattle.std.specs.List.{list_any}
use Rattle.spv_logic.specs.declared.operators.Head.{Head}
use Rattle.spv_logic.specs.Values.{Value}
use Rattle.spv_logic.specs.Terms.{head_eq, eval}
use Rattle.spv_logic.specs.Conditions.{Meaning, Valuation, IsValuation, View, Shows, Condition}
use Rattle.spv_program.specs.Expressions.{Expression}
use Rattle.spv_program.specs.Statements.{Statement}
use Rattle.spv_program.specs.Programs.{Program, shapes, routine_in}
use Rattle.spv_program.specs.Changes.{changed_heads}
use Rattle.spv_program.specs.Supplies.{Supply}
use Rattle.spv_program.specs.ExpressionTerms.{valued}
use Rattle.spv_meaning.specs.declared.faults.Fault.{Fault}
use Rattle.spv_meaning.specs.Places.{State}
use Rattle.spv_meaning.specs.Views.{now_view}
use Rattle.spv_meaning.specs.Outcomes.{Ended, Stopped, Jump, Outcome}
use Rattle.spv_meaning.specs.Levels.{Here, Run, Level}
use Rattle.spv_meaning.specs.Evaluation.{Got, evaluate}
use Rattle.spv_meaning.specs.Starts.{IsStart}
use Rattle.spv_meaning.specs.Correct.{all_hold}
use Rattle.spv_meaning.specs.Before.{Made, before, before_calls}
use Rattle.spv_rule_soundness.specs.statements.Truth.{IsLater, IsWindow, meaning_in, shown, IsTrueFor, Ignores, TermIgnores, is_new}

-- which ends of a run without a result are let through: faults, and jumps to a label in a state
pub record Allowed : Type 0 where
  pub fault : Fault → Bool
  pub jump : ℕ → State → Bool

-- all of them
abbrev pub all_allowed : Allowed
all_allowed = record { fault = λ f. true; jump = λ label state. true }

-- each annotation that is reached holds, where the run ends its result passes, and no other end is met than is let through
pub record Reaches (p : Program) (world : Meaning) (allowed : Allowed) (A : Type 0) (P : A → Type 0) (o : Outcome A) : Type 0 where
  pub holds : all_hold p world o.met ≡ true
  pub ended : (x : A) → o.end ≡ Ended x → P x
  pub stopped : (f : Fault) → o.end ≡ Stopped f → allowed.fault f ≡ true
  pub jumped : (label : ℕ) (state : State) → o.end ≡ Jump label state → allowed.jump label state ≡ true

-- whether a statement may change a variable or class
abbrev pub may_change : Program → Here → Statement → Head → Bool
may_change p here s h = list_any (head_eq h) (changed_heads p (routine_in p here.routine) s)

-- where a statement ends: the routine could start there, what is wanted after it is true, and only what it may change
-- shows something else
pub record EndsWell (p : Program) (world : Meaning) (here : Here) (window : View) (changes : Head → Bool) (wanted : List Condition) (start after : State) : Type 0 where
  pub is_start : IsStart p here.routine after
  pub true_there : IsTrueFor p world (shown p here window after) wanted
  pub same : (h : Head) → changes h ≡ false → now_view p here.routine after h ≡ now_view p here.routine start h

-- a statement is right: where the list before it is true, its run reaches only what holds and ends well
abbrev pub IsRight : Program → Meaning → Allowed → Here → Statement → Run → Type 0
IsRight p world allowed here s run =
    (q : Made) → Ignores p world q.supply q.conditions → (window : View) → IsWindow p q.supply window
    → (state : State) → IsStart p here.routine state → IsTrueFor p world (shown p here window state) (before p here.routine s q).conditions
    → (choices : List Value) → Reaches p world allowed State (EndsWell p world here window (may_change p here s) q.conditions state) (run state choices)

-- the list before a statement ignores what is left of the supply, as the one after it does
pub record IsSupplied (p : Program) (world : Meaning) (here : Here) (s : Statement) (q : Made) : Type 0 where
  pub ignores : Ignores p world (before p here.routine s q).supply (before p here.routine s q).conditions
  pub later : IsLater q.supply (before p here.routine s q).supply

-- ---- tests

-- a value that was given: the state is as it was, the calls' variables have values, with which the expression's term is
-- worth it, and what is wanted behind the calls is true
pub record GivesWell (p : Program) (world : Meaning) (here : Here) (e : Expression) (n : Supply) (window : View) (wanted : List Condition) (start : State) (got : Got) : Type 0 where
  pub state_is : got.state ≡ start
  pub wider : View
  pub is_window : IsWindow p (valued p (routine_in p here.routine) n e).supply wider
  pub keeps : (h : Head) (w : Value) → window h ≡ Some w → wider h ≡ Some w
  pub adds : (h : Head) → is_new n h ≡ false → wider h ≡ window h
  pub worth : (v : Valuation) → IsValuation (shapes p) v → Shows (shown p here wider start) v → eval (meaning_in p world) v (valued p (routine_in p here.routine) n e).term ≡ got.value
  pub true_there : IsTrueFor p world (shown p here wider start) wanted

-- an expression is right: where the list with its calls in front is true, it reaches only what holds and gives well
abbrev pub IsRightTest : Program → Meaning → Allowed → Here → Option Level → Expression → Type 0
IsRightTest p world allowed here below e =
    (n : Supply) (window : View) → IsWindow p n window → (wanted : List Condition) (state : State) → IsStart p here.routine state
    → IsTrueFor p world (shown p here window state) (before_calls here.routine (valued p (routine_in p here.routine) n e).calls wanted)
    → (choices : List Value) → Reaches p world allowed Got (GivesWell p world here e n window wanted state) (evaluate p below here e state choices)

-- the calls of an expression take their variables from the supply, and its term has no other fresh ones
pub record IsSuppliedTest (p : Program) (world : Meaning) (here : Here) (e : Expression) (n : Supply) : Type 0 where
  pub later : IsLater n (valued p (routine_in p here.routine) n e).supply
  pub term : TermIgnores p world (valued p (routine_in p here.routine) n e).supply (valued p (routine_in p here.routine) n e).term
  pub calls : (m : Supply) → IsLater (valued p (routine_in p here.routine) n e).supply m → (wanted : List Condition) → Ignores p world m wanted → Ignores p world m (before_calls here.routine (valued p (routine_in p here.routine) n e).calls wanted)
