-- What is given where calls have taken fresh variables, and their values are fixed.
use Rattle.std.specs.Prelude.{◌≡◌, false, List, Some}
use Rattle.spv_logic.specs.declared.operators.Head.{Head}
use Rattle.spv_logic.specs.Values.{Value}
use Rattle.spv_logic.specs.Terms.{Term, eval}
use Rattle.spv_logic.specs.Conditions.{Meaning, Valuation, View, Shows, Condition}
use Rattle.spv_program.specs.Programs.{Program}
use Rattle.spv_program.specs.Supplies.{Supply}
use Rattle.spv_meaning.specs.Places.{State}
use Rattle.spv_meaning.specs.Levels.{Here}
use Rattle.spv_meaning.specs.Evaluation.{Got}
use Rattle.spv_rule_soundness.specs.evaluation.Laws.{Setting}
use Rattle.spv_rule_soundness.specs.statements.Truth.{is_new, IsLater, IsWindow, shown, IsTrueFor}

-- a valuation that knows a state, and has the fixed values of fresh variables; it may say what it likes of all else, also of
-- cells that are none yet
pub record Knows (p : Program) (symbols : Meaning) (here : Here) (state : State) (window : View) (v : Valuation) : Type 0 where
  pub setting : Setting p symbols v here state
  pub shows : Shows window v

-- the calls between two supplies have given their fresh variables values, and what is wanted behind them is true
pub record Widens (p : Program) (world : Meaning) (here : Here) (state : State) (n m : Supply) (window wider : View) (wanted : List Condition) : Type 0 where
  pub later : IsLater n m
  pub is_window : IsWindow p m wider
  pub keeps : (h : Head) (w : Value) → window h ≡ Some w → wider h ≡ Some w
  pub adds : (h : Head) → is_new n h ≡ false → wider h ≡ window h
  pub true_there : IsTrueFor p world (shown p here wider state) wanted

-- what was given passes with a wider window
pub record Widely (p : Program) (world : Meaning) (here : Here) (state : State) (n m : Supply) (window : View) (wanted : List Condition) (A : Type 0) (P : View → A → Type 0) (x : A) : Type 0 where
  pub wider : View
  pub widens : Widens p world here state n m window wider wanted
  pub passes : P wider x

-- a value that was given: the state is as it was, and the value is what a term is worth
pub record IsWorth (p : Program) (symbols : Meaning) (here : Here) (state : State) (t : Term) (window : View) (got : Got) : Type 0 where
  pub state_is : got.state ≡ state
  pub worth : (v : Valuation) → Knows p symbols here state window v → eval symbols v t ≡ got.value
