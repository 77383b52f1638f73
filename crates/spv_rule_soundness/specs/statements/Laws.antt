-- What is proved of the rules of statements.
use Rattle.std.specs.Prelude.{◌≡◌, ℕ, zero, suc, true, false, ℤ, Option, Some, None}
use Rattle.spv_logic.specs.declared.names.names.Symbol.{Symbol}
use Rattle.spv_logic.specs.declared.operators.Head.{Head}
use Rattle.spv_logic.specs.Values.{Number, number_of}
use Rattle.spv_logic.specs.Terms.{head_eq, eval}
use Rattle.spv_logic.specs.Shapes.{shapes_ok}
use Rattle.spv_logic.specs.Conditions.{Meaning, Valuation, IsValuation}
use Rattle.spv_program.specs.declared.types.Item.TheVariants.{Variable}
use Rattle.spv_program.specs.Expressions.{Expression}
use Rattle.spv_program.specs.Formulas.{Annotation}
use Rattle.spv_program.specs.Statements.{Counting, Statement, For}
use Rattle.spv_program.specs.Programs.{Program, shapes, routine_in}
use Rattle.spv_program.specs.Terms.{item_head}
use Rattle.spv_program.specs.Supplies.{Supply}
use Rattle.spv_program.specs.ExpressionTerms.{valued}
use Rattle.spv_meaning.specs.declared.faults.Fault.TheVariants as fault
use Rattle.spv_meaning.specs.Places.{State, put}
use Rattle.spv_meaning.specs.Views.{place_of, now_view}
use Rattle.spv_meaning.specs.Levels.{Here, Level}
use Rattle.spv_meaning.specs.Walks.{walk, level, run}
use Rattle.spv_meaning.specs.Starts.{IsStart}
use Rattle.spv_meaning.specs.Correct.{CorrectBelow}
use Rattle.spv_meaning.specs.Before.{Made}
use Rattle.spv_rule_soundness.specs.statements.Truth.{IsEntry, meaning_in, Ignores}
use Rattle.spv_rule_soundness.specs.statements.Runs.{Allowed, IsRight, IsSupplied, IsRightTest, IsSuppliedTest, may_change}
use Rattle.spv_rule_soundness.specs.statements.Parts.{Passing, parts_pass}

-- what there is with one turn less
abbrev pub below : Program → ℕ → Option Level
below p zero = None
below p (suc n) = Some (level p n)

-- the variable of a FOR takes a number: the routine could start there, the number shows, and nothing else changes
pub record Counts (p : Program) (here : Here) (x : Symbol) (state : State) (z : ℤ) : Type 0 where
  pub is_start : IsStart p here.routine (put state (place_of here.routine state x) (Number z))
  pub shows : now_view p here.routine (put state (place_of here.routine state x) (Number z)) (item_head p (routine_in p here.routine) (Variable x)) ≡ Some (Number z)
  pub same : (h : Head) → head_eq h (item_head p (routine_in p here.routine) (Variable x)) ≡ false → now_view p here.routine (put state (place_of here.routine state x) (Number z)) h ≡ now_view p here.routine state h

-- the faults that control statements meet themselves are let through: a CASE without the label, a FOR's variable out of its
-- range, and a choice that is none
pub record AllowsControl (allowed : Allowed) : Type 0 where
  pub no_label : allowed.fault fault.Case ≡ true
  pub out_of_range : allowed.fault fault.Range ≡ true
  pub no_choice : allowed.fault fault.Choice ≡ true

-- what is asked of the parts of statements that a routine runs: leaves and tests are right with so many turns, where every
-- routine is correct with fewer, and a FOR's variable is one that its body leaves alone
pub record PartsAreRight (p : Program) (world : Meaning) (allowed : Allowed) (here : Here) (passing : Passing) : Type 0 where
  pub faults : AllowsControl allowed
  pub leaf : (s : Statement) → passing.leaf s ≡ true → (n : ℕ) → CorrectBelow p world n → IsRight p world allowed here s (walk p (below p n) here s)
  pub leaf_supplied : (s : Statement) → passing.leaf s ≡ true → (q : Made) → Ignores p world q.supply q.conditions → IsSupplied p world here s q
  pub test : (e : Expression) → passing.test e ≡ true → (n : ℕ) → CorrectBelow p world n → IsRightTest p world allowed here (below p n) e
  pub test_supplied : (e : Expression) → passing.test e ≡ true → (n : Supply) → IsSuppliedTest p world here e n
  pub number : (e : Expression) → passing.number e ≡ true → (n : Supply) (v : Valuation) → IsValuation (shapes p) v → eval (meaning_in p world) v (valued p (routine_in p here.routine) n e).term ≡ Number (number_of (eval (meaning_in p world) v (valued p (routine_in p here.routine) n e).term))
  pub counts : (count : Counting) (s : Statement) → passing.count count s ≡ true → (state : State) → IsStart p here.routine state → (z : ℤ) → Counts p here count.variable state z
  pub counted : (line : ℕ) (f : Option Annotation) (count : Counting) (s : Statement) → passing.count count s ≡ true → may_change p here (For line f count s) (item_head p (routine_in p here.routine) (Variable count.variable)) ≡ true
  pub left_alone : (count : Counting) (s : Statement) → passing.count count s ≡ true → may_change p here s (item_head p (routine_in p here.routine) (Variable count.variable)) ≡ false

-- where the parts are right, so is every statement made of them, with so many turns, where every routine is correct with fewer
abbrev pub ControlRulesAreRight : Type 0
ControlRulesAreRight =
    (p : Program) → shapes_ok (shapes p) ≡ true → (world : Meaning) (allowed : Allowed) (here : Here) (passing : Passing) → IsEntry p here.entry → PartsAreRight p world allowed here passing
    → (s : Statement) → parts_pass passing s ≡ true → (n : ℕ) → CorrectBelow p world n → IsRight p world allowed here s (run p n here s)
