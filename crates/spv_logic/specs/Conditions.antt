-- Conditions, and when they are true.
use Rattle.std.specs.Prelude.{◌≡◌, ℕ, Bool, ◌||◌, not, List, Option, Some, None, IsTrue, if◌then◌else◌}
use Rattle.std.specs.List.{list_all}
use Rattle.std.specs.Option.{ForSome}
use Rattle.spv_logic.specs.declared.names.names.Symbol.{Symbol}
use Rattle.spv_logic.specs.declared.types.TypeId.{TypeId}
use Rattle.spv_logic.specs.declared.types.Sort.{Sort}
use Rattle.spv_logic.specs.declared.types.Sort.TheVariants as sort
use Rattle.spv_logic.specs.declared.types.Shape.{Shape}
use Rattle.spv_logic.specs.declared.types.Decl.{Decl}
use Rattle.spv_logic.specs.declared.conditions.Origin.{Origin}
use Rattle.spv_logic.specs.declared.operators.Head.{Head}
use Rattle.spv_logic.specs.declared.operators.Head.TheVariants as head
use Rattle.spv_logic.specs.Values.{Value, truth_of}
use Rattle.spv_logic.specs.Terms.{Term, eval}
use Rattle.spv_logic.specs.Fits.{fits, default_of}
use Rattle.spv_logic.specs.Sorts.{declared}

-- the meaning of the declared symbols: the answer of each, by its number, to values
abbrev pub Meaning : Type 0
Meaning = ℕ → List Value → Value

-- a valuation: the value of each variable, class and start value, by its head
abbrev pub Valuation : Type 0
Valuation = Head → Value

-- hypotheses and a goal
pub record Sequent : Type 0 where
  pub given : List Term
  pub goal : Term

-- a verification condition: a sequent, and where it comes from
pub record Condition : Type 0 where
  pub claim : Sequent
  pub origin : Origin

-- ---- what symbols answer

abbrev pub declared_result : Option Decl → Sort
declared_result None = sort.Int
declared_result (Some d) = d.result

-- the sort's default in place of a value of another sort
abbrev pub fitted : List Shape → Sort → Value → Value
fitted shapes s v = if fits shapes v s then v else default_of shapes s

-- what the declared symbols answer in a world; for an answer of a wrong sort, the default of the declared one
abbrev pub answers : List Shape → List Decl → Meaning → Meaning
answers shapes decls world symbol values =
    fitted shapes (declared_result (declared decls symbol)) (world symbol values)

-- ---- truth

-- each variable, class and start value has a value of its sort
pub record IsValuation (shapes : List Shape) (v : Valuation) : Type 0 where
  pub variables : (x : Symbol) (s : Sort) (n : ℕ) → IsTrue (fits shapes (v (head.Var x s n)) s)
  pub classes : (t : TypeId) (n : ℕ) → IsTrue (fits shapes (v (head.ClassVar t n)) (sort.Class t))
  pub starts : (x : Symbol) (s : Sort) → IsTrue (fits shapes (v (head.Start x s)) s)

-- whether a formula is true
abbrev pub holds : Meaning → Valuation → Term → Bool
holds symbols v t = truth_of (eval symbols v t)

-- whether the goal is true or a hypothesis is not
abbrev pub follows : Meaning → Valuation → Sequent → Bool
follows symbols v c = not (list_all (holds symbols v) c.given) || holds symbols v c.goal

-- a condition is true in a world: no valuation makes its goal false and each of its hypotheses true
abbrev pub TrueIn : List Shape → List Decl → Meaning → Sequent → Type 0
TrueIn shapes decls world c = (v : Valuation) → IsValuation shapes v → IsTrue (follows (answers shapes decls world) v c)

-- what a state shows: values of some of the names
abbrev pub View : Type 0
View = Head → Option Value

abbrev pub shown_or : Option Value → Option Value → Option Value
shown_or (Some v) other = Some v
shown_or None other = other

-- what showed when a routine began, and what shows now: what shows now, and of the rest what the entry showed
abbrev pub both : View → View → View
both entry now h = shown_or (now h) (entry h)

-- a valuation gives the names of a view their values there
abbrev pub Shows : View → Valuation → Type 0
Shows view v = (h : Head) → ForSome (view h) (λ w. v h ≡ w)

-- a condition is true at two views, what showed when its routine began and what shows now:
-- no valuation that agrees with both makes its goal false and each of its hypotheses true
abbrev pub TrueAt : List Shape → List Decl → Meaning → Sequent → View → View → Type 0
TrueAt shapes decls world c entry now =
    (v : Valuation) → IsValuation shapes v → Shows (both entry now) v → IsTrue (follows (answers shapes decls world) v c)
