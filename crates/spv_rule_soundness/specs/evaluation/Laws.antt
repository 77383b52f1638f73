-- What is proved of evaluations.
use Rattle.std.specs.Prelude.{◌≡◌, ℕ, Bool, true, List, [], pos, Option, Some, IsTrue}
use Rattle.std.specs.List.{list_all}
use Rattle.spv_logic.specs.declared.names.names.Symbol.{Symbol}
use Rattle.spv_logic.specs.declared.types.TypeId.{TypeId}
use Rattle.spv_logic.specs.declared.types.Sort.{Sort}
use Rattle.spv_logic.specs.declared.operators.Head.TheVariants as head
use Rattle.spv_logic.specs.Values.{Value, rows_in, default_in, row_at}
use Rattle.spv_logic.specs.Terms.{Term, eval}
use Rattle.spv_logic.specs.Fits.{fits}
use Rattle.spv_logic.specs.Conditions.{Meaning, Valuation, IsValuation, Shows, answers}
use Rattle.spv_program.specs.declared.types.Item.TheVariants.{Class}
use Rattle.spv_program.specs.Types.{same_type, sort_of}
use Rattle.spv_program.specs.Expressions.{Expression, Designator}
use Rattle.spv_program.specs.Programs.{Routine, Program, shapes, routine_in}
use Rattle.spv_program.specs.Scopes.{name_type, is_own}
use Rattle.spv_program.specs.Uses.{Root, Own, Shared, Use, name_root, expression_uses, designator_uses, expression_calls, designator_calls}
use Rattle.spv_program.specs.Supplies.{Supply}
use Rattle.spv_program.specs.Places.{present}
use Rattle.spv_program.specs.ExpressionTypes.{expression_sort, designator_type}
use Rattle.spv_program.specs.ExpressionTerms.{valued, placed}
use Rattle.spv_program.specs.Typing.{well_typed}
use Rattle.spv_program.specs.Laws.{HasSort}
use Rattle.spv_meaning.specs.Places.{HeapRow, State, row_of, look}
use Rattle.spv_meaning.specs.Views.{place_of, sees, now_view}
use Rattle.spv_meaning.specs.Levels.{Here, Level}
use Rattle.spv_meaning.specs.Evaluation.{Got, Fixed, evaluate, fix}
use Rattle.spv_meaning.specs.Starts.{IsStart}
use Rattle.spv_rule_soundness.specs.evaluation.Quiet.{Quiet}

-- whether a routine sees what is used: its own names, and the items of its GLOBAL list
abbrev pub root_seen : Option Routine → Root → Bool
root_seen here (Own x) = true
root_seen here (Shared i) = sees here i

abbrev pub uses_seen : Option Routine → List Use → Bool
uses_seen here uses = list_all (λ u. root_seen here u.root) uses

-- a valuation that shows a state from which the routine may start
pub record Shown (p : Program) (here : Here) (state : State) (v : Valuation) : Type 0 where
  pub valuation : IsValuation (shapes p) v
  pub start : IsStart p here.routine state
  pub shows : Shows (now_view p here.routine state) v

-- ---- what a valuation knows

-- what a valuation knows of a state: the values of the names, and the contents of the cells
pub record Setting (p : Program) (symbols : Meaning) (v : Valuation) (here : Here) (state : State) : Type 0 where
  pub sorted : (t : Term) (s : Sort) → HasSort p t s → IsTrue (fits (shapes p) (eval symbols v t) s)
  pub named : (x : Symbol) (t : TypeId) → name_type p (routine_in p here.routine) x ≡ Some t → IsTrue (root_seen (routine_in p here.routine) (name_root (is_own (routine_in p here.routine)) x)) → look state (place_of here.routine state x) ≡ Some (v (head.Var x (sort_of p.forms t) 0))
  pub cells : (t : TypeId) (r : HeapRow) (q : ℕ) → IsTrue (sees (routine_in p here.routine) (Class t)) → row_of state.heap q ≡ Some r → IsTrue (same_type r.type t) → row_at (rows_in (v (head.ClassVar t 0))) (pos q) (default_in (v (head.ClassVar t 0))) ≡ r.content

-- ---- expressions without calls

-- an evaluated expression: what it gives is what its term is worth
abbrev pub ExpressionsGiveWhatTheirTermsAreWorth : Type 0
ExpressionsGiveWhatTheirTermsAreWorth =
    (p : Program) → IsTrue (well_typed p) → (world : Meaning) (v : Valuation) (here : Here) (state : State) → Shown p here state v
    → (e : Expression) (s : Sort) → expression_sort p (routine_in p here.routine) e ≡ Some s → expression_calls e ≡ []
    → IsTrue (uses_seen (routine_in p here.routine) (expression_uses (is_own (routine_in p here.routine)) e))
    → (below : Option Level) (n : Supply) (choices : List Value)
    → Quiet Got (λ got. got ≡ record { value = eval (answers (shapes p) p.symbols world) v (valued p (routine_in p here.routine) n e).term; state = state }) choices (evaluate p below here e state choices)

-- a place that is fixed: the state is as it was, and what the place holds is what its term is worth
pub record Holds (symbols : Meaning) (p : Program) (here : Here) (state : State) (v : Valuation) (n : Supply) (d : Designator) (t : TypeId) (fixed : Fixed) : Type 0 where
  pub state_is : fixed.state ≡ state
  pub type_is : fixed.type ≡ t
  pub there : look state fixed.place ≡ Some (eval symbols v (present (placed p (routine_in p here.routine) n d).target))

abbrev pub PlacesHoldWhatTheirTermsAreWorth : Type 0
PlacesHoldWhatTheirTermsAreWorth =
    (p : Program) → IsTrue (well_typed p) → (world : Meaning) (v : Valuation) (here : Here) (state : State) → Shown p here state v
    → (d : Designator) (t : TypeId) → designator_type p (routine_in p here.routine) d ≡ Some t → designator_calls d ≡ []
    → (writes : Bool) → IsTrue (uses_seen (routine_in p here.routine) (designator_uses (is_own (routine_in p here.routine)) writes d))
    → (below : Option Level) (n : Supply) (choices : List Value)
    → Quiet Fixed (Holds (answers (shapes p) p.symbols world) p here state v n d t) choices (fix p below here d state choices)
