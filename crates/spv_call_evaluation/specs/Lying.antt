-- Where the places of terms lie, and what is bound to the parameters of a call.
use Rattle.std.specs.Prelude.{◌≡◌, not, List, [], ◌∷◌, ◌++◌, map, Option, Some, None, IsTrue}
use Rattle.spv_logic.specs.declared.names.names.Symbol.{Symbol}
use Rattle.spv_logic.specs.declared.types.TypeId.{TypeId}
use Rattle.spv_logic.specs.declared.operators.Head.{Head}
use Rattle.spv_logic.specs.declared.operators.Head.TheVariants as head
use Rattle.spv_logic.specs.Values.{Value, number_of, pointer_of}
use Rattle.spv_logic.specs.Terms.{Term, eval}
use Rattle.spv_logic.specs.Conditions.{Meaning, Valuation, View}
use Rattle.spv_program.specs.declared.types.Item.TheVariants.{Class}
use Rattle.spv_program.specs.Types.{sort_of}
use Rattle.spv_program.specs.Programs.{Formal, Program, routine_in}
use Rattle.spv_program.specs.Scopes.{name_type, is_own}
use Rattle.spv_program.specs.Uses.{name_root}
use Rattle.spv_program.specs.Places.{Step, ToElement, ToField, Target, present}
use Rattle.spv_program.specs.Calls.{Argument, Given, AtPlace}
use Rattle.spv_program.specs.Laws.{HasSort}
use Rattle.spv_meaning.specs.Places.{PathStep, Place, Binding, State, CellOf, IndexStep, FieldStep, Holding, Referring, whole, row_of, look}
use Rattle.spv_meaning.specs.Views.{place_of, sees}
use Rattle.spv_meaning.specs.Levels.{Here, Bound}
use Rattle.spv_meaning.specs.Evaluation.{Fixed, is_cell_of}
use Rattle.spv_rule_soundness.specs.evaluation.Laws.{root_seen}
use Rattle.spv_call_evaluation.specs.Known.{Knows}

-- ---- places

-- a step, with the value of an index
abbrev pub step_at : Meaning → Valuation → Step → PathStep
step_at symbols v (ToElement i) = IndexStep (number_of (eval symbols v i))
step_at symbols v (ToField f) = FieldStep f

-- where the steps of a place begin: a name that is seen where it lies, a class that is seen at the cell of a pointer
pub data BeginsAt (p : Program) (symbols : Meaning) (v : Valuation) (here : Here) (state : State) : Head → Option Term → Place → Type 0 where
  AtName : (x : Symbol) (t : TypeId) → name_type p (routine_in p here.routine) x ≡ Some t → IsTrue (root_seen (routine_in p here.routine) (name_root (is_own (routine_in p here.routine)) x))
      → BeginsAt p symbols v here state (head.Var x (sort_of p.forms t) 0) None (place_of here.routine state x)
  AtCell : (t : TypeId) (q : Term) → IsTrue (sees (routine_in p here.routine) (Class t)) → IsTrue (is_cell_of t (row_of state.heap (pointer_of (eval symbols v q))))
      → BeginsAt p symbols v here state (head.ClassVar t 0) (Some q) (whole (CellOf (pointer_of (eval symbols v q))))

-- where a place lies, by its root, its pointer and its steps, and that it holds what its term is worth
pub record LiesAt (p : Program) (symbols : Meaning) (v : Valuation) (here : Here) (state : State) (d : Target) (place : Place) : Type 0 where
  pub beginning : Place
  pub begins : BeginsAt p symbols v here state d.root d.pointer beginning
  pub root : place.root ≡ beginning.root
  pub path : place.path ≡ beginning.path ++ map (step_at symbols v) d.path
  pub holds : look state place ≡ Some (eval symbols v (present d))

-- a place that was fixed: the state is as it was, and the place is that of a term
pub record IsFixedAt (p : Program) (symbols : Meaning) (here : Here) (state : State) (d : Target) (t : TypeId) (window : View) (fixed : Fixed) : Type 0 where
  pub state_is : fixed.state ≡ state
  pub type_is : fixed.type ≡ t
  pub sorted : HasSort p (present d) (sort_of p.forms t)
  pub lies : (v : Valuation) → Knows p symbols here state window v → LiesAt p symbols v here state d fixed.place

-- ---- parameters

-- each parameter in turn: by value the value that its argument's term is worth, by place where its argument's place lies
pub data AreBound (p : Program) (symbols : Meaning) (here : Here) (state : State) (window : View) : List Formal → List Argument → List (Symbol × Binding) → Type 0 where
  NoneBound : AreBound p symbols here state window [] [] []
  ValueBound : (f : Formal) (t : Term) (w : Value) → IsTrue (not f.by_place) → HasSort p t (sort_of p.forms f.of)
      → ((v : Valuation) → Knows p symbols here state window v → eval symbols v t ≡ w)
      → (formals : List Formal) (arguments : List Argument) (names : List (Symbol × Binding)) → AreBound p symbols here state window formals arguments names
      → AreBound p symbols here state window (f ∷ formals) (Given t ∷ arguments) ((f.name, Holding w) ∷ names)
  PlaceBound : (f : Formal) (d : Target) (a : Place) → IsTrue f.by_place → HasSort p (present d) (sort_of p.forms f.of)
      → ((v : Valuation) → Knows p symbols here state window v → LiesAt p symbols v here state d a)
      → (formals : List Formal) (arguments : List Argument) (names : List (Symbol × Binding)) → AreBound p symbols here state window formals arguments names
      → AreBound p symbols here state window (f ∷ formals) (AtPlace d ∷ arguments) ((f.name, Referring a) ∷ names)

-- parameters that were bound: the state is as it was
pub record IsBoundTo (p : Program) (symbols : Meaning) (here : Here) (state : State) (formals : List Formal) (arguments : List Argument) (window : View) (bound : Bound) : Type 0 where
  pub state_is : bound.state ≡ state
  pub names : AreBound p symbols here state window formals arguments bound.names
