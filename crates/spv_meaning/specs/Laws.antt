-- What is proved of runs.
use Rattle.std.specs.Prelude.{◌≡◌, ◌≤◌, ℕ, Bool, true, false, List, [], ◌∷◌, ◌++◌, map, Some, None, IsTrue, if◌then◌else◌}
use Rattle.spv_logic.specs.Conditions.{Meaning}
use Rattle.spv_program.specs.Programs.{Formal, Routine, Program, shapes, routine_at}
use Rattle.spv_program.specs.Scopes.{result_name}
use Rattle.spv_program.specs.Typing.{well_typed}
use Rattle.spv_logic.specs.Values.{Value}
use Rattle.spv_program.specs.Statements.{Statement}
use Rattle.spv_logic.specs.declared.names.names.Symbol.{Symbol}
use Rattle.spv_logic.specs.declared.types.TypeId.{TypeId}
use Rattle.spv_logic.specs.declared.conditions.RoutineId.{RoutineId}
use Rattle.spv_logic.specs.declared.operators.Head.{Head}
use Rattle.spv_logic.specs.declared.operators.Head.TheVariants as head
use Rattle.spv_logic.specs.Terms.{head_eq}
use Rattle.spv_program.specs.Lists.{found}
use Rattle.spv_program.specs.Types.{sort_of}
use Rattle.spv_meaning.specs.Places.{Place, PathStep, Binding, HeapRow, State, ProgramVariable, OwnValue, CellOf, Holding, Referring, whole, row_of, look, put}
use Rattle.spv_meaning.specs.Views.{now_view}
use Rattle.spv_logic.specs.Fits.{default_of}
use Rattle.spv_meaning.specs.Starts.{IsStart, same_root}
use Rattle.spv_meaning.specs.Outcomes.{End, Going}
use Rattle.spv_meaning.specs.Levels.{Here}
use Rattle.spv_meaning.specs.Walks.{run}
use Rattle.spv_meaning.specs.Assignments.{only_assigns}
use Rattle.spv_meaning.specs.Correct.{Correct}
use Rattle.spv_meaning.specs.ProgramConditions.{conditions_of, AllTrueIn}

-- whether a run ended or stopped
abbrev pub is_done : {A : Type 0} → End A → Bool
is_done Going = false
is_done _ = true

-- a run that ended or stopped does so alike with more turns
abbrev pub MoreTurnsKeepRuns : Type 0
MoreTurnsKeepRuns =
    (p : Program) (n m : ℕ) → n ≤ m → (here : Here) (s : Statement) (state : State) (choices : List Value)
    → IsTrue (is_done (run p n here s state choices).end) → run p m here s state choices ≡ run p n here s state choices

-- a put leaves what is at a place with another root
abbrev pub PutLeavesOtherRoots : Type 0
PutLeavesOtherRoots =
    (state : State) (a b : Place) (v : Value) → same_root a.root b.root ≡ false → look (put state a v) b ≡ look state b

-- of what the main block sees, a put at or below a variable of the program changes one name alone
abbrev pub PutChangesOneName : Type 0
PutChangesOneName =
    (p : Program) (state : State) (x : Symbol) (t : TypeId) → found p.variables x ≡ Some t → (path : List PathStep) (v : Value) (h : Head)
    → head_eq h (head.Var x (sort_of p.forms t) 0) ≡ false
    → now_view p None (put state (record { root = ProgramVariable x; path = path }) v) h ≡ now_view p None state h

-- and a put at or below a cell changes one class alone
abbrev pub PutChangesOneClass : Type 0
PutChangesOneClass =
    (p : Program) (state : State) (cell : ℕ) (r : HeapRow) → row_of state.heap cell ≡ Some r → (path : List PathStep) (v : Value) (h : Head)
    → head_eq h (head.ClassVar r.type 0) ≡ false
    → now_view p None (put state (record { root = CellOf cell; path = path }) v) h ≡ now_view p None state h

-- each variable of the program has its type's default, and there are no calls and no cells
abbrev pub with_defaults : Program → State
with_defaults p = record { variables = map (λ n. (n.0, default_of (shapes p) (sort_of p.forms n.1))) p.variables; frames = []; heap = [] }

-- the main block of a well typed program has a start
abbrev pub MainBlocksHaveStarts : Type 0
MainBlocksHaveStarts = (p : Program) → IsTrue (well_typed p) → IsStart p None (with_defaults p)

-- names that hold their types' defaults
abbrev pub holding_defaults : Program → List (Symbol × TypeId) → List (Symbol × Binding)
holding_defaults p names = map (λ n. (n.0, Holding (default_of (shapes p) (sort_of p.forms n.1)))) names

-- a parameter as a start binds it: by place to what the oldest frame keeps under its name, by value to its type's default
abbrev pub started_formal : Program → Formal → Binding
started_formal p f =
    if f.by_place then Referring (whole (OwnValue 0 f.name)) else Holding (default_of (shapes p) (sort_of p.forms f.of))

-- a state of defaults with no cells and two frames: the routine's own, and below it one that keeps a value for each
-- parameter
abbrev pub with_own_defaults : Program → RoutineId → Routine → State
with_own_defaults p id r = record {
  variables = (with_defaults p).variables;
  frames =
      record {
        routine = id;
        names = map (λ f. (f.name, started_formal p f)) r.formals
            ++ holding_defaults p (result_name r.name r.result ++ r.locals);
      }
      ∷ record { routine = id; names = holding_defaults p (map (λ f. (f.name, f.of)) r.formals) } ∷ [];
  heap = [];
}

-- each routine of a well typed program has a start
abbrev pub RoutinesHaveStarts : Type 0
RoutinesHaveStarts =
    (p : Program) → IsTrue (well_typed p) → (id : RoutineId) (r : Routine) → routine_at p id ≡ Some r
    → IsStart p (Some id) (with_own_defaults p id r)

-- true conditions make a well typed program of assignments correct
abbrev pub TrueConditionsGiveCorrectIn : Meaning → Type 0
TrueConditionsGiveCorrectIn world =
    (p : Program) → IsTrue (well_typed p) → IsTrue (only_assigns p) → AllTrueIn (shapes p) p.symbols world (conditions_of p) → Correct p world
