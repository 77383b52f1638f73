-- Places and arguments with the calls in them, over an arena, and what is asked where they are made.
use Rattle.std.specs.Prelude.{◌≡◌, ⊤, ℕ, List, [], ◌∷◌, ◌++◌, map, Option, Some, Result, IfOk, OnOk, IsSome, IsTrue}
use Rattle.spv_logic.specs.declared.conditions.RoutineId.{RoutineId}
use Rattle.spv_logic.specs.declared.types.Decl.{Decl}
use Rattle.spv_logic.specs.declared.types.Shape.{Shape}
use Rattle.spv_logic.specs.declared.types.Sort.{Sort}
use Rattle.spv_logic.specs.declared.types.TypeId.{TypeId}
use Rattle.spv_logic.specs.declared.names.names.Symbol.{Symbol}
use Rattle.spv_logic.specs.declared.operators.Head.{Head}
use Rattle.spv_logic.specs.declared.operators.Head.TheVariants as head
use Rattle.spv_logic.specs.declared.conditions.TermId.{TermId}
use Rattle.spv_logic.specs.Terms.{Term}
use Rattle.spv_term.specs.Arena.{Arena, Extends, tree}
use Rattle.spv_program.specs.Expressions.{Expression, Designator, Selectors, Call, Arguments, call}
use Rattle.spv_program.specs.Programs.{Formal, Routine, Program, shapes, routine_at, routine_in}
use Rattle.spv_program.specs.ExpressionTypes.{arguments_fit, callee, designator_type, expression_sort, selected_type}
use Rattle.spv_program.specs.Types.{sort_of}
use Rattle.spv_program.specs.Typing.{well_typed}
use Rattle.spv_program.specs.Places.{Target, present, whole_with}
use Rattle.spv_logic.specs.Sorts.{head_in_range, term_sort, variable_sort}
use Rattle.spv_logic.specs.Substitution.{is_variable, substitute}
use Rattle.spv_term.specs.substitution.Images.{ArePairs}
use Rattle.spv_meaning.specs.Before.{Changed, and_changed}
use Rattle.spv_program.specs.Supplies.{fresh_like}
use Rattle.spv_program.specs.Terms.{alone, item_head}
use Rattle.spv_program.specs.Scopes.{item_sort}
use Rattle.spv_program.specs.declared.types.Item.{Item}
use Rattle.spv_assign.specs.Conditions.{pairs_of}
use Rattle.spv_assign.specs.creation_trace.StatementEvents.{several, pair_terms}
use Rattle.spv_program.specs.Supplies.{Supply}
use Rattle.spv_program.specs.Calls as argument
use Rattle.spv_program.specs.Calls.{entry_at_call, exit_at_call, replacing}
use Rattle.spv_program.specs.ExpressionTerms.{Called, Valued, Placed, Argued, called_in, with_call}
use Rattle.spv_expression_terms.specs.term_walk.OuterCalls.{MadeCalls, head_of}
use Rattle.spv_assign.specs.supply.Numbers.{AreThere}
use Rattle.spv_assign.specs.declared.creation_trace.faults.GenFault.{GenFault}
use Rattle.spv_assign.specs.creation_trace.Events.{Event, Answers}
use Rattle.spv_assign.specs.limited_steps.Makes.{IsTerm}
use Rattle.spv_assign.specs.declared.structures.places.Target as code_target
use Rattle.spv_assign.specs.structures.Targets.{IsTarget, target_in}
use Rattle.spv_flow_parts.specs.declared.bodies.Body.{Body}
use Rattle.spv_flow_parts.specs.declared.leaves.valued.Called as code_called
use Rattle.spv_flow_parts.specs.declared.calls.passed.Argument as code_argument
use Rattle.spv_flow_parts.specs.declared.calls.passed.Argument.TheVariants as code
use Rattle.spv_flow_parts.specs.declared.calls.entering.Changed as code_changed
use Rattle.spv_flow_parts.specs.declared.calls.places.Way as code_way
use Rattle.spv_flow_parts.specs.declared.calls.passed.Placed as code_placed
use Rattle.spv_flow_parts.specs.declared.calls.passed.Argued as code_argued
use Rattle.spv_flow_parts.specs.Standing.{Stands}
use Rattle.spv_flow_parts.specs.leaves.Values.{AreCalls, IsCall}

-- ---- what is asked

-- a body of a well typed program, an arena for its terms, and fresh variables that are there where they were taken
pub record MayMake (p : Program) (b : Body) (a : Arena) (n : Supply) : Type 0 where
  pub stands : Stands p b a
  pub typed : IsTrue (well_typed p)
  pub there : AreThere a n

-- an expression that has a sort
pub record IsExpression (p : Program) (here : Option RoutineId) (e : Expression) : Type 0 where
  pub sort : Sort
  pub sorted : expression_sort p (routine_in p here) e ≡ Some sort

-- a place that has a type
pub record IsPlace (p : Program) (here : Option RoutineId) (d : Designator) : Type 0 where
  pub of : TypeId
  pub typed : designator_type p (routine_in p here) d ≡ Some of

-- selectors that lead from a place of some type to one
pub record AreSelectors (p : Program) (here : Option RoutineId) (others : Selectors) : Type 0 where
  pub from : TypeId
  pub to : TypeId
  pub typed : selected_type p (routine_in p here) from others ≡ Some to

-- the same from a place of which the type is told by the term of what stands there
pub record AreSteps (p : Program) (here : Option RoutineId) (d : Target) (others : Selectors) : Type 0 where
  pub from : TypeId
  pub sorted : term_sort (shapes p) p.symbols (present d) ≡ Some (sort_of p.forms from)
  pub to : TypeId
  pub typed : selected_type p (routine_in p here) from others ≡ Some to

-- a call of a function, whose arguments fit
pub record IsFunctionCall (p : Program) (here : Option RoutineId) (c : Call) : Type 0 where
  pub routine : Routine
  pub called : callee p (routine_in p here) c ≡ Some routine
  pub result : TypeId
  pub is : routine.result ≡ Some result

-- a call of this routine, whose arguments fit
pub record IsCallOf (p : Program) (here : Option RoutineId) (c : Call) (r : Routine) : Type 0 where
  pub called : callee p (routine_in p here) c ≡ Some r

-- arguments that fit some parameters
pub record FitParameters (p : Program) (here : Option RoutineId) (given : Arguments) : Type 0 where
  pub formals : List Formal
  pub fit : IsTrue (arguments_fit p (routine_in p here) formals given)

-- ---- what is made

-- a place with its calls, and the fresh variables that are left
pub record IsPlaced (a : Arena) (n : Supply) (v : code_placed.Placed) (w : Placed) : Type 0 where
  pub target : IsTarget a v.target
  pub same : target_in a v.target ≡ w.target
  pub calls : AreCalls a v.calls w.calls
  pub supply : n ≡ w.supply
  pub there : AreThere a n

-- it was made by these events, or the limit was met that they meet first
pub record MakesPlace (r : Result code_placed.Placed GenFault) (w : Placed) (events : List Event) (a b : Arena) (n : Supply) : Type 0 where
  pub grows : Extends a b
  pub walk : Answers r events a b
  pub place : IfOk r (λ v. IsPlaced b n v w)

-- what stands for a parameter: a value, or a place
abbrev pub IsArgument : Arena → code_argument.Argument → argument.Argument → Type 0
IsArgument a (code.Given t) (argument.Given x) = IsTerm a t x
IsArgument a (code.AtPlace d) (argument.AtPlace e) = IsTarget a d × (target_in a d ≡ e)
IsArgument a _ _ = ⊥

-- the argument that an id or a place is
abbrev pub argument_in : Arena → code_argument.Argument → argument.Argument
argument_in a (code.Given t) = argument.Given (tree a t)
argument_in a (code.AtPlace d) = argument.AtPlace (target_in a d)

abbrev pub AreArguments : Arena → List code_argument.Argument → List argument.Argument → Type 0
AreArguments a [] [] = ⊤
AreArguments a (t ∷ ts) (x ∷ xs) = IsArgument a t x × AreArguments a ts xs
AreArguments a _ _ = ⊥

-- arguments with their calls, and the fresh variables that are left
pub record IsArgued (a : Arena) (n : Supply) (v : code_argued.Argued) (w : Argued) : Type 0 where
  pub arguments : AreArguments a v.arguments w.arguments
  pub calls : AreCalls a v.calls w.calls
  pub supply : n ≡ w.supply
  pub there : AreThere a n

pub record MakesArguments (r : Result code_argued.Argued GenFault) (w : Argued) (events : List Event) (a b : Arena) (n : Supply) : Type 0 where
  pub grows : Extends a b
  pub walk : Answers r events a b
  pub arguments : IfOk r (λ v. IsArgued b n v w)

-- ---- what is made behind calls that are there

-- a term, with its calls behind those that are there
pub record AddsValue (r : Result TermId GenFault) (w : Valued) (events : List Event) (a b : Arena) (old new : List code_called.Called) (n : Supply) : Type 0 where
  pub grows : Extends a b
  pub walk : Answers r events a b
  pub term : IfOk r (λ t. IsTerm b t w.term)
  pub calls : (before : List Called) → AreCalls a old before → IfOk r (λ t. AreCalls b new (before ++ w.calls))
  pub supply : IfOk r (λ t. n ≡ w.supply)
  pub there : IfOk r (λ t. AreThere b n)

-- a place
pub record AddsPlace (r : Result code_target.Target GenFault) (w : Placed) (events : List Event) (a b : Arena) (old new : List code_called.Called) (n : Supply) : Type 0 where
  pub grows : Extends a b
  pub walk : Answers r events a b
  pub target : IfOk r (λ d. IsTarget b d)
  pub same : IfOk r (λ d. target_in b d ≡ w.target)
  pub calls : (before : List Called) → AreCalls a old before → IfOk r (λ d. AreCalls b new (before ++ w.calls))
  pub supply : IfOk r (λ d. n ≡ w.supply)
  pub there : IfOk r (λ d. AreThere b n)

-- arguments
pub record AddsArguments (r : Result (List code_argument.Argument) GenFault) (w : Argued) (events : List Event) (a b : Arena) (old new : List code_called.Called) (n : Supply) : Type 0 where
  pub grows : Extends a b
  pub walk : Answers r events a b
  pub arguments : IfOk r (λ ts. AreArguments b ts w.arguments)
  pub calls : (before : List Called) → AreCalls a old before → IfOk r (λ ts. AreCalls b new (before ++ w.calls))
  pub supply : IfOk r (λ ts. n ≡ w.supply)
  pub there : IfOk r (λ ts. AreThere b n)

-- calls one after the other, each with the variable that stands for its value
pub record AddsCalls (r : Result ⊤ GenFault) (w : MadeCalls) (events : List Event) (a b : Arena) (variables others : List Head) (old new : List code_called.Called) (n : Supply) : Type 0 where
  pub grows : Extends a b
  pub walk : Answers r events a b
  pub heads : OnOk r (others ≡ variables ++ w.variables)
  pub calls : (before : List Called) → AreCalls a old before → OnOk r (AreCalls b new (before ++ w.calls))
  pub supply : OnOk r (n ≡ w.supply)
  pub there : OnOk r (AreThere b n)

-- ---- callees

-- a well typed program, and an arena for its terms
pub record IsOver (p : Program) (a : Arena) : Type 0 where
  pub typed : IsTrue (well_typed p)
  pub shapes_are : a.shapes ≡ shapes p
  pub decls_are : a.decls ≡ p.symbols

-- the arguments of a call
abbrev pub arguments_in : Call → Arguments
arguments_in (call r line given) = given

abbrev pub called_routine : Call → RoutineId
called_routine (call r line given) = r

abbrev pub call_line : Call → ℕ
call_line (call r line given) = line

-- a call of a function behind those in its arguments, with the variable that stands for its value
abbrev pub one_call : Program → Routine → ℕ → List argument.Argument → Supply → MadeCalls
one_call p r line arguments n =
    let made = with_call p r line (record { arguments = arguments; calls = []; supply = n }) in
    record { variables = head_of made.term ∷ []; calls = made.calls; supply = made.supply }

-- the arguments that these are
abbrev pub arguments_at : Arena → List code_argument.Argument → List argument.Argument
arguments_at a given = map (argument_in a) given

-- a call of a function behind its arguments, with the variable that stands for its value
abbrev pub call_made : Program → Call → Argued → MadeCalls
call_made p (call r line others) given =
    let made = called_in p (routine_at p r) line given in record { variables = head_of made.term ∷ []; calls = made.calls; supply = made.supply }

-- what stands for parameters now
abbrev pub ArePresent : Arena → List TermId → List argument.Argument → Type 0
ArePresent a [] [] = ⊤
ArePresent a (t ∷ ts) (x ∷ xs) = IsTerm a t (argument.present_argument x) × ArePresent a ts xs
ArePresent a _ _ = ⊥

-- what stands for them has sorts
abbrev pub HaveSorts : List Shape → List Decl → List argument.Argument → Type 0
HaveSorts shapes decls [] = ⊤
HaveSorts shapes decls (x ∷ xs) = IsSome (term_sort shapes decls (argument.present_argument x)) × HaveSorts shapes decls xs

-- variables and what stands in their places, as heads and terms
abbrev pub AreAfter : Arena → List (Head × TermId) → List (Head × Term) → Type 0
AreAfter a [] [] = ⊤
AreAfter a (p ∷ ps) (q ∷ qs) = (p.0 ≡ q.0) × (IsTerm a p.1 q.1 × AreAfter a ps qs)
AreAfter a _ _ = ⊥

-- an INITIAL name, and what stands at the call for its item
abbrev pub initial_pair : Program → Routine → List argument.Argument → Symbol × Item → Head × Term
initial_pair p r arguments i = (
  head.Var i.0 (item_sort p (Some r) i.1) 0,
  substitute (replacing (argument.at_call p r.formals arguments)) (alone (item_head p (Some r) i.1)),
)

-- what is replaced in EXIT: the starts of value parameters, INITIAL names, and what `after` has
abbrev pub pairs_at_exit : Program → Routine → List argument.Argument → List (Head × Term) → List (Head × Term)
pairs_at_exit p r arguments after = argument.starts_at_call p r.formals arguments ++ (argument.initial_at_call p r arguments ++ after)

-- a call of a routine with these arguments, where `after` says what stands for its result, its VAR parameters and its VAR items
abbrev pub called_with : Program → Routine → ℕ → List argument.Argument → List (Head × Term) → Called
called_with p r line given after = record {
  args = map argument.present_argument given;
  needs = entry_at_call p r given;
  gives = exit_at_call p r given after;
  line = line;
}

pub record MakesCall (r : Result code_called.Called GenFault) (d : Called) (events : List Event) (a b : Arena) : Type 0 where
  pub grows : Extends a b
  pub walk : Answers r events a b
  pub call : IfOk r (λ c. IsCall b c d)

-- a term that is made by these events
pub record MakesBy (r : Result TermId GenFault) (x : Term) (events : List Event) (a b : Arena) : Type 0 where
  pub grows : Extends a b
  pub walk : Answers r events a b
  pub term : IfOk r (λ t. IsTerm b t x)

-- what stands for each parameter has its sort
abbrev pub FitFormals : Program → List Formal → List argument.Argument → Type 0
FitFormals p [] [] = ⊤
FitFormals p (f ∷ formals) (x ∷ xs) = (term_sort (shapes p) p.symbols (argument.present_argument x) ≡ Some (sort_of p.forms f.of)) × FitFormals p formals xs
FitFormals p _ _ = ⊥

-- what stands in the place of a variable or class has its sort
abbrev pub FitHeads : Program → List (Head × Term) → Type 0
FitHeads p [] = ⊤
FitHeads p (q ∷ qs) = (IsTrue (is_variable q.0) × (IsTrue (head_in_range (shapes p) q.0) × (term_sort (shapes p) p.symbols q.1 ≡ Some (variable_sort q.0)))) × FitHeads p qs

-- a call of a routine of a program, with its number, what stands for its parameters, and what stands for what it changes
pub record Calling : Type 0 where
  pub program : Program
  pub number : RoutineId
  pub routine : Routine
  pub arguments : List argument.Argument
  pub given : Argued
  pub after : List (Head × Term)

-- a routine of a well typed program, an arena for its terms, and arguments that fit
pub record IsAtCall (p : Program) (a : Arena) (number : RoutineId) (r : Routine) (arguments : List argument.Argument) : Type 0 where
  pub typed : IsTrue (well_typed p)
  pub shapes_are : a.shapes ≡ shapes p
  pub decls_are : a.decls ≡ p.symbols
  pub routine : routine_at p number ≡ Some r
  pub fit : FitFormals p r.formals arguments

-- the same of a routine, whatever its number
pub record IsCallable (p : Program) (a : Arena) (r : Routine) (arguments : List argument.Argument) : Type 0 where
  pub number : RoutineId
  pub at : IsAtCall p a number r arguments

-- a call of a function, and ids of arguments that fit it
pub record IsFunctionAt (p : Program) (a : Arena) (c : Call) (given : List code_argument.Argument) : Type 0 where
  pub routine : Routine
  pub at : IsAtCall p a (called_routine c) routine (arguments_at a given)
  pub there : AreArguments a given (arguments_at a given)

-- pairs of variables and the terms in their places, behind those that are there
pub record AddsPairs (r : Result ⊤ GenFault) (qs : List (Head × Term)) (a b : Arena) (old new : List (TermId × TermId)) : Type 0 where
  pub grows : Extends a b
  pub walk : Answers r (several (pair_terms qs)) a b
  pub pairs : (before : List (Head × Term)) → pairs_of a old ≡ before → ArePairs a old → OnOk r ((pairs_of b new ≡ before ++ qs) × ArePairs b new)

-- of the VAR parameters alone
abbrev pub changed_by_places : Program → List Formal → List argument.Argument → Supply → Changed
changed_by_places p [] arguments n = record { in_exit = []; after = []; supply = n }
changed_by_places p (f ∷ formals) [] n = record { in_exit = []; after = []; supply = n }
changed_by_places p (f ∷ formals) (argument.Given t ∷ arguments) n = changed_by_places p formals arguments n
changed_by_places p (f ∷ formals) (argument.AtPlace d ∷ arguments) n =
    let y = fresh_like (argument.formal_head p f) n in
    and_changed (argument.formal_head p f, alone y.head) (d.root, whole_with d (alone y.head)) (changed_by_places p formals arguments y.supply)

-- what a call changes, with what takes its place
pub record AreChanged (a : Arena) (n : Supply) (in_exit : List (Head × TermId)) (after : List (TermId × TermId)) (w : Changed) : Type 0 where
  pub in_exit_are : AreAfter a in_exit w.in_exit
  pub after_are : pairs_of a after ≡ w.after
  pub fit : ArePairs a after
  pub supply : n ≡ w.supply
  pub there : AreThere a n

-- the same behind what is there
pub record AddsChanged (r : Result ⊤ GenFault) (w : Changed) (a b : Arena) (old new : code_changed.Changed) (n : Supply) : Type 0 where
  pub grows : Extends a b
  pub walk : Answers r (several (pair_terms w.after)) a b
  pub in_exit : (before : List (Head × Term)) → AreAfter a old.in_exit.items before → OnOk r (AreAfter b new.in_exit.items (before ++ w.in_exit))
  pub after : ArePairs a old.after.items → OnOk r (pairs_of b new.after.items ≡ pairs_of a old.after.items ++ w.after)
  pub fit : ArePairs a old.after.items → OnOk r (ArePairs b new.after.items)
  pub supply : OnOk r (n ≡ w.supply)
  pub there : OnOk r (AreThere b n)

-- ---- on the way to a place

-- a place, and what stands there
pub record IsWay (a : Arena) (w : code_way.Way) : Type 0 where
  pub target : IsTarget a w.target
  pub term : IsTerm a w.term (present (target_in a w.target))

-- the place where the steps so far led, without calls
abbrev pub placed_at : Target → Supply → Placed
placed_at d n = record { target = d; calls = []; supply = n }

-- these arguments, without calls
abbrev pub argued_at : List argument.Argument → Supply → Argued
argued_at given n = record { arguments = given; calls = []; supply = n }

-- one step further
pub record AddsStep (r : Result ⊤ GenFault) (w : Placed) (events : List Event) (a b : Arena) (further : code_way.Way) (old new : List code_called.Called) (n : Supply) : Type 0 where
  pub grows : Extends a b
  pub walk : Answers r events a b
  pub way : OnOk r (IsWay b further)
  pub same : OnOk r (target_in b further.target ≡ w.target)
  pub calls : (before : List Called) → AreCalls a old before → OnOk r (AreCalls b new (before ++ w.calls))
  pub supply : OnOk r (n ≡ w.supply)
  pub there : OnOk r (AreThere b n)

-- one argument, with what stands for its parameter
pub record AddsArgument (r : Result code_argument.Argument GenFault) (w : Argued) (events : List Event) (a b : Arena) (old new : List code_called.Called) (n : Supply) : Type 0 where
  pub grows : Extends a b
  pub walk : Answers r events a b
  pub argument : IfOk r (λ t. AreArguments b (t ∷ []) w.arguments)
  pub calls : (before : List Called) → AreCalls a old before → IfOk r (λ t. AreCalls b new (before ++ w.calls))
  pub supply : IfOk r (λ t. n ≡ w.supply)
  pub there : IfOk r (λ t. AreThere b n)
