-- What the rules of IF, CASE and loops make beside the conditions before their parts.
use Rattle.std.specs.Prelude.{◌≡◌, ◌<◌, ℕ, ℤ, ◌+◌, List, [], ◌∷◌, ◌++◌, length, Option, Some, Result, IfOk, IsTrue}
use Rattle.spv_logic.specs.declared.conditions.Kind.TheVariants as kind
use Rattle.spv_logic.specs.declared.conditions.RoutineId.{RoutineId}
use Rattle.spv_logic.specs.declared.types.Sort.{Sort}
use Rattle.spv_logic.specs.declared.types.Sort.TheVariants as sort
use Rattle.spv_logic.specs.Terms.{Term}
use Rattle.spv_logic.specs.Conditions.{Condition}
use Rattle.spv_term.specs.Arena.{Arena, Extends, sort_at}
use Rattle.spv_program.specs.Expressions.{Expression}
use Rattle.spv_program.specs.Formulas.{Annotation}
use Rattle.spv_program.specs.Statements.{Counting}
use Rattle.spv_program.specs.Programs.{Program, routine_in}
use Rattle.spv_program.specs.ExpressionTypes.{expression_sort}
use Rattle.spv_program.specs.Supplies.{Supply}
use Rattle.spv_program.specs.Terms.{alone}
use Rattle.spv_program.specs.ExpressionTerms.{Valued}
use Rattle.spv_assign.specs.supply.Numbers.{AreThere}
use Rattle.spv_assign.specs.Conditions.{all_terms_in}
use Rattle.spv_meaning.specs.Before.{Made, Renamed, all_assuming, negated, is_label, next_term, before_calls, annotation_term, wanted_if_there, wanted_with}
use Rattle.spv_assign.specs.declared.creation_trace.faults.GenFault.{GenFault}
use Rattle.spv_assign.specs.creation_trace.Events.{Event, Answers}
use Rattle.spv_assign.specs.creation_trace.StatementEvents.{one, one_if_there, several, counted, in_order, loop_events}
use Rattle.spv_assign.specs.limited_steps.Makes.{IsTerm}
use Rattle.spv_flow_parts.specs.Standing.{AreNotes}
use Rattle.spv_flow_parts.specs.Walks.{AreThese, Comes, IsNoted, Listed}
use Rattle.spv_flow_parts.specs.for_loops.Counting.{number_head, counter_terms, ended_made, ended_events}
use Rattle.spv_flow_parts.specs.declared.leaves.valued.Valued as made
use Rattle.spv_flow_parts.specs.leaves.Parts.{Taking}
use Rattle.spv_flow_parts.specs.leaves.Values.{AreCalls, call_events}
use Rattle.spv_flow.specs.statement_rules.Events.{end_call_events}
use Rattle.spv_flow.specs.declared.statement_rules.loops.LoopTerms.{LoopTerms}
use Rattle.spv_flow.specs.declared.statement_rules.loops.Begun.{Begun}
use Rattle.spv_flow.specs.declared.statement_rules.counting.ForTerms.{ForTerms}
use Rattle.spv_flow.specs.declared.statement_rules.counting.ForEnds.{ForEnds}
use Rattle.spv_flow.specs.declared.statement_rules.counting.BegunFor.{BegunFor}

-- ---- two ways

-- conditions under one hypothesis, and behind them others under another one
abbrev pub ways_made : Term → Term → List Condition → List Condition → List Condition
ways_made x y first second = all_assuming x first ++ all_assuming y second

-- the negated test, and the list of both ways
abbrev pub ways_events : Term → List Condition → List Condition → List (List Event)
ways_events x first second = one (negated x) ∷ counted (length first + length second) ∷ []

-- ---- arms

-- the conditions of the arms so far, and behind them those of one arm, where the value is one of its labels
abbrev pub arm_made : Term → List ℤ → List Condition → List Condition → List Condition
arm_made x labels so_far conditions = so_far ++ all_assuming (is_label x labels) conditions

abbrev pub arm_events : Term → List ℤ → ℕ → List Condition → List (List Event)
arm_events x labels so_far conditions = one (is_label x labels) ∷ counted (so_far + length conditions) ∷ []

-- ---- expressions

-- an expression of this sort that is taken
pub record IsTestOf (taking : Taking) (p : Program) (here : Option RoutineId) (e : Expression) (s : Sort) : Type 0 where
  pub taken : IsTrue (taking.test e)
  pub sorted : expression_sort p (routine_in p here) e ≡ Some s

-- the term of an expression and its calls, of this sort
pub record IsValueOf (a : Arena) (v : made.Valued) (w : Valued) (s : Sort) : Type 0 where
  pub term : IsTerm a v.term w.term
  pub calls : AreCalls a v.calls w.calls
  pub sorted : sort_at a v.term ≡ s

pub record HasValue (a : Arena) (v : made.Valued) (s : Sort) : Type 0 where
  pub value : Valued
  pub is : IsValueOf a v value s

-- both ways, behind the calls of their test
abbrev pub tested_made : Option RoutineId → Valued → List Condition → List Condition → List Condition
tested_made here w first second = before_calls here w.calls (ways_made w.term (negated w.term) first second)

abbrev pub tested_events : Option RoutineId → Valued → List Condition → List Condition → List (List Event)
tested_events here w first second =
    one (negated w.term)
    ∷ counted (length first + length second)
    ∷ call_events here w.calls (ways_made w.term (negated w.term) first second)
    ∷ []

-- ---- loops with a test

-- a test, and an annotation that may be there
pub record IsTested (taking : Taking) (p : Program) (here : Option RoutineId) (e : Expression) (f : Option Annotation) : Type 0 where
  pub value : IsTestOf taking p here e sort.Bool
  pub notes : AreNotes p here f

pub record AreLoopTerms (a : Arena) (p : Program) (here : Option RoutineId) (t : LoopTerms) (w : Valued) (f : Option Annotation) : Type 0 where
  pub test : IsValueOf a t.test w sort.Bool
  pub note : IsNoted a p here t.note f

-- the terms of a loop, these conditions behind its body, and the fresh variables that are left
pub record IsBegun (a : Arena) (p : Program) (here : Option RoutineId) (n : Supply) (b : Begun) (w : Valued) (f : Option Annotation) (conditions : List Condition) : Type 0 where
  pub known : AreLoopTerms a p here b.terms w f
  pub behind : AreThese a b.behind.items conditions
  pub supply : n ≡ w.supply
  pub there : AreThere a n

-- all of it was made by these events, or the limit was met that they meet first
pub record Begins (r : Result Begun GenFault) (p : Program) (here : Option RoutineId) (f : Option Annotation) (w : Valued) (conditions : List Condition) (events : List (List Event)) (a b : Arena) (n : Supply) : Type 0 where
  pub grows : Extends a b
  pub walk : Answers r (in_order events) a b
  pub begun : IfOk r (λ o. IsBegun b p here n o w f conditions)

-- the events of the test, and the annotation
abbrev pub while_begin : Program → Option RoutineId → Option Annotation → List Event → List (List Event)
while_begin p here f test = test ∷ one_if_there (annotation_term p here f) ∷ []

-- behind the body of a REPEAT: it goes on, and its annotation is wanted, or it ends
abbrev pub repeat_uses : Program → Option RoutineId → Option Annotation → Term → List Condition → List Condition
repeat_uses p here f x conditions = ways_made (negated x) x (wanted_if_there p here kind.Preserved f) conditions

abbrev pub repeat_begin : Program → Option RoutineId → Option Annotation → List Event → Valued → List Condition → List (List Event)
repeat_begin p here f test w conditions =
    test
    ∷ one_if_there (annotation_term p here f)
    ∷ one (negated w.term)
    ∷ counted (length (repeat_uses p here f w.term conditions))
    ∷ call_events here w.calls (repeat_uses p here f w.term conditions)
    ∷ []

-- behind the conditions before the body of a WHILE: the way into the body, the way out, the calls of the test, and the loop
abbrev pub while_end : Program → Option RoutineId → Option Annotation → Renamed → Valued → List Condition → List Condition → List (List Event)
while_end p here f fresh w turn conditions =
    one (negated w.term)
    ∷ counted (length (ways_made w.term (negated w.term) turn conditions))
    ∷ call_events here w.calls (ways_made w.term (negated w.term) turn conditions)
    ∷ loop_events p here f fresh (tested_made here w turn conditions)
    ∷ []

-- ---- FOR

-- the ends of a FOR are numbers, and are taken
pub record IsCounted (taking : Taking) (p : Program) (here : Option RoutineId) (count : Counting) : Type 0 where
  pub first : IsTestOf taking p here count.first sort.Int
  pub last : IsTestOf taking p here count.last sort.Int

pub record AreForEnds (a : Arena) (n : Supply) (e : ForEnds) (w u : Valued) : Type 0 where
  pub first : IsValueOf a e.first w sort.Int
  pub last : IsValueOf a e.last u sort.Int
  pub supply : n ≡ u.supply
  pub there : AreThere a n

pub record EndsBegin (r : Result ForEnds GenFault) (w u : Valued) (events : List (List Event)) (a b : Arena) (n : Supply) : Type 0 where
  pub grows : Extends a b
  pub walk : Answers r (in_order events) a b
  pub ends : IfOk r (λ e. AreForEnds b n e w u)

pub record AreForTerms (a : Arena) (p : Program) (here : Option RoutineId) (t : ForTerms) (w u : Valued) (f : Option Annotation) (count : Counting) : Type 0 where
  pub first : IsValueOf a t.first w sort.Int
  pub last : IsValueOf a t.last u sort.Int
  pub note : IsNoted a p here t.note f
  pub variable : IsTerm a t.variable (alone (number_head count.variable))
  pub variable_number : sort_at a t.variable ≡ sort.Int

pub record IsBegunFor (a : Arena) (p : Program) (here : Option RoutineId) (n : Supply) (b : BegunFor) (w u : Valued) (f : Option Annotation) (count : Counting) (conditions : List Condition) : Type 0 where
  pub known : AreForTerms a p here b.terms w u f count
  pub behind : AreThese a b.behind.items conditions
  pub supply : n ≡ u.supply
  pub there : AreThere a n

pub record BeginsFor (r : Result BegunFor GenFault) (p : Program) (here : Option RoutineId) (f : Option Annotation) (count : Counting) (w u : Valued) (conditions : List Condition) (events : List (List Event)) (a b : Arena) (n : Supply) : Type 0 where
  pub grows : Extends a b
  pub walk : Answers r (in_order events) a b
  pub begun : IfOk r (λ o. IsBegunFor b p here n o w u f count conditions)

-- what is asked of the terms of a FOR at its end
pub record MayEndFor (a : Arena) (p : Program) (here : Option RoutineId) (t : ForTerms) (f : Option Annotation) (count : Counting) : Type 0 where
  pub first : t.first.term.0 < length a.nodes
  pub first_number : sort_at a t.first.term ≡ sort.Int
  pub last : t.last.term.0 < length a.nodes
  pub last_number : sort_at a t.last.term ≡ sort.Int
  pub note : IsNoted a p here t.note f
  pub variable : IsTerm a t.variable (alone (number_head count.variable))
  pub variable_number : sort_at a t.variable ≡ sort.Int

-- the annotation with the next value in the place of the variable
abbrev pub next_wanted : Program → Option RoutineId → Option Annotation → Counting → List Condition
next_wanted p here f count =
    wanted_with p here kind.Preserved (number_head count.variable) (next_term count.direction (alone (number_head count.variable))) f

abbrev pub for_begin : Program → Option RoutineId → Option Annotation → Counting → List Event → List Event → List (List Event)
for_begin p here f count first last =
    first
    ∷ last
    ∷ one_if_there (annotation_term p here f)
    ∷ several (counter_terms count.direction (number_head count.variable))
    ∷ several (all_terms_in (next_wanted p here f count))
    ∷ []

-- all that comes behind the conditions of the body, with the calls of the ends in front
abbrev pub for_made : Program → Option RoutineId → Option Annotation → Counting → Valued → Valued → Renamed → List Condition → List Condition → Made
for_made p here f count w u fresh turn conditions =
    let ended = ended_made p here f count.direction (number_head count.variable) w.term u.term fresh turn conditions in
    record { conditions = before_calls here (w.calls ++ u.calls) ended.conditions; supply = ended.supply }

abbrev pub for_end : Program → Option RoutineId → Option Annotation → Counting → Valued → Valued → Renamed → List Condition → List Condition → List (List Event)
for_end p here f count w u fresh turn conditions =
    ended_events p here f count.direction (number_head count.variable) w.term u.term fresh turn conditions
    ∷ end_call_events here w.calls u.calls (ended_made p here f count.direction (number_head count.variable) w.term u.term fresh turn conditions).conditions

abbrev pub EndsFor : Listed → Program → Option RoutineId → Option Annotation → Counting → Valued → Valued → Renamed → List Condition → List Condition → Arena → Arena → Supply → Type 0
EndsFor r p here f count w u fresh turn conditions a b n =
    Comes r (for_made p here f count w u fresh turn conditions) (in_order (for_end p here f count w u fresh turn conditions)) a b n
