-- The conditions before a call of a procedure, with the calls in its arguments in front.
use Rattle.std.proofs.Common.{◌≡◌, Bool, true, false, cond, not, List, [], ◌∷◌, Option, Some, None, option_and_then, Ok, Err, IsErrAnd, refl, sym, ap, subst, ◌∙◌}
use Rattle.std.proofs.lemmas.Bool.{false≢true}
use Rattle.spv_logic.proofs.list.Tests.{left_true, right_true}
use Rattle.spv_logic.proofs.Equality.{sort_eq-true}
use Rattle.spv_logic.specs.Terms.{sort_eq}
use Rattle.spv_logic.specs.declared.types.TypeId.{TypeId}
use Rattle.spv_logic.specs.declared.conditions.RoutineId.{RoutineId}
use Rattle.spv_logic.specs.Conditions as logic
use Rattle.spv_term.specs.declared.nodes.Condition.{Condition}
use Rattle.spv_term.specs.Arena.{Arena, Extends}
use Rattle.spv_program.specs.Types.{form_at, sort_of, bounds_of, same_bounds}
use Rattle.spv_program.specs.Programs.{Formal, Routine, Program, routine_at, routine_in}
use Rattle.spv_program.specs.Expressions.{Arguments, Call, call, no_arguments, by_value, by_place}
use Rattle.spv_program.specs.ExpressionTypes.{arguments_fit, callee, designator_type, expression_sort, may_write, stands_for}
use Rattle.spv_program.specs.FormulaTypes.{is_sort}
use Rattle.spv_program.specs.ExpressionTerms.{Argued, argued, placed}
use Rattle.spv_program.specs.Calls as argument
use Rattle.spv_program.specs.Places.{present}
use Rattle.spv_program.specs.Laws.{HasSort}
use Rattle.spv_program.specs.Statements.{Empty}
use Rattle.spv_program.specs.Supplies.{Supply}
use Rattle.spv_program.specs.Typing.{is_procedure}
use Rattle.spv_program.proofs.SortFacts.{is_sort-true}
use Rattle.spv_program.proofs.ExpressionSorting.{place_sorted, value_sorted}
use Rattle.spv_assign.specs.declared.pending.pending.Pending.{Pending}
use Rattle.spv_assign.specs.Conditions.{AreIn, conditions_of}
use Rattle.spv_assign.proofs.Growing.{conditions_of-Extends}
use Rattle.spv_meaning.specs.Before.{Made, before_call, before_calls, before_entering}
use Rattle.spv_assign.specs.declared.creation_trace.faults.GenFault.{GenFault}
use Rattle.spv_assign.specs.creation_trace.Events.{Event, Walked, Stops}
use Rattle.spv_assign.proofs.creation_trace.Walks.{nothing_walked}
use Rattle.spv_flow_parts.specs.Walks.{AreThese, Comes, ComesTo, Listed, made_of}
use Rattle.spv_flow_parts.specs.leaves.Values.{call_events}
use Rattle.spv_flow_parts.specs.calls.Arguments.{FitFormals, argued_at, arguments_in, call_line, called_routine}
use Rattle.spv_flow_parts.specs.calls.Events.{argument_events, entering_events, perform_events}
use Rattle.spv_flow_parts.proofs.Steps.{comes_as, comes_last, exit, went}

-- ---- the routine of a call

abbrev pub routine_or_none : Option Routine → Routine
routine_or_none (Some r) = r
routine_or_none None = record {
  name = record { 0 = 0 };
  line = 0;
  formals = [];
  result = None;
  globals = [];
  initial = [];
  entry = None;
  exit = None;
  locals = [];
  body = Empty;
}

abbrev pub routine_of_call : Program → Call → Routine
routine_of_call p c = routine_or_none (routine_at p (called_routine c))

-- the routine of a well typed call is there, and the arguments fit
pub record IsCalled (p : Program) (here : Option RoutineId) (c : Call) : Type 0 where
  pub callee_is : callee p (routine_in p here) c ≡ Some (routine_of_call p c)
  pub routine_is : routine_at p (called_routine c) ≡ Some (routine_of_call p c)
  pub fit : arguments_fit p (routine_in p here) (routine_of_call p c).formals (arguments_in c) ≡ true

pub is_called : (p : Program) (here : Option RoutineId) (c : Call) → is_procedure (callee p (routine_in p here) c) ≡ true → IsCalled p here c
is_called p here (call n line given) h = by (routine_at p n) refl h
  where
    by : (o : Option Routine) → routine_at p n ≡ o → is_procedure (option_and_then (λ called. cond (arguments_fit p (routine_in p here) called.formals given) (Some called) None) o) ≡ true → IsCalled p here (call n line given)
    by None is h = absurd (false≢true h)
    by (Some r) is h = by_fit (arguments_fit p (routine_in p here) r.formals given) refl h
      where
        by_fit : (b : Bool) → arguments_fit p (routine_in p here) r.formals given ≡ b → is_procedure (cond b (Some r) None) ≡ true → IsCalled p here (call n line given)
        by_fit false fits h = absurd (false≢true h)
        by_fit true fits h =
            let same : r ≡ routine_of_call p (call n line given) = ap routine_or_none (sym is) in
            record {
              callee_is =
                  ap (λ o. option_and_then (λ called. cond (arguments_fit p (routine_in p here) called.formals given) (Some called) None) o) is
                  ∙ ap (λ b. cond b (Some r) None) fits ∙ ap Some same;
              routine_is = is ∙ ap Some same;
              fit = ap (λ (q : Routine). arguments_fit p (routine_in p here) q.formals given) (sym same) ∙ fits;
            }

-- ---- arguments fit

place_stands : (p : Program) (t : TypeId) (o : Option TypeId) (u : TypeId) → o ≡ Some u → stands_for p t o ≡ true → sort_of p.forms t ≡ sort_of p.forms u
place_stands p t o u is h =
    sort_eq-true (sort_of p.forms t) (sort_of p.forms u)
    (left_true (sort_eq (sort_of p.forms t) (sort_of p.forms u)) (same_bounds (bounds_of (form_at p.forms t.0)) (bounds_of (form_at p.forms u.0))) (ap (stands_for p t) (sym is) ∙ h))

pub arguments_sorted : (p : Program) (here : Option Routine) (formals : List Formal) (given : Arguments) (n : Supply) → arguments_fit p here formals given ≡ true → FitFormals p formals (argued p here n given).arguments
arguments_sorted p here [] no_arguments n h = tt
arguments_sorted p here [] (by_value e others) n h = absurd (false≢true h)
arguments_sorted p here [] (by_place d others) n h = absurd (false≢true h)
arguments_sorted p here (f ∷ formals) no_arguments n h = absurd (false≢true h)
arguments_sorted p here (f ∷ formals) (by_value e others) n h =
    let rest = right_true (not f.by_place) _ h in (
      value_sorted p here n e (sort_of p.forms f.of) (is_sort-true (sort_of p.forms f.of) (expression_sort p here e) (left_true (is_sort (sort_of p.forms f.of) (expression_sort p here e)) _ rest)),
      arguments_sorted p here formals others _ (right_true (is_sort (sort_of p.forms f.of) (expression_sort p here e)) _ rest),
    )
arguments_sorted p here (f ∷ formals) (by_place d others) n h =
    let rest = right_true (may_write here d) _ (right_true f.by_place _ h) in (
      by (designator_type p here d) refl (left_true (stands_for p f.of (designator_type p here d)) _ rest),
      arguments_sorted p here formals others _ (right_true (stands_for p f.of (designator_type p here d)) _ rest),
    )
  where
    by : (o : Option TypeId) → designator_type p here d ≡ o → stands_for p f.of o ≡ true → HasSort p (present (placed p here n d).target) (sort_of p.forms f.of)
    by None is stands = absurd (false≢true stands)
    by (Some u) is stands = place_sorted p here n d u is ∙ ap Some (sym (place_stands p f.of (Some u) u refl stands))

-- ---- the conditions

module _ (p : Program) (here : Option RoutineId) (n : Supply) (a : Arena) (rest : List Condition) (within : AreIn a rest) where
  abbrev cs : List logic.Condition
  cs = conditions_of a rest

  abbrev given_in : Call → Argued
  given_in c = argued p (routine_in p here) n (arguments_in c)

  abbrev made_events : Call → List Event
  made_events c = argument_events p (routine_in p here) n (arguments_in c)

  abbrev so : Call → Made
  so c = before_call p here c (made_of a rest n)

  abbrev all : Call → List Event
  all c = perform_events p here c (made_of a rest n)

  pub arguments_stop : (c : Call) (o : Listed) (e : GenFault) (b : Arena) (m : Supply) → IsErrAnd o (λ f. f ≡ e) → Extends a b → Stops e (made_events c) a b → Comes o (so c) (all c) a b m
  arguments_stop (call r line given) o e b m is grows stops = exit o e (so (call r line given)) m [] (made_events (call r line given)) (_ ∷ _ ∷ []) is (nothing_walked a) grows stops

  module _ (b : Arena) (m : Supply) (grows : Extends a b) (xs : List argument.Argument) where
    same_entering : (c : Call) (r : Routine) → routine_at p (called_routine c) ≡ Some r → xs ≡ (given_in c).arguments → m ≡ (given_in c).supply
        → (P : Made → List Event → Type 0) → P (before_entering p here (call_line c) (Some r) (argued_at xs m) (conditions_of b rest)) (entering_events p here (call_line c) (Some r) (argued_at xs m) (conditions_of b rest))
        → P (before_entering p here (call_line c) (routine_at p (called_routine c)) (given_in c) cs) (entering_events p here (call_line c) (routine_at p (called_routine c)) (given_in c) cs)
    same_entering c r is xs_are m_is P h =
        subst (λ (o : Option Routine). P (before_entering p here (call_line c) o (given_in c) cs) (entering_events p here (call_line c) o (given_in c) cs)) (sym is)
        (subst (λ (l : List logic.Condition). P (before_entering p here (call_line c) (Some r) (given_in c) l) (entering_events p here (call_line c) (Some r) (given_in c) l)) (conditions_of-Extends grows rest within)
        (subst (λ (s : Supply). P (before_entering p here (call_line c) (Some r) (argued_at (given_in c).arguments s) (conditions_of b rest)) (entering_events p here (call_line c) (Some r) (argued_at (given_in c).arguments s) (conditions_of b rest))) m_is
        (subst (λ (l : List argument.Argument). P (before_entering p here (call_line c) (Some r) (argued_at l m) (conditions_of b rest)) (entering_events p here (call_line c) (Some r) (argued_at l m) (conditions_of b rest))) xs_are h)))

    pub entering_stops : (c : Call) (r : Routine) → Walked (made_events c) a b → routine_at p (called_routine c) ≡ Some r → xs ≡ (given_in c).arguments → m ≡ (given_in c).supply → (o : Listed) (e : GenFault) (d : Arena) (k : Supply) → IsErrAnd o (λ f. f ≡ e)
        → Comes (Err e) (before_entering p here (call_line c) (Some r) (argued_at xs m) (conditions_of b rest)) (entering_events p here (call_line c) (Some r) (argued_at xs m) (conditions_of b rest)) b d k
        → Comes o (so c) (all c) a d k
    entering_stops (call i line given) r walked is xs_are m_is o e d k told h =
        let c = call i line given in
        let stops = same_entering c r is xs_are m_is (λ x y. Comes (Err e) x y b d k) h in
        exit o e (so c) k (made_events c ∷ []) (entering_events p here line (routine_at p i) (given_in c) cs) (_ ∷ []) told (went [] (made_events c) (nothing_walked a) walked) stops.grows stops.walk

    pub performed : (c : Call) (r : Routine) → Walked (made_events c) a b → routine_at p (called_routine c) ≡ Some r → xs ≡ (given_in c).arguments → m ≡ (given_in c).supply → (o : Listed) (v : Pending) (d : Arena) (k : Supply)
        → Comes (Ok v) (before_entering p here (call_line c) (Some r) (argued_at xs m) (conditions_of b rest)) (entering_events p here (call_line c) (Some r) (argued_at xs m) (conditions_of b rest)) b d k
        → ((ds : List logic.Condition) → Extends b d → AreThese d v.items ds → ComesTo o (before_calls here (given_in c).calls ds) (call_events here (given_in c).calls ds) d d)
        → Comes o (so c) (all c) a d k
    performed (call i line given) r walked is xs_are m_is o v d k h front =
        let c = call i line given in
        let made = before_entering p here line (routine_at p i) (given_in c) cs in
        let first = same_entering c r is xs_are m_is (λ x y. Comes (Ok v) x y b d k) h in
        let w1 = went [] (made_events c) (nothing_walked a) walked in
        let w2 = went (made_events c ∷ []) (entering_events p here line (routine_at p i) (given_in c) cs) w1 first.walk in
        comes_last o (so c) k (made_events c ∷ entering_events p here line (routine_at p i) (given_in c) cs ∷ []) (call_events here (given_in c).calls made.conditions) w2
        (comes_as (so c) k o (record { conditions = (so c).conditions; supply = k }) (call_events here (given_in c).calls made.conditions) (call_events here (given_in c).calls made.conditions)
        (ap (λ (s : Supply). record { conditions = (so c).conditions; supply = s }) first.made.supply) refl
        (front made.conditions first.grows first.made.conditions k first.made.there))
