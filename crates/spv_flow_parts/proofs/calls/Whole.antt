-- Terms, places and arguments with all their calls.
use Rattle.std.proofs.Common.{◌≡◌, ℕ, true, List, [], Result, Ok, Err, IsErrAnd, Option, Some, sym, ap, subst, ◌∙◌}
use Rattle.spv_logic.specs.declared.conditions.TermId.{TermId}
use Rattle.spv_logic.specs.declared.conditions.RoutineId.{RoutineId}
use Rattle.spv_term.specs.Arena.{Arena}
use Rattle.spv_program.specs.declared.typed.expressions.Argument as text
use Rattle.spv_program.specs.typed.ExpressionViews.{arguments_of}
use Rattle.spv_program.specs.Expressions.{Call, Arguments, call}
use Rattle.spv_program.specs.Programs.{Routine, Program, routine_in}
use Rattle.spv_program.specs.Supplies.{Supply}
use Rattle.spv_program.specs.ExpressionTypes.{arguments_fit, callee}
use Rattle.spv_program.specs.ExpressionTerms.{Valued, Placed, argued}
use Rattle.spv_assign.specs.declared.creation_trace.faults.GenFault.{GenFault}
use Rattle.spv_assign.specs.declared.structures.places.Target as code_target
use Rattle.spv_assign.specs.creation_trace.Events.{Event}
use Rattle.spv_assign.proofs.limited_steps.Limits.{same_stop}
use Rattle.spv_flow_parts.specs.declared.leaves.valued.Called as code_called
use Rattle.spv_flow_parts.specs.declared.leaves.valued.Valued as code_valued
use Rattle.spv_flow_parts.specs.declared.calls.passed.Argument as code_argument
use Rattle.spv_flow_parts.specs.declared.calls.passed.Placed as code_placed
use Rattle.spv_flow_parts.specs.declared.calls.passed.Argued as code_argued
use Rattle.spv_flow_parts.specs.leaves.Values.{AreCalls, MakesValue}
use Rattle.spv_flow_parts.specs.calls.Arguments.{AddsArguments, AddsPlace, AddsValue, FitParameters, IsCallOf, MakesArguments, MakesPlace, arguments_in}
use Rattle.spv_flow_parts.specs.calls.Events.{argument_events}
use Rattle.spv_flow_parts.proofs.calls.Typed.{callee_is}

no_calls : (a : Arena) (cs : List code_called.Called) → cs ≡ [] → AreCalls a cs []
no_calls a cs none = subst (λ (l : List code_called.Called). AreCalls a l []) (sym none) tt

module _ (events : List Event) (a b : Arena) (old new : List code_called.Called) (n : Supply) where
  pub value_whole : (w : Valued) (t : TermId) → old ≡ [] → AddsValue (Ok t) w events a b old new n → MakesValue (Ok (record { term = t; calls = new })) w events a b n
  value_whole w t none h = record {
    grows = h.grows;
    walk = h.walk;
    value = record { term = h.term; calls = h.calls [] (no_calls a old none); supply = h.supply; there = h.there };
  }

  pub value_fails : (w : Valued) (r : Result code_valued.Valued GenFault) (e : GenFault) → IsErrAnd r (λ f. f ≡ e) → AddsValue (Err e) w events a b old new n → MakesValue r w events a b n
  value_fails w (Ok v) e is h = absurd is
  value_fails w (Err f) e is h = record { grows = h.grows; walk = same_stop {X = code_valued.Valued} (Err f) e events a b is h.walk; value = tt }

  pub place_whole : (w : Placed) (t : code_target.Target) → old ≡ [] → AddsPlace (Ok t) w events a b old new n → MakesPlace (Ok (record { target = t; calls = new })) w events a b n
  place_whole w t none h = record {
    grows = h.grows;
    walk = h.walk;
    place = record { target = h.target; same = h.same; calls = h.calls [] (no_calls a old none); supply = h.supply; there = h.there };
  }

  pub place_fails : (w : Placed) (r : Result code_placed.Placed GenFault) (e : GenFault) → IsErrAnd r (λ f. f ≡ e) → AddsPlace (Err e) w events a b old new n → MakesPlace r w events a b n
  place_fails w (Ok v) e is h = absurd is
  place_fails w (Err f) e is h = record { grows = h.grows; walk = same_stop {X = code_placed.Placed} (Err f) e events a b is h.walk; place = tt }

-- ---- the arguments of a call

module _ (p : Program) (here : Option RoutineId) (c : Call) (id : RoutineId) (line : ℕ) (items slice : List text.Argument) (view : call id line (arguments_of items) ≡ c) (value : slice ≡ items) where
  given_is : arguments_of slice ≡ arguments_in c
  given_is = ap arguments_of value ∙ ap arguments_in view

  pub given_fits : (r : Routine) → IsCallOf p here c r → FitParameters p here (arguments_of slice)
  given_fits r h =
      let callee = callee_is p here id line (arguments_of items) r (subst (λ (k : Call). callee p (routine_in p here) k ≡ Some r) (sym view) h.called) in
      record { formals = r.formals; fit = subst (λ (l : Arguments). arguments_fit p (routine_in p here) r.formals l ≡ true) (ap arguments_of (sym value)) callee.fit }

  module _ (n : Supply) (a b : Arena) (old new : List code_called.Called) (m : Supply) where
    abbrev within : Option Routine
    within = routine_in p here

    pub arguments_whole : (ts : List code_argument.Argument) → old ≡ [] → AddsArguments (Ok ts) (argued p within n (arguments_of slice)) (argument_events p within n (arguments_of slice)) a b old new m
        → MakesArguments (Ok (record { arguments = ts; calls = new })) (argued p within n (arguments_in c)) (argument_events p within n (arguments_in c)) a b m
    arguments_whole ts none h =
        subst (λ (l : Arguments). MakesArguments (Ok (record { arguments = ts; calls = new })) (argued p within n l) (argument_events p within n l) a b m) given_is (record {
          grows = h.grows;
          walk = h.walk;
          arguments = record { arguments = h.arguments; calls = h.calls [] (no_calls a old none); supply = h.supply; there = h.there };
        })

    pub arguments_fail : (r : Result code_argued.Argued GenFault) (e : GenFault) → IsErrAnd r (λ f. f ≡ e) → AddsArguments (Err e) (argued p within n (arguments_of slice)) (argument_events p within n (arguments_of slice)) a b old new m
        → MakesArguments r (argued p within n (arguments_in c)) (argument_events p within n (arguments_in c)) a b m
    arguments_fail (Ok v) e is h = absurd is
    arguments_fail (Err f) e is h =
        subst (λ (l : Arguments). MakesArguments (Err f) (argued p within n l) (argument_events p within n l) a b m) given_is (record { grows = h.grows; walk = same_stop {X = code_argued.Argued} (Err f) e (argument_events p within n (arguments_of slice)) a b is h.walk; arguments = tt })
