-- The loops over selectors and arguments, one turn after the other.
use Rattle.std.specs.Bool.{⊤}
use Rattle.std.proofs.Common.{◌≡◌, ◌<◌, ◌≤◌, ◌+◌, ℕ, zero, suc, List, [], ◌∷◌, ◌++◌, length, drop, get_or, Result, Ok, Err, IsErrAnd, Option, refl, sym, ap, subst, ◌∙◌, arith}
use Rattle.std.proofs.lemmas.List.{append_assoc, append-nil, drop_more}
use Rattle.spv_logic.specs.declared.operators.Head.{Head}
use Rattle.spv_logic.specs.declared.conditions.RoutineId.{RoutineId}
use Rattle.spv_term.specs.Arena.{Arena}
use Rattle.spv_term.proofs.ArenaLemmas.{Extends-trans}
use Rattle.spv_program.specs.declared.typed.expressions.Selector.{Selector}
use Rattle.spv_program.specs.declared.typed.expressions.Selector.TheVariants as selector
use Rattle.spv_program.specs.declared.typed.expressions.Argument as text
use Rattle.spv_program.specs.declared.typed.expressions.Argument.TheVariants as text_argument
use Rattle.spv_program.specs.typed.ExpressionViews.{selector_before, argument_before, arguments_of}
use Rattle.spv_program.specs.typed.Model.ExpressionSizes.{arguments_size, designator_size, expression_size}
use Rattle.spv_program.specs.Expressions.{Expression, Designator, Selectors, Call, Arguments, no_selectors, no_arguments}
use Rattle.spv_program.specs.Programs.{Routine, Program, routine_in}
use Rattle.spv_program.specs.Supplies.{Supply}
use Rattle.spv_program.specs.Calls as spec_argument
use Rattle.spv_program.specs.Places.{present}
use Rattle.spv_program.specs.ExpressionTerms.{Called, Argued, argued, placed, valued}
use Rattle.spv_expression_terms.specs.term_walk.OuterCalls.{MadeCalls, made_calls, outer_calls, selectors_outer_calls}
use Rattle.spv_assign.specs.declared.creation_trace.faults.GenFault.{GenFault}
use Rattle.spv_assign.specs.creation_trace.Events.{Event, Stops}
use Rattle.spv_assign.specs.creation_trace.StatementEvents.{one}
use Rattle.spv_assign.specs.supply.Numbers.{AreThere}
use Rattle.spv_assign.proofs.creation_trace.Walks.{nothing_walked, walked_behind, stopped_first, stopped_behind}
use Rattle.spv_assign.proofs.limited_steps.Limits.{same_stop}
use Rattle.spv_flow_parts.specs.declared.leaves.valued.Called as code_called
use Rattle.spv_flow_parts.specs.declared.calls.passed.Argument as code_argument
use Rattle.spv_flow_parts.specs.leaves.Values.{AreCalls}
use Rattle.spv_flow_parts.specs.calls.Arguments.{AddsArgument, AddsArguments, AddsCalls, AreArguments, AreSelectors, FitParameters, IsExpression, IsPlace}
use Rattle.spv_flow_parts.specs.calls.Events.{argument_events, calls_in_value, calls_in_place, made_events}
use Rattle.spv_flow_parts.proofs.calls.Adding.{adds_none, adds_stop, adds_as}
use Rattle.spv_flow_parts.proofs.calls.MadeEvents.{made_events_both}
use Rattle.spv_flow_parts.proofs.calls.Passing.{AreArguments-Extends}
use Rattle.spv_flow_parts.proofs.calls.SoFar.{SelectorsSoFar, ArgumentsSoFar}
use Rattle.spv_flow_parts.proofs.calls.Typed.{first_selector, other_selectors, first_argument, other_arguments, by_value_typed, by_place_typed}
use Rattle.spv_flow_parts.proofs.calls.ValueTerms.{more_added}

-- ---- sizes

-- what is left begins with the next item
pub next_is : {X : Type 0} (xs : List X) (i : ℕ) (x : X) → i < length xs → x ≡ get_or xs i x → drop i xs ≡ x ∷ drop (i + 1) xs
next_is xs i x below is = drop_more xs i x below ∙ ap (λ y. y ∷ drop (i + 1) xs) (sym is)

pub argument_within : (xs : List text.Argument) (i : ℕ) (d : text.Argument) → i < length xs → arguments_size (argument_before (get_or xs i d) no_arguments) ≤ arguments_size (arguments_of xs)
argument_within [] i d h = absurd (omega arith)
argument_within (text_argument.Value e ∷ xs) zero d h = omega arith
argument_within (text_argument.Place e ∷ xs) zero d h = omega arith
argument_within (text_argument.Value e ∷ xs) (suc i) d h = omega (arith, argument_within xs i d (omega arith))
argument_within (text_argument.Place e ∷ xs) (suc i) d h = omega (arith, argument_within xs i d (omega arith))

pub value_smaller : (x : text.Argument) (e : _) (d : Expression) → x ≡ text_argument.Value e → d ≡ e.value → expression_size d < arguments_size (argument_before x no_arguments)
value_smaller x e d is same = subst (λ y. expression_size d < arguments_size (argument_before y no_arguments)) (sym is) (subst (λ f. expression_size f < suc (expression_size e.value + 0)) (sym same) (omega arith))

pub place_smaller : (x : text.Argument) (d : Designator) → x ≡ text_argument.Place d → designator_size d < arguments_size (argument_before x no_arguments)
place_smaller x d is = subst (λ y. designator_size d < arguments_size (argument_before y no_arguments)) (sym is) (omega arith)

-- ---- an argument

module _ (p : Program) (here : Option RoutineId) where
  pub argument_value : (x : text.Argument) (e : _) (d : Expression) → x ≡ text_argument.Value e → d ≡ e.value → FitParameters p here (argument_before x no_arguments) → IsExpression p here d
  argument_value x e d is same h =
      let fit = subst (λ (y : text.Argument). FitParameters p here (argument_before y no_arguments)) is h in
      subst (IsExpression p here) (sym same) (by_value_typed p here fit.formals e.value no_arguments fit.fit)

  pub argument_place : (x : text.Argument) (d : Designator) → x ≡ text_argument.Place d → FitParameters p here (argument_before x no_arguments) → IsPlace p here d
  argument_place x d is h =
      let fit = subst (λ (y : text.Argument). FitParameters p here (argument_before y no_arguments)) is h in by_place_typed p here fit.formals d no_arguments fit.fit

-- ---- selectors

outer_first : (s : Selector) (rest : Selectors) → selectors_outer_calls (selector_before s rest) ≡ selectors_outer_calls (selector_before s no_selectors) ++ selectors_outer_calls rest
outer_first (selector.Index t e) rest = ap (λ (l : List Call). l ++ selectors_outer_calls rest) (sym (append-nil (outer_calls e.value)))
outer_first (selector.Field t f) rest = refl
outer_first (selector.Cell line t) rest = refl

pub selectors_begin : (p : Program) (here : Option RoutineId) (all : Selectors) (n : Supply) (a : Arena) (vs : List Head) (cs : List code_called.Called) → AreThere a n → AreSelectors p here all
    → SelectorsSoFar p here all all n a a vs vs cs cs n
selectors_begin p here all n a vs cs there typed = record { done = []; adds = adds_none a vs cs n there; whole = refl; typed = typed }

module _ (p : Program) (here : Option RoutineId) (all left rest : Selectors) (s : Selector) (next : left ≡ selector_before s rest) (n : Supply) (a b : Arena) (us vs : List Head) (cs ds : List code_called.Called) (m : Supply)
    (h : SelectorsSoFar p here all left n a b us vs cs ds m) where
  abbrev caller : Option Routine
  caller = routine_in p here

  abbrev first : List Call
  first = selectors_outer_calls (selector_before s no_selectors)

  left_typed : AreSelectors p here (selector_before s rest)
  left_typed = subst (AreSelectors p here) next h.typed

  pub selector_typed : AreSelectors p here (selector_before s no_selectors)
  selector_typed = first_selector p here s rest left_typed

  whole_is : selectors_outer_calls all ≡ (h.done ++ first) ++ selectors_outer_calls rest
  whole_is =
      h.whole
      ∙ (ap (λ (l : Selectors). h.done ++ selectors_outer_calls l) next
      ∙ (ap (λ (l : List Call). h.done ++ l) (outer_first s rest) ∙ sym (append_assoc h.done first (selectors_outer_calls rest))))

  events_are : made_events p caller n (h.done ++ first) ≡ made_events p caller n h.done ++ made_events p caller m first
  events_are = made_events_both p caller n h.done first ∙ ap (λ (k : Supply). made_events p caller n h.done ++ made_events p caller k first) (sym h.adds.supply)

  module _ (c : Arena) (ws : List Head) (es : List code_called.Called) (k : Supply) where
    pub selectors_next : AddsCalls (Ok tt) (made_calls p caller m first) (made_events p caller m first) b c vs ws ds es k → SelectorsSoFar p here all rest n a c us ws cs es k
    selectors_next added = record {
      done = h.done ++ first;
      adds = adds_as (Ok tt) (made_calls p caller n (h.done ++ first)) (made_calls p caller n (h.done ++ first)) (made_events p caller n h.done ++ made_events p caller m first)
          (made_events p caller n (h.done ++ first)) a c us ws cs es k refl (sym events_are)
          (more_added p caller n a us cs h.done first (made_events p caller n h.done) (made_events p caller m first) (Ok tt) b c vs ws ds es m k h.adds added);
      whole = whole_is;
      typed = other_selectors p here s rest left_typed;
    }

    pub selectors_stop : (r : Result ⊤ GenFault) (e : GenFault) (w : MadeCalls) → IsErrAnd r (λ f. f ≡ e) → AddsCalls (Err e) w (made_events p caller m first) b c vs ws ds es k
        → AddsCalls r (made_calls p caller n (selectors_outer_calls all)) (made_events p caller n (selectors_outer_calls all)) a c us ws cs es k
    selectors_stop r e w is added =
        adds_stop r e (made_calls p caller n (selectors_outer_calls all)) (made_events p caller n (selectors_outer_calls all)) a c us ws cs es k is (Extends-trans h.adds.grows added.grows)
        (subst (λ (l : List Event). Stops e l a c) (sym all_events) (stopped_first e (made_events p caller n h.done ++ made_events p caller m first) others a c
        (stopped_behind e (made_events p caller n h.done) (made_events p caller m first) a b c h.adds.walk added.walk)))
      where
        others : List Event
        others = made_events p caller (made_calls p caller n (h.done ++ first)).supply (selectors_outer_calls rest)

        all_events : made_events p caller n (selectors_outer_calls all) ≡ (made_events p caller n h.done ++ made_events p caller m first) ++ made_events p caller (made_calls p caller n (h.done ++ first)).supply (selectors_outer_calls rest)
        all_events =
            ap (made_events p caller n) whole_is
            ∙ (made_events_both p caller n (h.done ++ first) (selectors_outer_calls rest)
            ∙ ap (λ (l : List Event). l ++ made_events p caller (made_calls p caller n (h.done ++ first)).supply (selectors_outer_calls rest)) events_are)

-- ---- arguments

arguments_both : (a : Arena) (ts us : List code_argument.Argument) (xs ys : List spec_argument.Argument) → AreArguments a ts xs → AreArguments a us ys → AreArguments a (ts ++ us) (xs ++ ys)
arguments_both a [] us [] ys h k = k
arguments_both a [] us (x ∷ xs) ys h k = absurd h
arguments_both a (t ∷ ts) us [] ys h k = absurd h
arguments_both a (t ∷ ts) us (x ∷ xs) ys h k = (h.0, arguments_both a ts us xs ys h.1 k)

-- arguments in front of others
abbrev before_others : List spec_argument.Argument → List Called → Argued → Argued
before_others arguments calls others = record { arguments = arguments ++ others.arguments; calls = calls ++ others.calls; supply = others.supply }

module _ (p : Program) (caller : Option Routine) (m : Supply) where
  abbrev alone : text.Argument → Argued
  alone x = argued p caller m (argument_before x no_arguments)

  argued_first : (x : text.Argument) (rest : Arguments) → argued p caller m (argument_before x rest) ≡ before_others (alone x).arguments (alone x).calls (argued p caller (alone x).supply rest)
  argued_first (text_argument.Value e) rest =
      let v = valued p caller m e.value in
      let others = argued p caller v.supply rest in
      λ i. record { arguments = spec_argument.Given v.term ∷ others.arguments; calls = sym (append-nil v.calls) i ++ others.calls; supply = others.supply }
  argued_first (text_argument.Place d) rest =
      let v = placed p caller m d in
      let others = argued p caller v.supply rest in
      λ i. record { arguments = spec_argument.AtPlace v.target ∷ others.arguments; calls = sym (append-nil v.calls) i ++ others.calls; supply = others.supply }

  events_first : (x : text.Argument) (rest : Arguments) → argument_events p caller m (argument_before x rest) ≡ argument_events p caller m (argument_before x no_arguments) ++ argument_events p caller (alone x).supply rest
  events_first (text_argument.Value e) rest =
      let v = valued p caller m e.value in
      sym (append_assoc (calls_in_value p caller m e.value) (one v.term) (argument_events p caller v.supply rest))
  events_first (text_argument.Place d) rest =
      let v = placed p caller m d in
      sym (append_assoc (calls_in_place p caller m d) (one (present v.target)) (argument_events p caller v.supply rest))

pub arguments_begin : (p : Program) (here : Option RoutineId) (all : Arguments) (n : Supply) (a : Arena) (ts : List code_argument.Argument) (cs : List code_called.Called) → ts ≡ [] → AreThere a n → FitParameters p here all
    → ArgumentsSoFar p here all all n a a ts cs cs n
arguments_begin p here all n a ts cs none there typed = record {
  events = [];
  arguments = [];
  made = [];
  walked = nothing_walked a;
  are = subst (λ (l : List code_argument.Argument). AreArguments a l []) (sym none) tt;
  calls = λ before h. subst (AreCalls a cs) (sym (append-nil before)) h;
  there = there;
  whole = refl;
  told = refl;
  typed = typed;
}

module _ (p : Program) (here : Option RoutineId) (all left rest : Arguments) (x : text.Argument) (next : left ≡ argument_before x rest) (n : Supply) (a b : Arena) (ts : List code_argument.Argument) (cs ds : List code_called.Called) (m : Supply)
    (h : ArgumentsSoFar p here all left n a b ts cs ds m) where
  abbrev within : Option Routine
  within = routine_in p here

  abbrev now : Argued
  now = argued p within m (argument_before x no_arguments)

  abbrev now_events : List Event
  now_events = argument_events p within m (argument_before x no_arguments)

  left_fits : FitParameters p here (argument_before x rest)
  left_fits = subst (FitParameters p here) next h.typed

  pub argument_fits : FitParameters p here (argument_before x no_arguments)
  argument_fits = first_argument p here x rest left_fits

  told_on : argument_events p within n all ≡ (h.events ++ now_events) ++ argument_events p within now.supply rest
  told_on =
      h.told
      ∙ (ap (λ (l : Arguments). h.events ++ argument_events p within m l) next
      ∙ (ap (λ (l : List Event). h.events ++ l) (events_first p within m x rest) ∙ sym (append_assoc h.events now_events (argument_events p within now.supply rest))))

  whole_on : argued p within n all ≡ before_others (h.arguments ++ now.arguments) (h.made ++ now.calls) (argued p within now.supply rest)
  whole_on =
      let others = argued p within now.supply rest in
      h.whole
      ∙ (ap (λ (l : Arguments). before_others h.arguments h.made (argued p within m l)) next
      ∙ (ap (λ (g : Argued). before_others h.arguments h.made g) (argued_first p within m x rest)
      ∙ (λ i. record {
        arguments = sym (append_assoc h.arguments now.arguments others.arguments) i;
        calls = sym (append_assoc h.made now.calls others.calls) i;
        supply = others.supply;
      })))

  module _ (c : Arena) (es : List code_called.Called) (k : Supply) where
    pub arguments_next : (t : code_argument.Argument) (us : List code_argument.Argument) → us ≡ ts ++ t ∷ [] → AddsArgument (Ok t) now now_events b c ds es k → ArgumentsSoFar p here all rest n a c us cs es k
    arguments_next t us pushed added = record {
      events = h.events ++ now_events;
      arguments = h.arguments ++ now.arguments;
      made = h.made ++ now.calls;
      walked = walked_behind h.events now_events h.walked added.walk;
      are = subst (λ (l : List code_argument.Argument). AreArguments c l (h.arguments ++ now.arguments)) (sym pushed)
          (arguments_both c ts (t ∷ []) h.arguments now.arguments (AreArguments-Extends added.grows ts h.arguments h.are) added.argument);
      calls = λ before there. subst (AreCalls c es) (append_assoc before h.made now.calls) (added.calls (before ++ h.made) (h.calls before there));
      there = added.there;
      whole = whole_on ∙ ap (λ (s : Supply). before_others (h.arguments ++ now.arguments) (h.made ++ now.calls) (argued p within s rest)) (sym added.supply);
      told = told_on ∙ ap (λ (s : Supply). (h.events ++ now_events) ++ argument_events p within s rest) (sym added.supply);
      typed = other_arguments p here x rest left_fits;
    }

    pub arguments_stop : (r : Result (List code_argument.Argument) GenFault) (e : GenFault) → IsErrAnd r (λ f. f ≡ e) → AddsArgument (Err e) now now_events b c ds es k
        → AddsArguments r (argued p within n all) (argument_events p within n all) a c cs es k
    arguments_stop (Ok l) e is added = absurd is
    arguments_stop (Err f) e is added = record {
      grows = Extends-trans h.walked.grows added.grows;
      walk = same_stop {X = List code_argument.Argument} (Err f) e (argument_events p within n all) a c is
          (subst (λ (l : List Event). Stops e l a c) (sym told_on)
          (stopped_first e (h.events ++ now_events) (argument_events p within now.supply rest) a c (stopped_behind e h.events now_events a b c h.walked added.walk)));
      arguments = tt;
      calls = λ before there. tt;
      supply = tt;
      there = tt;
    }
