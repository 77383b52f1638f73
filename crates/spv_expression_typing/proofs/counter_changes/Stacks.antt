-- Lists of works whose last one comes first.
use Rattle.std.proofs.Common.{◌≡◌, ◌<◌, ◌≤◌, ◌+◌, ◌-◌, ◌*◌, ℕ, true, false, List, [], ◌∷◌, ◌++◌, length, take, drop, get_or, Result, Ok, Err, OnOk, refl, sym, ap, subst, ◌∙◌, arith}
use Rattle.std.specs.declared.boxed.Box.{Box}
use Rattle.std.specs.Global.{Global}
use Rattle.std.proofs.lemmas.List.{append_assoc, append-nil, take_rest}
use Rattle.spv_logic.specs.declared.names.names.Symbol.{Symbol}
use Rattle.spv_logic.specs.declared.types.TypeId.{TypeId}
use Rattle.spv_logic.specs.declared.conditions.RoutineId.{RoutineId}
use Rattle.spv_program.specs.Lists.{first_of}
use Rattle.spv_program.specs.Expressions.{Expression, Designator, Call, Read, Negative, Negated, Through, designator, call}
use Rattle.spv_program.specs.Uses.{has_cell}
use Rattle.spv_program.specs.declared.typed.expressions.Selector.{Selector}
use Rattle.spv_program.specs.declared.typed.expressions.Selector.TheVariants as selector
use Rattle.spv_program.specs.declared.typed.expressions.Argument.{Argument}
use Rattle.spv_program.specs.declared.typed.expressions.Argument.TheVariants as argument
use Rattle.spv_program.specs.typed.ExpressionViews.{selectors_of, arguments_of}
use Rattle.spv_program.specs.typed.Model.ExpressionSizes.{expression_size, designator_size, selectors_size, call_size, arguments_size}
use Rattle.spv_typing.specs.Known.{Scope}
use Rattle.spv_expression_typing.specs.declared.counter_changes.works.Event.{Event}
use Rattle.spv_expression_typing.specs.declared.counter_changes.works.Event.TheVariants as event
use Rattle.spv_expression_typing.specs.declared.counter_changes.works.Found.{Found}
use Rattle.spv_expression_typing.specs.counter_changes.Events.{written_at, expression_events, place_events, selector_events, call_events, argument_events}
use Rattle.spv_expression_typing.specs.counter_changes.Counted.{callee_counted, first_wrote, first_called}
use Rattle.spv_expression_typing.specs.declared.counter_changes.works.Work.{Work}
use Rattle.spv_expression_typing.specs.counter_changes.Works.{work_events, stack_events, work_size, stack_size, Opens, IsStep}

stack_last : (works : List Work) (w : Work) → stack_events (works ++ w ∷ []) ≡ work_events w ++ stack_events works
stack_last [] w = sym (append-nil (work_events w))
stack_last (v ∷ works) w = ap (λ (es : List Event). es ++ work_events v) (stack_last works w) ∙ append_assoc (work_events w) (stack_events works) (work_events v)

size_last : (works : List Work) (w : Work) → stack_size (works ++ w ∷ []) ≡ work_size w + stack_size works
size_last [] w = refl
size_last (v ∷ works) w = omega (arith, size_last works w)

pub pushed_events : (old new : List Work) (w : Work) → new ≡ old ++ w ∷ [] → stack_events new ≡ work_events w ++ stack_events old
pushed_events old new w h = ap stack_events h ∙ stack_last old w

pub pushed_size : (old new : List Work) (w : Work) → new ≡ old ++ w ∷ [] → stack_size new ≡ work_size w + stack_size old
pushed_size old new w h = ap stack_size h ∙ size_last old w

pub opens_nothing : (n : ℕ) (works : List Work) → 0 < n → Opens [] n works works
opens_nothing n works h = record { same = refl; falls = omega (arith, h) }

pub opens_one : (n : ℕ) (old new : List Work) (w : Work) → work_size w < n → new ≡ old ++ w ∷ [] → Opens (work_events w) n old new
opens_one n old new w less h = record { same = pushed_events old new w h; falls = omega (arith, less, pushed_size old new w h) }

-- behind what was put below it
pub opens_more : (n m : ℕ) (events : List Event) (old middle new : List Work) (w : Work) → n + work_size w ≤ m → middle ≡ old ++ w ∷ [] → Opens events n middle new
    → Opens (events ++ work_events w) m old new
opens_more n m events old middle new w less h opens = record {
  same =
      opens.same ∙ ap (λ (es : List Event). events ++ es) (pushed_events old middle w h)
      ∙ sym (append_assoc events (work_events w) (stack_events old));
  falls = omega (arith, less, opens.falls, pushed_size old middle w h);
}

pub opens_two : (n : ℕ) (old middle new : List Work) (v w : Work) → work_size v + work_size w < n → middle ≡ old ++ w ∷ [] → new ≡ middle ++ v ∷ []
    → Opens (work_events v ++ work_events w) n old new
opens_two n old middle new v w less h k = record {
  same =
      pushed_events middle new v k ∙ ap (λ (es : List Event). work_events v ++ es) (pushed_events old middle w h)
      ∙ sym (append_assoc (work_events v) (work_events w) (stack_events old));
  falls = omega (arith, less, pushed_size old middle w h, pushed_size middle new v k);
}

pub on_ok : {T E P Q : Type 0} (r : Result T E) → OnOk r P → (P → Q) → OnOk r Q
on_ok (Ok t) p next = next p
on_ok (Err e) p next = tt

-- a list that is not empty: its first item and the others
pub list_first : {X : Type 0} (xs : List X) (x d : X) → 1 ≤ length xs → x ≡ get_or xs 0 d → xs ≡ x ∷ take (length xs - 1) (drop 1 xs)
list_first [] x d some is = absurd (omega (arith, some))
list_first (y ∷ xs) x d some is = ap (λ ys. y ∷ ys) (sym (take_rest (y ∷ xs) 1)) ∙ ap (λ z. z ∷ take (length (y ∷ xs) - 1) (drop 1 (y ∷ xs))) (sym is)

opens_as : (n : ℕ) (es fs : List Event) (old new : List Work) → es ≡ fs → Opens es n old new → Opens fs n old new
opens_as n es fs old new h opens = subst (λ (gs : List Event). Opens gs n old new) h opens

-- a work, and what it is
pub record Is (w : Work) (es : List Event) (n : ℕ) : Type 0 where
  pub events : work_events w ≡ es
  pub size : work_size w ≡ n

module _ (old middle new : List Work) (v w : Work) (below : middle ≡ old ++ w ∷ []) (on : new ≡ middle ++ v ∷ []) where
  two_open : (n k m : ℕ) (es fs : List Event) → Is v es k → Is w fs m → k + m < n → Opens (es ++ fs) n old new
  two_open n k m es fs a b less =
      opens_as n _ _ old new (ap (λ (gs : List Event). gs ++ work_events w) a.events ∙ ap (λ (gs : List Event). es ++ gs) b.events)
      (opens_two n old middle new v w (omega (arith, less, a.size, b.size)) below on)

  pub index_opens : (ss rest : List Selector) (t : TypeId) (e : Box Expression Global) → ss ≡ selector.Index t e ∷ rest
      → Is v (expression_events e.value) (3 * expression_size e.value) → Is w (selector_events (selectors_of rest)) (3 * selectors_size (selectors_of rest) + 1)
      → Opens (selector_events (selectors_of ss)) (3 * selectors_size (selectors_of ss) + 1) old new
  index_opens ss rest t e h a b =
      subst (λ (l : List Selector). Opens (selector_events (selectors_of l)) (3 * selectors_size (selectors_of l) + 1) old new) (sym h)
      (two_open _ _ _ _ _ a b (omega arith))

  pub value_opens : (xs rest : List Argument) (e : Box Expression Global) → xs ≡ argument.Value e ∷ rest
      → Is v (expression_events e.value) (3 * expression_size e.value) → Is w (argument_events (arguments_of rest)) (3 * arguments_size (arguments_of rest) + 1)
      → Opens (argument_events (arguments_of xs)) (3 * arguments_size (arguments_of xs) + 1) old new
  value_opens xs rest e h a b =
      subst (λ (l : List Argument). Opens (argument_events (arguments_of l)) (3 * arguments_size (arguments_of l) + 1) old new) (sym h)
      (two_open _ _ _ _ _ a b (omega arith))

  pub place_opens : (xs rest : List Argument) (d : Designator) → xs ≡ argument.Place d ∷ rest
      → Is v (place_events d) (3 * designator_size d) → Is w (argument_events (arguments_of rest)) (3 * arguments_size (arguments_of rest) + 1)
      → Opens (argument_events (arguments_of xs)) (3 * arguments_size (arguments_of xs) + 1) old new
  place_opens xs rest d h a b =
      subst (λ (l : List Argument). Opens (argument_events (arguments_of l)) (3 * arguments_size (arguments_of l) + 1) old new) (sym h)
      (two_open _ _ _ _ _ a b (omega arith))

  pub both_open : (a b : Expression) → Is v (expression_events a) (3 * expression_size a) → Is w (expression_events b) (3 * expression_size b)
      → Opens (expression_events a ++ expression_events b) (3 * (expression_size a + expression_size b) + 1) old new
  both_open a b p q = two_open _ _ _ _ _ p q (omega arith)

  pub call_opens : (c : Call) (r : RoutineId) (line : ℕ) (xs : List Argument) → call r line (arguments_of xs) ≡ c
      → Is v (argument_events (arguments_of xs)) (3 * arguments_size (arguments_of xs) + 1) → Is w (event.Called r ∷ []) 1
      → Opens (call_events c) (3 * call_size c) old new
  call_opens c r line xs h a b =
      subst (λ (d : Call). Opens (call_events d) (3 * call_size d) old new) h (two_open _ _ _ _ _ a b (omega arith))

  pub name_opens : (d : Designator) (line : ℕ) (x : Symbol) (ss : List Selector) → designator line x (selectors_of ss) ≡ d → has_cell (selectors_of ss) ≡ false
      → Is v (event.Wrote x ∷ []) 1 → Is w (selector_events (selectors_of ss)) (3 * selectors_size (selectors_of ss) + 1)
      → Opens (place_events d) (3 * designator_size d) old new
  name_opens d line x ss h cell a b =
      subst (λ (e : Designator). Opens (place_events e) (3 * designator_size e) old new) h
      (opens_as _ _ _ old new (ap (λ c. written_at x c ++ selector_events (selectors_of ss)) (sym cell)) (two_open _ _ _ _ _ a b (omega arith)))

module _ (old new : List Work) (w : Work) (on : new ≡ old ++ w ∷ []) where
  one_open : (n m : ℕ) (es : List Event) → Is w es m → m < n → Opens es n old new
  one_open n m es a less = opens_as n _ _ old new a.events (opens_one n old new w (omega (arith, less, a.size)) on)

  pub field_opens : (ss rest : List Selector) (t : TypeId) (f : Symbol) → ss ≡ selector.Field t f ∷ rest
      → Is w (selector_events (selectors_of rest)) (3 * selectors_size (selectors_of rest) + 1)
      → Opens (selector_events (selectors_of ss)) (3 * selectors_size (selectors_of ss) + 1) old new
  field_opens ss rest t f h a =
      subst (λ (l : List Selector). Opens (selector_events (selectors_of l)) (3 * selectors_size (selectors_of l) + 1) old new) (sym h) (one_open _ _ _ a (omega arith))

  pub cell_opens : (ss rest : List Selector) (line : ℕ) (t : TypeId) → ss ≡ selector.Cell line t ∷ rest
      → Is w (selector_events (selectors_of rest)) (3 * selectors_size (selectors_of rest) + 1)
      → Opens (selector_events (selectors_of ss)) (3 * selectors_size (selectors_of ss) + 1) old new
  cell_opens ss rest line t h a =
      subst (λ (l : List Selector). Opens (selector_events (selectors_of l)) (3 * selectors_size (selectors_of l) + 1) old new) (sym h) (one_open _ _ _ a (omega arith))

  pub read_opens : (e : Expression) (d : Designator) (line : ℕ) (x : Symbol) (ss : List Selector) → Read d ≡ e → designator line x (selectors_of ss) ≡ d
      → Is w (selector_events (selectors_of ss)) (3 * selectors_size (selectors_of ss) + 1) → Opens (expression_events e) (3 * expression_size e) old new
  read_opens e d line x ss h k a =
      subst (λ (f : Expression). Opens (expression_events f) (3 * expression_size f) old new) (ap Read k ∙ h) (one_open _ _ _ a (omega arith))

  pub negative_opens : (e a : Expression) → Negative a ≡ e → Is w (expression_events a) (3 * expression_size a) → Opens (expression_events e) (3 * expression_size e) old new
  negative_opens e a h b = subst (λ (f : Expression). Opens (expression_events f) (3 * expression_size f) old new) h (one_open _ _ _ b (omega arith))

  pub negated_opens : (e a : Expression) → Negated a ≡ e → Is w (expression_events a) (3 * expression_size a) → Opens (expression_events e) (3 * expression_size e) old new
  negated_opens e a h b = subst (λ (f : Expression). Opens (expression_events f) (3 * expression_size f) old new) h (one_open _ _ _ b (omega arith))

  pub through_cell_opens : (d : Designator) (line : ℕ) (x : Symbol) (ss : List Selector) → designator line x (selectors_of ss) ≡ d → has_cell (selectors_of ss) ≡ true
      → Is w (selector_events (selectors_of ss)) (3 * selectors_size (selectors_of ss) + 1) → Opens (place_events d) (3 * designator_size d) old new
  through_cell_opens d line x ss h cell a =
      subst (λ (e : Designator). Opens (place_events e) (3 * designator_size e) old new) h
      (opens_as _ _ _ old new (ap (λ c. written_at x c ++ selector_events (selectors_of ss)) (sym cell)) (one_open _ _ _ a (omega arith)))

pub result_opens : (old middle new : List Work) (w : Work) (e : Expression) (c : Call) (line : ℕ) (t : TypeId) (ss : List Selector)
    → middle ≡ old ++ w ∷ [] → Through c line t (selectors_of ss) ≡ e → Is w (selector_events (selectors_of ss)) (3 * selectors_size (selectors_of ss) + 1)
    → Opens (call_events c) (3 * call_size c) middle new → Opens (expression_events e) (3 * expression_size e) old new
result_opens old middle new w e c line t ss below h a opens =
    subst (λ (f : Expression). Opens (expression_events f) (3 * expression_size f) old new) h
    (opens_as _ _ _ old new (ap (λ (gs : List Event). call_events c ++ gs) a.events) (opens_more _ _ _ old middle new w (omega (arith, a.size)) below opens))

-- ---- a turn of the loop

module _ (s : Scope) (counted : List Symbol) (works popped new : List Work) (w : Work) (before found : Found) (on : works ≡ popped ++ w ∷ []) (step : IsStep s counted w before found popped new) where
  pub turn_falls : stack_size new < stack_size works
  turn_falls = omega (arith, step.falls, pushed_size popped works w on)

  pub turn_wrote : first_of found.wrote (first_wrote counted (stack_events new)) ≡ first_of before.wrote (first_wrote counted (stack_events works))
  turn_wrote = step.wrote ∙ ap (λ (es : List Event). first_of before.wrote (first_wrote counted es)) (sym (pushed_events popped works w on))

  pub turn_called :
      first_of found.called (first_called (callee_counted s counted) (stack_events new)) ≡ first_of before.called (first_called (callee_counted s counted) (stack_events works))
  turn_called = step.called ∙ ap (λ (es : List Event). first_of before.called (first_called (callee_counted s counted) es)) (sym (pushed_events popped works w on))
