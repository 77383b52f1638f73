-- The parts of an expression of the code, and the calls in them.
use Rattle.std.specs.Bool.{⊤}
use Rattle.std.proofs.Common.{◌≡◌, ◌<◌, ℕ, suc, ◌+◌, List, [], ◌∷◌, ◌++◌, Result, Ok, Option, sym, ap, subst, ◌∙◌, arith}
use Rattle.spv_logic.specs.declared.names.names.Symbol.{Symbol}
use Rattle.spv_logic.specs.declared.types.TypeId.{TypeId}
use Rattle.spv_logic.specs.declared.operators.Head.{Head}
use Rattle.spv_logic.specs.declared.conditions.RoutineId.{RoutineId}
use Rattle.spv_term.specs.Arena.{Arena}
use Rattle.spv_program.specs.declared.operators.Comparison.{Comparison}
use Rattle.spv_program.specs.declared.typed.expressions.ExpressionForm.{ExpressionForm}
use Rattle.spv_program.specs.declared.typed.expressions.ExpressionForm.TheVariants as form
use Rattle.spv_program.specs.declared.typed.expressions.Selector.{Selector}
use Rattle.spv_program.specs.declared.typed.expressions.Selector.TheVariants as selector
use Rattle.spv_program.specs.declared.typed.expressions.Through as code_through
use Rattle.spv_program.specs.Expressions.{Expression, Designator, Selectors, Read, Through, Compared, designator, no_selectors}
use Rattle.spv_program.specs.Programs.{Routine, Program}
use Rattle.spv_program.specs.Supplies.{Supply}
use Rattle.spv_program.specs.typed.ExpressionViews.{expression_of, selector_before, selectors_of}
use Rattle.spv_program.specs.typed.Model.ExpressionSizes.{call_size, expression_size, selectors_size}
use Rattle.spv_expression_terms.specs.term_walk.OuterCalls.{made_calls, outer_calls, selectors_outer_calls}
use Rattle.spv_assign.specs.declared.creation_trace.faults.GenFault.{GenFault}
use Rattle.spv_flow_parts.specs.declared.leaves.valued.Called as code_called
use Rattle.spv_flow_parts.specs.calls.Arguments.{AddsCalls, AreSelectors, IsExpression, IsFunctionCall}
use Rattle.spv_flow_parts.specs.calls.Events.{call_events, calls_in_value, made_events}
use Rattle.spv_flow_parts.proofs.calls.Typed.{read_typed, place_selectors, through_call, through_selectors, compared_left, compared_right}
use Rattle.spv_flow_parts.proofs.calls.ValueTerms.{through_added, read_added, index_added}

-- ---- what is read

pub read_is : (e : Expression) (f : ExpressionForm) (d : Designator) (line : ℕ) (x : Symbol) (items slice : List Selector) → expression_of f ≡ e → f ≡ form.Read d → designator line x (selectors_of items) ≡ d → slice ≡ items
    → e ≡ Read (designator line x (selectors_of slice))
read_is e f d line x items slice view is place value =
    sym view ∙ (ap expression_of is ∙ (ap Read (sym place) ∙ ap (λ (l : List Selector). Read (designator line x (selectors_of l))) (sym value)))

module _ (e : Expression) (line : ℕ) (x : Symbol) (others : Selectors) (is : e ≡ Read (designator line x others)) where
  pub read_smaller : selectors_size others < expression_size e
  read_smaller = subst (λ (y : Expression). selectors_size others < expression_size y) (sym is) smaller
    where
      smaller : selectors_size others < expression_size (Read (designator line x others))
      smaller = omega arith

  pub read_selectors : (p : Program) (here : Option RoutineId) → IsExpression p here e → AreSelectors p here others
  read_selectors p here h = place_selectors p here line x others (read_typed p here (designator line x others) (subst (IsExpression p here) is h))

-- ---- behind a call

pub through_is : (e : Expression) (f : ExpressionForm) (t : _) (u : code_through.Through) → expression_of f ≡ e → f ≡ form.Through t → u ≡ t.value → e ≡ Through u.call u.line u.of (selectors_of u.selectors.items)
through_is e f t u view is value = sym view ∙ (ap expression_of is ∙ ap (λ (v : code_through.Through). Through v.call v.line v.of (selectors_of v.selectors.items)) (sym value))

module _ (e : Expression) (u : code_through.Through) (is : e ≡ Through u.call u.line u.of (selectors_of u.selectors.items)) where
  pub through_call_smaller : call_size u.call < expression_size e
  through_call_smaller = subst (λ (y : Expression). call_size u.call < expression_size y) (sym is) smaller
    where
      smaller : call_size u.call < expression_size (Through u.call u.line u.of (selectors_of u.selectors.items))
      smaller = omega arith

  pub through_call_of : (p : Program) (here : Option RoutineId) → IsExpression p here e → IsFunctionCall p here u.call
  through_call_of p here h = through_call p here u.call u.line u.of (selectors_of u.selectors.items) (subst (IsExpression p here) is h)

  module _ (slice : List Selector) (value : slice ≡ u.selectors.items) where
    sliced : e ≡ Through u.call u.line u.of (selectors_of slice)
    sliced = is ∙ ap (λ (l : List Selector). Through u.call u.line u.of (selectors_of l)) (sym value)

    pub through_smaller : selectors_size (selectors_of slice) < expression_size e
    through_smaller = subst (λ (y : Expression). selectors_size (selectors_of slice) < expression_size y) (sym sliced) smaller
      where
        smaller : selectors_size (selectors_of slice) < expression_size (Through u.call u.line u.of (selectors_of slice))
        smaller = omega arith

    pub through_selectors_of : (p : Program) (here : Option RoutineId) → IsExpression p here e → AreSelectors p here (selectors_of slice)
    through_selectors_of p here h = through_selectors p here u.call u.line u.of (selectors_of slice) (subst (IsExpression p here) sliced h)

    pub through_of : (p : Program) (here : Option Routine) (n : Supply) (a : Arena) (us : List Head) (cs : List code_called.Called) (r : Result ⊤ GenFault) (b c : Arena) (vs ws : List Head) (ds es : List code_called.Called) (m k : Supply)
        → AddsCalls (Ok tt) (made_calls p here n (u.call ∷ [])) (call_events p here n u.call) a b us vs cs ds m
        → AddsCalls r (made_calls p here m (selectors_outer_calls (selectors_of slice))) (made_events p here m (selectors_outer_calls (selectors_of slice))) b c vs ws ds es k
        → AddsCalls r (made_calls p here n (outer_calls e)) (calls_in_value p here n e) a c us ws cs es k
    through_of p here n a us cs r b c vs ws ds es m k first rest =
        subst (λ (y : Expression). AddsCalls r (made_calls p here n (outer_calls y)) (calls_in_value p here n y) a c us ws cs es k) (sym sliced)
        (through_added p here n a us cs u.call u.line u.of (selectors_of slice) r b c vs ws ds es m k first rest)

-- ---- operands of a comparison

module _ (e : Expression) (f : ExpressionForm) (o : Comparison) (a b : _) (view : expression_of f ≡ e) (is : f ≡ form.Compared o a b) where
  compared_is : e ≡ Compared o a.value b.value
  compared_is = sym view ∙ ap expression_of is

  module _ (x : Expression) where
    pub compared_smaller : x ≡ a.value → expression_size x < expression_size e
    compared_smaller same = subst (λ (y : Expression). expression_size x < expression_size y) (sym compared_is) (subst (λ (y : Expression). expression_size y < suc (expression_size a.value + expression_size b.value)) (sym same) (omega arith))

    pub compared_smaller_too : x ≡ b.value → expression_size x < expression_size e
    compared_smaller_too same = subst (λ (y : Expression). expression_size x < expression_size y) (sym compared_is) (subst (λ (y : Expression). expression_size y < suc (expression_size a.value + expression_size b.value)) (sym same) (omega arith))

    pub compared_left_of : x ≡ a.value → (p : Program) (here : Option RoutineId) → IsExpression p here e → IsExpression p here x
    compared_left_of same p here h = subst (IsExpression p here) (sym same) (compared_left p here a.value b.value o (subst (IsExpression p here) compared_is h))

    pub compared_right_of : x ≡ b.value → (p : Program) (here : Option RoutineId) → IsExpression p here e → IsExpression p here x
    compared_right_of same p here h = subst (IsExpression p here) (sym same) (compared_right p here a.value b.value o (subst (IsExpression p here) compared_is h))

-- ---- calls

module _ (p : Program) (here : Option Routine) (n : Supply) (a : Arena) (us : List Head) (cs : List code_called.Called) where
  -- of the same expression by another name
  pub operands_of : (e f : Expression) → e ≡ f → (r : Result ⊤ GenFault) (c : Arena) (vs : List Head) (ds : List code_called.Called) (k : Supply)
      → AddsCalls r (made_calls p here n (outer_calls f)) (calls_in_value p here n f) a c us vs cs ds k → AddsCalls r (made_calls p here n (outer_calls e)) (calls_in_value p here n e) a c us vs cs ds k
  operands_of e f is r c vs ds k h = subst (λ (y : Expression). AddsCalls r (made_calls p here n (outer_calls y)) (calls_in_value p here n y) a c us vs cs ds k) (sym is) h

  pub read_of : (e : Expression) (line : ℕ) (x : Symbol) (others : Selectors) → e ≡ Read (designator line x others) → (r : Result ⊤ GenFault) (b : Arena) (vs : List Head) (ds : List code_called.Called) (m : Supply)
      → AddsCalls r (made_calls p here n (selectors_outer_calls others)) (made_events p here n (selectors_outer_calls others)) a b us vs cs ds m
      → AddsCalls r (made_calls p here n (outer_calls e)) (calls_in_value p here n e) a b us vs cs ds m
  read_of e line x others is r b vs ds m h = operands_of e (Read (designator line x others)) is r b vs ds m (read_added p here n a us cs line x others r b vs ds m h)

  pub index_of : (s : Selector) (t : TypeId) (f : _) (e : Expression) → s ≡ selector.Index t f → e ≡ f.value → (r : Result ⊤ GenFault) (b : Arena) (vs : List Head) (ds : List code_called.Called) (m : Supply)
      → AddsCalls r (made_calls p here n (outer_calls e)) (calls_in_value p here n e) a b us vs cs ds m
      → AddsCalls r (made_calls p here n (selectors_outer_calls (selector_before s no_selectors))) (made_events p here n (selectors_outer_calls (selector_before s no_selectors))) a b us vs cs ds m
  index_of s t f e is same r b vs ds m h =
      subst (λ (y : Selector). AddsCalls r (made_calls p here n (selectors_outer_calls (selector_before y no_selectors))) (made_events p here n (selectors_outer_calls (selector_before y no_selectors))) a b us vs cs ds m) (sym is)
      (subst (λ (y : Expression). AddsCalls r (made_calls p here n (outer_calls y ++ [])) (made_events p here n (outer_calls y ++ [])) a b us vs cs ds m) same (index_added p here n a us cs e r b vs ds m h))
