-- What expressions give, from left to right.
use Rattle.std.specs.Prelude.{Bool, true, false, ◌&&◌, ◌||◌, not, List, [], ◌∷◌, ◌++◌, Option, Some, None, ℤ, pos, ◌+ℤ◌, ◌-ℤ◌, ◌*ℤ◌}
use Rattle.std.specs.Option.{unwrap_or}
use Rattle.std.specs.Int.RustNames.{int_lt, int_div, int_rem}
use Rattle.std.specs.Ordering.{int_eq}
use Rattle.spv_logic.specs.declared.names.names.Symbol.{Symbol}
use Rattle.spv_logic.specs.declared.types.TypeId.{TypeId}
use Rattle.spv_logic.specs.Values.{Value, Number, Truth, Pointer, number_of, truth_of, pointer_of, value_eq}
use Rattle.spv_program.specs.declared.operators.Arithmetic.{Arithmetic}
use Rattle.spv_program.specs.declared.operators.Arithmetic.TheVariants as arithmetic
use Rattle.spv_program.specs.declared.operators.Comparison.{Comparison}
use Rattle.spv_program.specs.declared.operators.Comparison.TheVariants as comparison
use Rattle.spv_program.specs.declared.operators.Connective.{Connective}
use Rattle.spv_program.specs.declared.operators.Connective.TheVariants as connective
use Rattle.spv_program.specs.Types.{same_type, form_at, element_of, field_of, takes_value, takes_index}
use Rattle.spv_program.specs.Expressions.{Expression, Designator, Selectors, Call, Arguments, Numeral, Boolean, NilOf, Read, Result, Through, Negative, Calculated, Compared, Negated, Joined, designator, no_selectors, at_index, at_field, at_cell, call, no_arguments, by_value, by_place}
use Rattle.spv_program.specs.Programs.{Formal, Routine, Program, routine_at, routine_in}
use Rattle.spv_program.specs.Scopes.{name_type}
use Rattle.spv_meaning.specs.declared.faults.Fault.TheVariants as fault
use Rattle.spv_meaning.specs.Places.{PathStep, Place, Binding, HeapRow, State, CellOf, IndexStep, FieldStep, Holding, Referring, whole, row_of, look, value_or_zero}
use Rattle.spv_meaning.specs.Views.{place_of}
use Rattle.spv_meaning.specs.Outcomes.{Outcome, ends, and_then, stops_unless}
use Rattle.spv_meaning.specs.Levels.{Here, Level, Bound, with_turn, pop, enter, result_in}

-- what an expression gives, and the state behind it
pub record Got : Type 0 where
  pub value : Value
  pub state : State

-- a place that is fixed, its type, and the state behind its selectors
pub record Fixed : Type 0 where
  pub place : Place
  pub type : TypeId
  pub state : State

abbrev pub gives : Value → State → List Value → Outcome Got
gives v state rest = ends (record { value = v; state = state }) rest

-- ---- operators

abbrev pub calculate : Arithmetic → ℤ → ℤ → ℤ
calculate arithmetic.Plus a b = a +ℤ b
calculate arithmetic.Minus a b = a -ℤ b
calculate arithmetic.Times a b = a *ℤ b
calculate arithmetic.Div a b = int_div a b
calculate arithmetic.Mod a b = int_rem a b

abbrev pub divides : Arithmetic → Bool
divides arithmetic.Div = true
divides arithmetic.Mod = true
divides _ = false

-- DIV and MOD by 0 stop
abbrev pub calculated : Arithmetic → Value → Got → List Value → Outcome Got
calculated o v right rest =
    stops_unless (not (divides o && int_eq (number_of right.value) (pos 0))) fault.Zero
    (record { value = Number (calculate o (number_of v) (number_of right.value)); state = right.state }) rest

abbrev pub compare : Comparison → Value → Value → Bool
compare comparison.Equal v w = value_eq v w
compare comparison.NotEqual v w = not (value_eq v w)
compare comparison.Less v w = int_lt (number_of v) (number_of w)
compare comparison.AtMost v w = not (int_lt (number_of w) (number_of v))
compare comparison.Greater v w = int_lt (number_of w) (number_of v)
compare comparison.AtLeast v w = not (int_lt (number_of v) (number_of w))

abbrev pub join : Connective → Bool → Bool → Bool
join connective.And a b = a && b
join connective.Or a b = a || b

-- ---- places

abbrev pub further : PathStep → TypeId → Place → State → Fixed
further s t place state = record { place = record { root = place.root; path = place.path ++ s ∷ [] }; type = t; state = state }

-- the element at an index, which has to be in its subrange
abbrev pub to_element : Program → TypeId → Place → Got → List Value → Outcome Fixed
to_element p t place index rest =
    stops_unless (takes_index p.forms t index.value)
    fault.Index (further (IndexStep (number_of index.value)) (unwrap_or (element_of (form_at p.forms t.0)) t) place index.state) rest

abbrev pub to_field : Program → TypeId → Symbol → Fixed → Fixed
to_field p t f fixed = further (FieldStep f) (unwrap_or (field_of (form_at p.forms t.0) f) t) fixed.place fixed.state

abbrev pub is_cell_of : TypeId → Option HeapRow → Bool
is_cell_of t None = false
is_cell_of t (Some r) = same_type r.type t

-- the cell that a pointer leads to, which has to be one of this type
abbrev pub to_cell : TypeId → Value → State → List Value → Outcome Fixed
to_cell t v state rest =
    stops_unless (is_cell_of t (row_of state.heap (pointer_of v))) fault.Nil
    (record { place = whole (CellOf (pointer_of v)); type = t; state = state }) rest

-- what a fixed place holds
abbrev pub holds_now : Fixed → Value
holds_now fixed = value_or_zero (look fixed.state fixed.place)

-- ---- arguments

abbrev pub bind : Symbol → Binding → Outcome Bound → Outcome Bound
bind x b others = and_then others (λ bound rest. ends (record { names = (x, b) ∷ bound.names; state = bound.state }) rest)

-- a value parameter takes what is in its subrange
abbrev pub for_parameter : Program → Formal → Got → List Value → Outcome Got
for_parameter p f got rest = stops_unless (takes_value p.forms f.of got.value) fault.Range got rest

abbrev pub formals_of : Option Routine → List Formal
formals_of None = []
formals_of (Some r) = r.formals

-- ---- expressions

abbrev mutual
  pub evaluate : Program → Option Level → Here → Expression → State → List Value → Outcome Got
  evaluate p below here (Numeral z) state choices = gives (Number z) state choices
  evaluate p below here (Boolean b) state choices = gives (Truth b) state choices
  evaluate p below here (NilOf t) state choices = gives (Pointer 0) state choices
  evaluate p below here (Read d) state choices =
      and_then (fix p below here d state choices) (λ fixed rest. gives (holds_now fixed) fixed.state rest)
  evaluate p below here (Result c) state choices = result p below here c state choices
  evaluate p below here (Through c line t others) state choices =
      and_then (result p below here c state choices) (λ got rest.
      and_then (to_cell t got.value got.state rest) (λ cell last.
      and_then (select p below here others cell last) (λ fixed end. gives (holds_now fixed) fixed.state end)))
  evaluate p below here (Negative e) state choices =
      and_then (evaluate p below here e state choices) (λ got rest. gives (Number (pos 0 -ℤ number_of got.value)) got.state rest)
  evaluate p below here (Calculated o a b) state choices =
      and_then (evaluate p below here a state choices) (λ left rest.
      and_then (evaluate p below here b left.state rest) (λ right last. calculated o left.value right last))
  evaluate p below here (Compared o a b) state choices =
      and_then (evaluate p below here a state choices) (λ left rest.
      and_then (evaluate p below here b left.state rest) (λ right last. gives (Truth (compare o left.value right.value)) right.state last))
  evaluate p below here (Negated e) state choices =
      and_then (evaluate p below here e state choices) (λ got rest. gives (Truth (not (truth_of got.value))) got.state rest)
  evaluate p below here (Joined o a b) state choices =
      and_then (evaluate p below here a state choices) (λ left rest.
      and_then (evaluate p below here b left.state rest)
      (λ right last. gives (Truth (join o (truth_of left.value) (truth_of right.value))) right.state last))

  -- the place of a designator
  pub fix : Program → Option Level → Here → Designator → State → List Value → Outcome Fixed
  fix p below here (designator line x others) state choices =
      select p below here others
      (record {
        place = place_of here.routine state x;
        type = unwrap_or (name_type p (routine_in p here.routine) x)
            (record { 0 = 0 });
        state = state;
      })
      choices

  pub select : Program → Option Level → Here → Selectors → Fixed → List Value → Outcome Fixed
  select p below here no_selectors fixed choices = ends fixed choices
  select p below here (at_index t e others) fixed choices =
      and_then (evaluate p below here e fixed.state choices) (λ index rest.
      and_then (to_element p t fixed.place index rest) (λ next last. select p below here others next last))
  select p below here (at_field t f others) fixed choices = select p below here others (to_field p t f fixed) choices
  select p below here (at_cell line t others) fixed choices =
      and_then (to_cell t (holds_now fixed) fixed.state choices) (λ next rest. select p below here others next rest)

  -- a function's result: it runs when its last argument is evaluated
  pub result : Program → Option Level → Here → Call → State → List Value → Outcome Got
  result p below here (call r line given) state choices =
      with_turn below choices (λ level.
      and_then (arguments p below here (formals_of (routine_at p r)) given state choices) (λ bound rest.
      and_then (enter p level r (routine_at p r) bound rest) (λ after last. gives (result_in (routine_at p r) after.frames) (pop after) last)))

  -- arguments from left to right: values, and places that are fixed
  pub arguments : Program → Option Level → Here → List Formal → Arguments → State → List Value → Outcome Bound
  arguments p below here formals no_arguments state choices = ends (record { names = []; state = state }) choices
  arguments p below here [] (by_value e others) state choices = ends (record { names = []; state = state }) choices
  arguments p below here [] (by_place d others) state choices = ends (record { names = []; state = state }) choices
  arguments p below here (f ∷ formals) (by_value e others) state choices =
      and_then (evaluate p below here e state choices) (λ got rest.
      and_then (for_parameter p f got rest) (λ taken last.
      bind f.name (Holding taken.value) (arguments p below here formals others taken.state last)))
  arguments p below here (f ∷ formals) (by_place d others) state choices =
      and_then (fix p below here d state choices)
      (λ fixed rest. bind f.name (Referring fixed.place) (arguments p below here formals others fixed.state rest))
