-- Which expressions are well typed: the sort of each, and the type of each place.
use Rattle.std.specs.Prelude.{Bool, true, false, ◌&&◌, ◌||◌, not, List, [], ◌∷◌, Option, Some, None, option_map, if◌then◌else◌}
use Rattle.std.specs.Option.{option_and_then}
use Rattle.spv_logic.specs.declared.types.TypeId.{TypeId}
use Rattle.spv_logic.specs.declared.types.Sort.{Sort}
use Rattle.spv_logic.specs.declared.types.Sort.TheVariants as sort
use Rattle.spv_program.specs.Types.{same_type, form_at, sort_of, element_of, field_of, target_of, same_places, type_exists}
use Rattle.spv_program.specs.Expressions.{Expression, Designator, Selectors, Call, Arguments, Numeral, Boolean, NilOf, Read, Result, Through, Negative, Calculated, Compared, Negated, Joined, designator, no_selectors, at_index, at_field, at_cell, call, no_arguments, by_value, by_place}
use Rattle.spv_program.specs.Programs.{Formal, Routine, Program, routine_at}
use Rattle.spv_program.specs.Scopes.{name_type, is_result, is_initial}
use Rattle.spv_program.specs.FormulaTypes.{is_sort, sort_if, numbers, truth_values, compared_sort}

-- program expressions compare numbers, truth values and pointers
abbrev pub comparable : Sort → Bool
comparable sort.Int = true
comparable sort.Bool = true
comparable (sort.Ptr t) = true
comparable _ = false

abbrev pub is_nil : Expression → Bool
is_nil (NilOf t) = true
is_nil _ = false

abbrev pub has_none : Selectors → Bool
has_none no_selectors = true
has_none _ = false

-- an expression cannot read a function's result by its name, nor what an INITIAL name stands for
abbrev pub may_read : Option Routine → Designator → Bool
may_read here (designator line x others) = not (is_initial here x) && not (is_result here x)

-- a function's result is written as a whole, and no INITIAL name is written
abbrev pub may_write : Option Routine → Designator → Bool
may_write here (designator line x others) = not (is_initial here x) && (not (is_result here x) || has_none others)

abbrev pub sort_of_type : Program → Option TypeId → Option Sort
sort_of_type p t = option_map (sort_of p.forms) t

abbrev pub result_type : Routine → Option TypeId
result_type r = r.result

-- whether a place of a type may stand for a VAR parameter of another
abbrev pub stands_for : Program → TypeId → Option TypeId → Bool
stands_for p t None = false
stands_for p t (Some u) = same_places p.forms t u

abbrev mutual
  -- the sort of an expression in its routine; none where it is not well typed
  pub expression_sort : Program → Option Routine → Expression → Option Sort
  expression_sort p here (Numeral z) = Some sort.Int
  expression_sort p here (Boolean b) = Some sort.Bool
  expression_sort p here (NilOf t) = sort_if (type_exists p.forms t) (sort.Ptr t)
  expression_sort p here (Read d) = if may_read here d then sort_of_type p (designator_type p here d) else None
  expression_sort p here (Result c) = sort_of_type p (option_and_then result_type (callee p here c))
  expression_sort p here (Through c line t others) =
      if is_sort (sort.Ptr t) (sort_of_type p (option_and_then result_type (callee p here c)))
      then sort_of_type p (selected_type p here t others) else None
  expression_sort p here (Negative e) = sort_if (is_sort sort.Int (expression_sort p here e)) sort.Int
  expression_sort p here (Calculated o a b) = numbers (expression_sort p here a) (expression_sort p here b) sort.Int
  expression_sort p here (Compared o a b) =
      if is_nil a && is_nil b then None else compared_sort comparable o (expression_sort p here a) (expression_sort p here b)
  expression_sort p here (Negated e) = sort_if (is_sort sort.Bool (expression_sort p here e)) sort.Bool
  expression_sort p here (Joined o a b) = truth_values (expression_sort p here a) (expression_sort p here b)

  -- the type of a place
  pub designator_type : Program → Option Routine → Designator → Option TypeId
  designator_type p here (designator line x others) = option_and_then (λ t. selected_type p here t others) (name_type p here x)

  -- the type that selectors lead to from a type; each is of the type that it tells
  pub selected_type : Program → Option Routine → TypeId → Selectors → Option TypeId
  selected_type p here t no_selectors = Some t
  selected_type p here t (at_index a e others) =
      if same_type a t && is_sort sort.Int (expression_sort p here e)
      then option_and_then (λ u. selected_type p here u others) (element_of (form_at p.forms t.0)) else None
  selected_type p here t (at_field r f others) =
      if same_type r t then option_and_then (λ u. selected_type p here u others) (field_of (form_at p.forms t.0) f) else None
  selected_type p here t (at_cell line c others) =
      option_and_then (λ u. if same_type c u then selected_type p here u others else None) (target_of (form_at p.forms t.0))

  -- the called routine, where the arguments fit its parameters
  pub callee : Program → Option Routine → Call → Option Routine
  callee p here (call r line given) =
      option_and_then (λ called. if arguments_fit p here called.formals given then Some called else None) (routine_at p r)

  pub arguments_fit : Program → Option Routine → List Formal → Arguments → Bool
  arguments_fit p here [] no_arguments = true
  arguments_fit p here [] (by_value e others) = false
  arguments_fit p here [] (by_place d others) = false
  arguments_fit p here (f ∷ formals) no_arguments = false
  arguments_fit p here (f ∷ formals) (by_value e others) =
      not f.by_place && (is_sort (sort_of p.forms f.of) (expression_sort p here e) && arguments_fit p here formals others)
  arguments_fit p here (f ∷ formals) (by_place d others) =
      f.by_place && (may_write here d && (stands_for p f.of (designator_type p here d) && arguments_fit p here formals others))
