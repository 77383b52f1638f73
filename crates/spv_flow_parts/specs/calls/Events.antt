-- What is made for expressions, places and calls, in order: of each call its arguments, the variable that stands for its value, and
-- its ENTRY and EXIT at the call, those of inner calls first. What comes behind a statement was made before.
use Rattle.std.specs.Prelude.{ℕ, ◌+◌, List, [], ◌∷◌, ◌++◌, map, length, Option, Some, None}
use Rattle.spv_logic.specs.declared.operators.Head.{Head}
use Rattle.spv_logic.specs.Terms.{Term}
use Rattle.spv_logic.specs.Conditions.{Condition}
use Rattle.spv_logic.specs.declared.conditions.RoutineId.{RoutineId}
use Rattle.spv_logic.specs.Substitution.{substitute}
use Rattle.spv_program.specs.Formulas.{Annotation}
use Rattle.spv_program.specs.Expressions.{Expression, Designator, Selectors, Call, Arguments, Numeral, Boolean, NilOf, Read, Result, Through, Negative, Calculated, Compared, Negated, Joined, designator, no_selectors, at_index, at_field, at_cell, call, no_arguments, by_value, by_place}
use Rattle.spv_program.specs.Programs.{Routine, Program, routine_at, routine_in}
use Rattle.spv_program.specs.declared.types.Item.TheVariants.{Variable}
use Rattle.spv_program.specs.Supplies.{Supply, fresh_variable}
use Rattle.spv_program.specs.Places.{present}
use Rattle.spv_program.specs.Terms.{alone, item_head, entry_term, exit_term}
use Rattle.spv_program.specs.Calls.{Argument, present_argument, replacing, at_call, starts_at_call, initial_at_call, entry_at_call}
use Rattle.spv_program.specs.ExpressionTerms.{Placed, Argued, at_start, to_element, to_field, to_cell, read_at, sort_of_result, result_head, valued, placed, selected, called, argued}
use Rattle.spv_meaning.specs.Before.{Made, before_entering, changed_places, replaced, wanted_entry}
use Rattle.spv_assign.specs.Conditions.{all_terms_in}
use Rattle.spv_assign.specs.creation_trace.Events.{Event}
use Rattle.spv_assign.specs.creation_trace.StatementEvents.{one, several, counted, in_order, pair_terms}
use Rattle.spv_flow_parts.specs.leaves.Values.{call_events as front_events}

-- ---- ENTRY and EXIT at a call

-- an annotation, what is replaced in it and what is put there, and what it becomes
abbrev pub replaced_events : Term → List (Head × Term) → List Event
replaced_events t pairs = in_order (one t ∷ several (pair_terms pairs) ∷ one (substitute (replacing pairs) t) ∷ [])

abbrev pub entry_events : Program → Routine → List Argument → Option Annotation → List Event
entry_events p r arguments None = []
entry_events p r arguments (Some a) = replaced_events (entry_term p r a) (at_call p r.formals arguments)

abbrev pub exit_events : Program → Routine → List Argument → List (Head × Term) → Option Annotation → List Event
exit_events p r arguments after None = []
exit_events p r arguments after (Some a) =
    replaced_events (exit_term p r a) (starts_at_call p r.formals arguments ++ (initial_at_call p r arguments ++ after))

-- what stands for the parameters now, ENTRY and EXIT of a routine with these arguments
abbrev pub at_call_events : Program → Routine → List Argument → List (Head × Term) → List Event
at_call_events p r arguments after =
    in_order (several (map present_argument arguments)
    ∷ entry_events p r arguments r.entry
    ∷ exit_events p r arguments after r.exit
    ∷ [])

-- ---- calls of functions

-- behind what its arguments make: the variable that stands for its value, and its ENTRY and EXIT
abbrev pub made_at_call : Program → Option Routine → Argued → List Event
made_at_call p None given = []
made_at_call p (Some r) given =
    let value = fresh_variable r.name (sort_of_result p r) given.supply in
    one (alone value.head) ++ at_call_events p r given.arguments ((result_head p r, alone value.head) ∷ [])

abbrev mutual
  -- what the calls in an expression make
  pub calls_in_value : Program → Option Routine → Supply → Expression → List Event
  calls_in_value p here n (Numeral z) = []
  calls_in_value p here n (Boolean b) = []
  calls_in_value p here n (NilOf t) = []
  calls_in_value p here n (Read d) = calls_in_place p here n d
  calls_in_value p here n (Result c) = call_events p here n c
  calls_in_value p here n (Through c line t others) = call_events p here n c ++ calls_in_selectors p here (to_cell t (called p here n c)) others
  calls_in_value p here n (Negative e) = calls_in_value p here n e
  calls_in_value p here n (Calculated o a b) = calls_in_value p here n a ++ calls_in_value p here (valued p here n a).supply b
  calls_in_value p here n (Compared o a b) = calls_in_value p here n a ++ calls_in_value p here (valued p here n a).supply b
  calls_in_value p here n (Negated e) = calls_in_value p here n e
  calls_in_value p here n (Joined o a b) = calls_in_value p here n a ++ calls_in_value p here (valued p here n a).supply b

  pub calls_in_place : Program → Option Routine → Supply → Designator → List Event
  calls_in_place p here n (designator line x others) = calls_in_selectors p here (at_start n (item_head p here (Variable x))) others

  pub calls_in_selectors : Program → Option Routine → Placed → Selectors → List Event
  calls_in_selectors p here d no_selectors = []
  calls_in_selectors p here d (at_index t e others) =
      calls_in_value p here d.supply e ++ calls_in_selectors p here (to_element d (λ m. valued p here m e)) others
  calls_in_selectors p here d (at_field t f others) = calls_in_selectors p here (to_field f d) others
  calls_in_selectors p here d (at_cell line t others) = calls_in_selectors p here (to_cell t (read_at d)) others

  pub call_events : Program → Option Routine → Supply → Call → List Event
  call_events p here n (call r line given) = argument_events p here n given ++ made_at_call p (routine_at p r) (argued p here n given)

  pub argument_events : Program → Option Routine → Supply → Arguments → List Event
  argument_events p here n no_arguments = []
  argument_events p here n (by_value e others) =
      let v = valued p here n e in calls_in_value p here n e ++ (one v.term ++ argument_events p here v.supply others)
  argument_events p here n (by_place d others) =
      let v = placed p here n d in calls_in_place p here n d ++ (one (present v.target) ++ argument_events p here v.supply others)

-- what an expression makes with its calls, and a place: the term of what stands there
abbrev pub value_events : Program → Option Routine → Supply → Expression → List Event
value_events p here n e = calls_in_value p here n e ++ one (valued p here n e).term

abbrev pub place_events : Program → Option Routine → Supply → Designator → List Event
place_events p here n d = calls_in_place p here n d ++ one (present (placed p here n d).target)

-- ---- calls of procedures

-- behind its arguments: the variables and classes that it changes, with what takes their places; its ENTRY and EXIT; what is wanted
-- after it with these in; and how many conditions there are then
abbrev pub entering_events : Program → Option RoutineId → ℕ → Option Routine → Argued → List Condition → List Event
entering_events p here line None given conditions = []
entering_events p here line (Some r) given conditions =
    let fresh = changed_places p r r.formals given.arguments given.supply in
    in_order (several (pair_terms fresh.after)
    ∷ at_call_events p r given.arguments fresh.in_exit
    ∷ several (all_terms_in (replaced fresh.after conditions))
    ∷ counted (length (wanted_entry here line (entry_at_call p r given.arguments)) + length conditions)
    ∷ [])

abbrev pub perform_events : Program → Option RoutineId → Call → Made → List Event
perform_events p here (call r line given) q =
    let arguments = argued p (routine_in p here) q.supply given in
    in_order (argument_events p (routine_in p here) q.supply given
    ∷ entering_events p here line (routine_at p r) arguments q.conditions
    ∷ front_events here arguments.calls (before_entering p here line (routine_at p r) arguments q.conditions).conditions
    ∷ [])

-- ---- by the outermost calls, and step by step

-- calls one after the other, as the outermost ones of an expression are
abbrev pub made_events : Program → Option Routine → Supply → List Call → List Event
made_events p here n [] = []
made_events p here n (c ∷ others) = call_events p here n c ++ made_events p here (called p here n c).supply others

-- a step further from a place, and what stands there then
abbrev pub step_events : Program → Option Routine → Placed → Selectors → List Event
step_events p here d others = calls_in_selectors p here d others ++ one (present (selected p here d others).target)
