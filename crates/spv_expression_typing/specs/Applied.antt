-- Calls, by what is called and its arguments as they were read.
use Rattle.std.specs.Prelude.{ℕ, List, length, map, Option, Some, None, Result, Ok, Err, nat_eq, if◌then◌else◌}
use Rattle.std.specs.List.{slice_get}
use Rattle.spv_logic.specs.declared.types.TypeId.{TypeId}
use Rattle.spv_tree.specs.declared.syntax.names.Name.{Name}
use Rattle.spv_program.specs.declared.types.TypeForm.{TypeForm}
use Rattle.spv_program.specs.Types.{sort_of, same_places}
use Rattle.spv_program.specs.Expressions.{Expression, Designator, Call, Arguments, NilOf, call, no_arguments, by_value, by_place}
use Rattle.spv_program.specs.declared.typed.programs.Formal.{Formal}
use Rattle.spv_program.specs.declared.typed.expressions.Argument.{Argument as ArgumentText}
use Rattle.spv_program.specs.declared.typed.expressions.Argument.TheVariants as argument
use Rattle.spv_typing.specs.declared.faults.TypeFault.{TypeFault}
use Rattle.spv_typing.specs.declared.faults.TypeFault.TheVariants.{Count}
use Rattle.spv_typing.specs.Outcomes.{Outcome, after, where_so, wrong, undeclared}
use Rattle.spv_typing.specs.Known.{Scope, Heading}
use Rattle.spv_typing.specs.OperatorWalk.{settled}
use Rattle.spv_typing.specs.ExpressionWalk as spec
use Rattle.spv_environments.specs.declared.scopes.Meaning.{Meaning}
use Rattle.spv_environments.specs.declared.scopes.Meaning.TheVariants as meaning
use Rattle.spv_environments.specs.Views.{heading_of}
use Rattle.spv_formula_typing.specs.declared.forms.Way.{Way}
use Rattle.spv_formula_typing.specs.declared.forms.Way.TheVariants as way
use Rattle.spv_formula_typing.specs.Arguments.{Given, AsValue, AsPlace, NoPlace, AsField}
use Rattle.spv_expression_typing.specs.declared.callee.Callee.{Callee}
use Rattle.spv_expression_typing.specs.declared.callee.Callee.TheVariants as callee

-- ---- what is called

abbrev pub meaning_callee : Name → Option Meaning → Result Callee TypeFault
meaning_callee x None = Err (undeclared x)
meaning_callee x (Some (meaning.Declared name signature)) = Ok (callee.Other (Some (length signature.now.args)))
meaning_callee x (Some (meaning.Routine name heading)) = Ok (callee.Routine name heading)
meaning_callee x (Some other) = Ok (callee.Other None)

-- ---- how arguments are read

-- a VAR parameter wants a place; an argument without a parameter is a value
abbrev pub formal_way : Option Formal → Way
formal_way None = way.Value
formal_way (Some f) = if f.by_place then way.Place else way.Value

abbrev pub way_in : Callee → ℕ → Way
way_in (callee.Routine name heading) n = formal_way (slice_get heading.now.formals n)
way_in (callee.Other count) n = way.Value

-- ---- arguments that were read

-- as the definition has them; the name of a field is no argument of a routine
abbrev pub seen : Given Expression spec.Reached → spec.Given
seen (AsValue o) = spec.AsValue o
seen (AsPlace r) = spec.AsPlace r
seen NoPlace = spec.NoPlace
seen (AsField x) = spec.NoPlace

abbrev pub all_seen : List (ℕ × Given Expression spec.Reached) → List (ℕ × spec.Given)
all_seen gs = map (λ g. (g.0, seen g.1)) gs

-- ---- arguments that fit

pub data Fitted : Type 0 where
  Value : Expression → Fitted
  Place : Designator → Fitted

abbrev pub fitted_of : ArgumentText → Fitted
fitted_of (argument.Value e) = Value e.value
fitted_of (argument.Place d) = Place d

abbrev pub in_front : Fitted → Arguments → Arguments
in_front (Value e) others = by_value e others
in_front (Place d) others = by_place d others

abbrev pub fitted_place : ℕ → Option Designator → Outcome Fitted
fitted_place line None = Err (wrong line)
fitted_place line (Some d) = Ok (Place d)

-- an argument for a parameter of a type
abbrev pub fitted_one : List TypeForm → TypeId → ℕ → spec.Given → Outcome Fitted
fitted_one forms t line (spec.AsValue o) = after (settled NilOf (wrong line) (sort_of forms t) o) (λ e. Ok (Value e))
fitted_one forms t line (spec.AsPlace r) =
    where_so (same_places forms t r.type) (wrong line) (fitted_place line (spec.designator_at r))
fitted_one forms t line spec.NoPlace = Err (wrong line)

-- ---- calls

-- a routine, with its arguments as they were read
abbrev pub call_with : List TypeForm → ℕ → ℕ → Heading → List (ℕ × spec.Given) → Outcome Call
call_with forms line at h gs =
    where_so (nat_eq (length gs) (length h.formals)) (Count line)
    (after (spec.fitted forms h.formals gs) (λ arguments. Ok (call h.number at arguments)))

-- what is no routine, by how many arguments it takes, where it takes any
abbrev pub no_call_fault : ℕ → Option ℕ → ℕ → TypeFault
no_call_fault line None given = wrong line
no_call_fault line (Some count) given = if nat_eq given count then wrong line else Count line

abbrev pub applied_to : Scope → ℕ → Name → Callee → List (ℕ × Given Expression spec.Reached) → Outcome spec.Reached
applied_to s line x (callee.Routine name heading) gs =
    after (call_with s.known.program.forms line x.line (heading_of name heading.now) (all_seen gs))
    (λ c. spec.function_result line (heading_of name heading.now) c)
applied_to s line x (callee.Other count) gs = Err (no_call_fault line count (length gs))

-- ---- names alone

-- a routine without arguments
abbrev pub called_alone : ℕ → Name → Heading → Outcome spec.Reached
called_alone line x h =
    where_so (nat_eq (length h.formals) 0) (Count line) (spec.function_result line h (call h.number x.line no_arguments))
