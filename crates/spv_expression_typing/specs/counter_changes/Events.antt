-- What expressions may change, in the order of the text: names that they write through VAR parameters, and routines that
-- they call, each behind its arguments.
use Rattle.std.specs.Prelude.{Bool, true, false, List, [], ◌∷◌, ◌++◌}
use Rattle.spv_logic.specs.declared.names.names.Symbol.{Symbol}
use Rattle.spv_program.specs.Expressions.{Expression, Designator, Selectors, Call, Arguments, Numeral, Boolean, NilOf, Read, Result, Through, Negative, Calculated, Compared, Negated, Joined, designator, no_selectors, at_index, at_field, at_cell, call, no_arguments, by_value, by_place}
use Rattle.spv_program.specs.Uses.{has_cell}
use Rattle.spv_expression_typing.specs.declared.counter_changes.works.Event.{Event}
use Rattle.spv_expression_typing.specs.declared.counter_changes.works.Event.TheVariants as event

-- a name that is written, where no `^` stands behind it
abbrev pub written_at : Symbol → Bool → List Event
written_at x true = []
written_at x false = event.Wrote x ∷ []

abbrev mutual
  pub expression_events : Expression → List Event
  expression_events (Numeral z) = []
  expression_events (Boolean b) = []
  expression_events (NilOf t) = []
  expression_events (Read d) = read_events d
  expression_events (Result c) = call_events c
  expression_events (Through c line t others) = call_events c ++ selector_events others
  expression_events (Negative e) = expression_events e
  expression_events (Calculated o a b) = expression_events a ++ expression_events b
  expression_events (Compared o a b) = expression_events a ++ expression_events b
  expression_events (Negated e) = expression_events e
  expression_events (Joined o a b) = expression_events a ++ expression_events b

  -- a designator that is read
  pub read_events : Designator → List Event
  read_events (designator line x others) = selector_events others

  -- a designator that is written
  pub place_events : Designator → List Event
  place_events (designator line x others) = written_at x (has_cell others) ++ selector_events others

  pub selector_events : Selectors → List Event
  selector_events no_selectors = []
  selector_events (at_index t e others) = expression_events e ++ selector_events others
  selector_events (at_field t f others) = selector_events others
  selector_events (at_cell line t others) = selector_events others

  pub call_events : Call → List Event
  call_events (call r line arguments) = argument_events arguments ++ event.Called r ∷ []

  pub argument_events : Arguments → List Event
  argument_events no_arguments = []
  argument_events (by_value e others) = expression_events e ++ argument_events others
  argument_events (by_place d others) = place_events d ++ argument_events others
