-- The clauses of a heading in the definition of the walk.
use Rattle.std.specs.Prelude.{Option, List, ◌++◌, None, Ok, option_map}
use Rattle.spv_logic.specs.declared.names.names.Symbol.{Symbol}
use Rattle.spv_logic.specs.declared.types.TypeId.{TypeId}
use Rattle.spv_tree.specs.syntax.Formulas.{Formula}
use Rattle.spv_tree.specs.declared.syntax.routines.Clauses.{Clauses as ClausesText}
use Rattle.spv_program.specs.declared.types.Item.{Item}
use Rattle.spv_program.specs.Formulas.{Annotation}
use Rattle.spv_program.specs.Programs.{GlobalItem}
use Rattle.spv_program.specs.typed.FormulaViews.{annotation_of}
use Rattle.spv_typing.specs.Known.{Known, Names, named}
use Rattle.spv_typing.specs.Outcomes.{Outcome, after, if_there}
use Rattle.spv_typing.specs.FormulaWalk.{annotation}
use Rattle.spv_typing.specs.RoutineWalk as spec
use Rattle.spv_environments.specs.Scopes.{own_of}
use Rattle.spv_heading_typing.specs.declared.parameters.Parameters.{Parameters}
use Rattle.spv_heading_typing.specs.declared.clauses.Clauses.{Clauses}
use Rattle.spv_heading_typing.specs.Parameters.{parameters_of}
use Rattle.spv_heading_typing.specs.Starts.{initial_walk}

abbrev pub entry_in : Known → Parameters → Option Formula → Outcome (Option Annotation)
entry_in k ps tree = if_there (annotation (spec.in_routine k (parameters_of ps).own None)) tree

abbrev pub exit_in : Known → Parameters → Symbol → Option TypeId → spec.Starts → Option Formula → Outcome (Option Annotation)
exit_in k ps name result starts tree =
    if_there (annotation (spec.in_routine k ((parameters_of ps).own ++ (spec.result_names name result ++ starts.own)) None)) tree

abbrev pub annotations_in : Known → Symbol → Parameters → Option TypeId → spec.Starts → ClausesText → Outcome (Option Annotation × Option Annotation)
annotations_in k name ps result starts c =
    after (entry_in k ps c.entry) (λ entry. after (exit_in k ps name result starts c.exit) (λ exit. Ok (entry, exit)))

-- what the clauses of a heading say
pub record Said : Type 0 where
  pub globals : List GlobalItem
  pub initial : List (Symbol × Item)
  pub own : Names
  pub entry : Option Annotation
  pub exit : Option Annotation

abbrev pub clauses_of : Clauses → Said
clauses_of c = record { globals = c.globals; initial = c.initial; own = named own_of c.own; entry = option_map annotation_of c.entry; exit = option_map annotation_of c.exit }

abbrev pub clauses_in : Known → Symbol → Parameters → Option TypeId → ClausesText → Outcome Said
clauses_in k name ps result c =
    after (spec.globals_walk k (parameters_of ps).own c.globals) (λ globals.
    after (initial_walk k name ps globals c.initial) (λ starts.
    after (annotations_in k name ps result starts c) (λ said.
    Ok (record { globals = globals; initial = starts.initial; own = (parameters_of ps).own ++ starts.own; entry = said.0; exit = said.1 }))))
