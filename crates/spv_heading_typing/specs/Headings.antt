-- Headings in the definition of the walk.
use Rattle.std.specs.Prelude.{◌≡◌, List, [], map, Option, Some, None}
use Rattle.spv_logic.specs.declared.names.names.Symbol.{Symbol}
use Rattle.spv_logic.specs.declared.types.TypeId.{TypeId}
use Rattle.spv_tree.specs.declared.syntax.names.Name.{Name}
use Rattle.spv_tree.specs.declared.syntax.routines.Params.{Params}
use Rattle.spv_tree.specs.declared.syntax.routines.Clauses.{Clauses as ClausesText}
use Rattle.spv_program.specs.Programs.{Formal}
use Rattle.spv_program.specs.declared.typed.programs.Formal.{Formal as FormalText}
use Rattle.spv_program.specs.typed.ProgramViews.{formal_of, global_of}
use Rattle.spv_typing.specs.Known.{Heading, Known, named}
use Rattle.spv_typing.specs.Outcomes.{Outcome, after}
use Rattle.spv_typing.specs.RoutineWalk as spec
use Rattle.spv_environments.specs.Views.{specified_of}
use Rattle.spv_environments.specs.Scopes.{own_of}
use Rattle.spv_heading_typing.specs.declared.headings.Headed.{Headed}
use Rattle.spv_heading_typing.specs.declared.headings.Title.{Title}
use Rattle.spv_heading_typing.specs.Names.{has}
use Rattle.spv_heading_typing.specs.Clauses.{Said}

-- what is known of a routine while its heading is read
abbrev pub announced : Title → List FormalText → Option TypeId → Heading
announced t formals result = spec.announced t.name t.line t.is_function t.number (map formal_of formals) result

abbrev pub headed_of : Symbol → Headed → spec.Headed
headed_of name h = record { specified = specified_of name h.specified; own = named own_of h.own }

-- the table of listed variables is that of the GLOBAL list
abbrev pub IsListed : Headed → Type 0
IsListed h = (x : Symbol) → has h.listed x ≡ spec.is_listed (map global_of h.specified.heading.globals) x

-- a heading with what its clauses say
abbrev pub headed_with : Title → List Formal → Option TypeId → Said → spec.Headed
headed_with t formals result said =
    let heading : Heading = record {
      name = t.name;
      line = t.line;
      is_function = t.is_function;
      number = t.number;
      formals = formals;
      result = result;
      globals = said.globals;
    } in
    record {
      specified = record { heading = heading; initial = said.initial; entry = said.entry; exit = said.exit };
      own = said.own;
    }

abbrev pub parameters_walk : Known → Title → Option Params → Outcome spec.Parameters
parameters_walk k t params = spec.params_walk (spec.with_heading k (spec.announced t.name t.line t.is_function t.number [] None)) t.name params

-- behind the parameters and the result
abbrev pub rest_walk : Known → Title → spec.Parameters → Option TypeId → ClausesText → Outcome spec.Headed
rest_walk k t ps result c =
    spec.clauses_walk (spec.with_heading k (spec.announced t.name t.line t.is_function t.number ps.formals result)) t.name t.line t.is_function t.number ps result c

abbrev pub procedure_walk : Known → Title → Option Params → ClausesText → Outcome spec.Headed
procedure_walk k t params c = after (parameters_walk k t params) (λ ps. rest_walk k t ps None c)

abbrev pub function_walk : Known → Title → Option Params → Option Name → ClausesText → Outcome spec.Headed
function_walk k t params of c =
    after (parameters_walk k t params) (λ ps.
    after (spec.result_walk (spec.with_heading k (spec.announced t.name t.line t.is_function t.number [] None)) t.line ps.own of) (λ type.
    rest_walk k t ps (Some type) c))
