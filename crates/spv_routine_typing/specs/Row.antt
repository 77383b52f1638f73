-- What the code's steps along a row of routines are in the definition of the walk.
use Rattle.std.specs.Prelude.{List, [], Option, None, Ok, option_map}
use Rattle.spv_logic.specs.declared.names.names.Symbol.{Symbol}
use Rattle.spv_tree.specs.declared.syntax.routines.RoutineMark.{RoutineMark}
use Rattle.spv_typing.specs.Outcomes.{Outcome, after, each}
use Rattle.spv_typing.specs.Known.{Known, named}
use Rattle.spv_typing.specs.RoutineWalk as spec
use Rattle.spv_typing.specs.ProgramWalk as walk
use Rattle.spv_typing.specs.StatementWalk.{Setting}
use Rattle.spv_environments.specs.declared.scopes.Own.{Own}
use Rattle.spv_environments.specs.declared.routines.Heading.{Heading}
use Rattle.spv_environments.specs.declared.routines.Specified.{Specified}
use Rattle.spv_environments.specs.Scopes.{own_of}
use Rattle.spv_environments.specs.Views.{heading_of, specified_of}
use Rattle.spv_routine_typing.specs.local_typing.Locals.{local_of}
use Rattle.spv_routine_typing.specs.declared.begun.Begun.{Begun}

-- a heading with the names that it gives its routine
abbrev pub headed_by : Symbol → Specified → List (Symbol × Own) → spec.Headed
headed_by name s own = record { specified = specified_of name s; own = named own_of own }

abbrev pub begun_in : Known → Begun → walk.Begun
begun_in k b = record { specified = specified_of b.name b.specified; local = local_of k b.local }

-- where the walk is once this is known, and this body has begun and has not ended
abbrev pub progress_at : Known → Option Begun → walk.Progress
progress_at k b = record { known = k; begun = option_map (begun_in k) b }

-- outside of all routines
abbrev pub outside_at : Known → walk.Progress
outside_at k = record { known = k; begun = None }

-- what is known behind a row of routines, where these have bodies
abbrev pub along_walk : List Symbol → Known → List RoutineMark → Outcome Known
along_walk bodies k marks = after (each (walk.mark_walk bodies) (outside_at k) marks) (λ at. Ok at.known)

-- where the body of a routine with these names stands
abbrev pub setting_in : Known → Symbol → Heading → List (Symbol × Own) → Setting
setting_in k name h own = spec.body_setting (heading_of name h) (record { known = k; own = named own_of own; variables = [] })
