-- Routines whose headings came before their bodies.
use Rattle.std.specs.Prelude.{◌&&◌, List, ◌++◌, map, None}
use Rattle.spv_logic.specs.declared.names.names.Symbol.{Symbol}
use Rattle.spv_tree.specs.declared.syntax.routines.Heading.{Heading as HeadingText}
use Rattle.spv_tree.specs.declared.syntax.routines.Clauses.{Clauses}
use Rattle.spv_tree.specs.declared.syntax.routines.Locals.{Locals}
use Rattle.spv_program.specs.declared.types.Item.{Item}
use Rattle.spv_program.specs.declared.typed.programs.Formal.{Formal}
use Rattle.spv_program.specs.typed.ProgramViews.{formal_of}
use Rattle.spv_typing.specs.Outcomes.{Outcome, where_so}
use Rattle.spv_typing.specs.Known as known
use Rattle.spv_typing.specs.RoutineWalk as spec
use Rattle.spv_typing.specs.ProgramWalk as walk
use Rattle.spv_environments.specs.declared.scopes.Own.{Own}
use Rattle.spv_environments.specs.declared.scopes.Own.TheVariants as own
use Rattle.spv_environments.specs.Scopes.{own_of}
use Rattle.spv_environments.specs.declared.routines.Specified.{Specified}

-- what a parameter stands for in its routine
abbrev pub own_of_formal : Formal → Symbol × Own
own_of_formal f = (f.name, own.Place f.of)

-- what an INITIAL name stands for in a routine with these parameters
abbrev pub own_of_start : known.Known → List (Symbol × Own) → Symbol × Item → Symbol × Own
own_of_start k parameters i = (i.0, own.Start (spec.item_sort (spec.in_routine k (known.named own_of parameters) None) i.1))

-- the names of a routine, as its heading gives them
abbrev pub names_again : known.Known → Specified → known.Names
names_again k s =
    let parameters = map (λ f. (f.name, known.OfPlace f.of)) (map formal_of s.heading.formals) in
    parameters ++ map (λ i. (i.0, known.OfStart (spec.item_sort (spec.in_routine k parameters None) i.1))) s.initial

-- the body of a routine that waits for it no longer
abbrev pub begin_again : known.Known → known.Specified → HeadingText → Clauses → Locals → Outcome walk.Progress
begin_again rest first h c l =
    where_so (walk.is_bare_form first.heading.is_function h.form && walk.is_bare c) (walk.twice_at h)
    (walk.begun_of rest (record { specified = first; own = spec.heading_names rest first }) l)
