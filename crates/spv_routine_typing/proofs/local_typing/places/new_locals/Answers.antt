use Rattle.std.proofs.Common.{◌≡◌, [], Ok, false, is_some}
use Rattle.std.specs.List.{list_any}
use Rattle.spv_program.specs.Lists.{found}
use Rattle.spv_typing.specs.Known.{named}
use Rattle.spv_typing.specs.Outcomes.{each}
use Rattle.spv_typing.specs.TypeWalk.{all_names}
use Rattle.spv_typing.specs.DeclarationWalk.{new_name}
use Rattle.spv_environments.specs.Answers.{Stops}
use Rattle.spv_environments.specs.Scopes.{own_of}
use Rattle.spv_heading_typing.proofs.Bridges.{if_ok, if_err}
use Rattle.spv_heading_typing.proofs.Params.{names_are_new}
use Rattle.spv_routine_typing.specs.local_typing.Locals.{free_among, names_of}
use Rattle.spv_routine_typing.proofs.local_typing.Frees.{locals_read, locals_end}
use Rattle.spv_routine_typing.proofs.local_typing.places.new_locals.Goals as goal

pub returns-clause-ok : goal.returns-clause-ok
returns-clause-ok c =
    if_ok c.new_names.result _ (λ n. each (new_name (free_among c.args.known.now.start c.args.routine c.args.listed.now (named own_of c.args.own.now))) [] (all_names c.args.tree.now) ≡ Ok (names_of n))
    c.new_names.ensures.ok (λ n h. locals_read c.args.known.now.start c.args.routine c.args.listed.now c.new-none.result c.args.own.now c.new-none.ensures (all_names c.args.tree.now) _ h)

pub returns-clause-err : goal.returns-clause-err
returns-clause-err c =
    if_err c.new_names.result _ (λ e. Stops e (each (new_name (free_among c.args.known.now.start c.args.routine c.args.listed.now (named own_of c.args.own.now))) [] (all_names c.args.tree.now)))
    c.new_names.ensures.err (λ e h. locals_end c.args.known.now.start c.args.routine c.args.listed.now c.new-none.result c.args.own.now c.new-none.ensures (all_names c.args.tree.now) e h)

pub returns-clause-new : goal.returns-clause-new
returns-clause-new c =
    if_ok c.new_names.result _ (λ n. list_any (λ e. is_some (found c.args.own.now e.0)) n ≡ false) c.new_names.ensures.ok
    (λ n h. names_are_new c.args.known.now.start c.args.routine c.args.listed.now c.new-none.result c.args.own.now (all_names c.args.tree.now) n h)
