use Rattle.std.proofs.Common.{◌≡◌, Ok, false}
use Rattle.std.specs.List.{list_any}
use Rattle.spv_typing.specs.TypeWalk.{all_names}
use Rattle.spv_environments.specs.Answers.{Stops}
use Rattle.spv_heading_typing.specs.Names.{symbols_of, has}
use Rattle.spv_heading_typing.specs.Parameters.{names_walk}
use Rattle.spv_heading_typing.proofs.Bridges.{if_ok, if_err}
use Rattle.spv_heading_typing.proofs.Params.{group_names_read, group_names_stop, names_are_new}
use Rattle.spv_heading_typing.proofs.parameters.group_names.Goals as goal

pub returns-clause-ok : goal.returns-clause-ok
returns-clause-ok c =
    if_ok c.new_names.result _ (λ n. names_walk c.args.known.now c.args.routine c.args.own.now c.args.tree.now ≡ Ok (symbols_of n)) c.new_names.ensures.ok
    (λ n h. group_names_read c.args.known.now.start c.args.routine c.new-unlisted.result c.new-none.result c.args.own.now (all_names c.args.tree.now) _ c.new-unlisted.ensures c.new-none.ensures h)

pub returns-clause-err : goal.returns-clause-err
returns-clause-err c =
    if_err c.new_names.result _ (λ e. Stops e (names_walk c.args.known.now c.args.routine c.args.own.now c.args.tree.now)) c.new_names.ensures.err
    (λ e h. group_names_stop c.args.known.now.start c.args.routine c.new-unlisted.result c.new-none.result c.args.own.now (all_names c.args.tree.now) e c.new-unlisted.ensures c.new-none.ensures h)

pub returns-clause-new : goal.returns-clause-new
returns-clause-new c =
    if_ok c.new_names.result _ (λ n. list_any (λ e. has c.args.own.now e.0) n ≡ false) c.new_names.ensures.ok
    (λ n h. names_are_new c.args.known.now.start c.args.routine c.new-unlisted.result c.new-none.result c.args.own.now (all_names c.args.tree.now) n h)
