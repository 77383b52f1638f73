use Rattle.std.proofs.Common.{refl}
use Rattle.spv_heading_typing.proofs.Bridges.{if_stopped}
use Rattle.spv_formula_typing.proofs.Exits.{stops_after}
use Rattle.spv_routine_typing.specs.local_typing.Locals.{local_of}
use Rattle.spv_routine_typing.specs.Row.{headed_by}
use Rattle.spv_routine_typing.proofs.Steps.{begun_with}
use Rattle.spv_routine_typing.proofs.beginning.begin_body.Goals as goal

pub returns-in_err-local-clause-err : goal.returns-in_err-local-clause-err
returns-in_err-local-clause-err c =
    if_stopped c.from_residual.result _ _ c.from_residual.ensures.1
    (λ e is. rw is
    (stops_after c.in_err-local.field-0.0 _ _
    (c.in_err-local.ensures.err (headed_by c.args.name c.args.specified c.args.own) (record { name_is = refl; own_is = refl; listed_is = c.requires.listed }))))

pub returns-clause-ok : goal.returns-clause-ok
returns-clause-ok c =
    begun_with c.args.known.now (headed_by c.args.name c.args.specified c.args.own) c.args.tree.now (local_of c.locals.new.known c.in_ok-local.local)
    (c.in_ok-local.ensures.ok (headed_by c.args.name c.args.specified c.args.own) (record { name_is = refl; own_is = refl; listed_is = c.requires.listed }))
