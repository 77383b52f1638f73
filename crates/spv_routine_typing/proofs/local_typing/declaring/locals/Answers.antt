use Rattle.std.proofs.Common.{◌≡◌, Ok}
use Rattle.spv_typing.specs.RoutineWalk.{Headed, locals_walk}
use Rattle.spv_environments.specs.Answers.{Stops}
use Rattle.spv_heading_typing.proofs.Bridges.{if_ok, if_err}
use Rattle.spv_routine_typing.specs.local_typing.Locals.{IsHeaded, local_of}
use Rattle.spv_routine_typing.proofs.local_typing.Steps.{locals_are, locals_stop}
use Rattle.spv_routine_typing.proofs.local_typing.declaring.locals.Goals as goal

pub returns-clause-ok : goal.returns-clause-ok
returns-clause-ok c =
    if_ok c.in_order.result _
    (λ l. (h : Headed) → IsHeaded h c.args.name c.args.own c.args.listed.now → locals_walk c.args.known.now h c.args.tree.now ≡ Ok (local_of c.in_order.new.known l))
    c.in_order.ensures.ok (λ l e h is. locals_are h c.args.name c.args.own c.args.listed.now is c.args.known.now c.args.tree.now _ e)

pub returns-clause-err : goal.returns-clause-err
returns-clause-err c =
    if_err c.in_order.result _
    (λ e. (h : Headed) → IsHeaded h c.args.name c.args.own c.args.listed.now → Stops e (locals_walk c.args.known.now h c.args.tree.now))
    c.in_order.ensures.err (λ e s h is. locals_stop h c.args.name c.args.own c.args.listed.now is c.args.known.now c.args.tree.now e s)
