use Rattle.std.proofs.Common.{◌≡◌, rules, sym}
use Rattle.spv_routine_typing.specs.local_typing.Locals.{local_of, with_constant}
use Rattle.spv_routine_typing.proofs.local_typing.Steps.{const_done}
use Rattle.spv_routine_typing.proofs.local_typing.declaring.constant.Goals as goal

pub returns-clause-ok : goal.returns-clause-ok
returns-clause-ok c =
    let e = c.in_ok-put_constant.ensures c.args.known.now in
    let put : local_of c.args.known.now c.in_ok-put_constant.field-0 ≡ with_constant (local_of c.args.known.now c.args.local) c.args.tree.now.name.symbol c.in_ok-z.z = search rules in
    const_done c.args.known.now c.args.local c.in_ok-put_constant.field-0 c.args.routine c.args.listed.now c.args.tree.now c.in_ok-z.z (sym c.if-not-is_free.ensures.free)
    c.in_ok-z.ensures.ok put
