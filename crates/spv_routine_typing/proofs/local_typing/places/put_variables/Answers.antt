use Rattle.spv_routine_typing.proofs.local_typing.Frees.{variables_put}
use Rattle.spv_routine_typing.proofs.local_typing.places.put_variables.Goals as goal

pub returns : goal.returns
returns c =
    variables_put c.args.local (record { own = c.put_names.new.self; variables = c.push_variables.new.variables }) c.args.names.now c.args.t
    c.in_ok-put_names.ensures c.in_ok-push_variables.ensures
