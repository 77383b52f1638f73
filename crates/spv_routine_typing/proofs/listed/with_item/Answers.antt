use Rattle.spv_routine_typing.proofs.Listing.{variable_put}
use Rattle.spv_routine_typing.proofs.listed.with_item.Goals as goal

pub returns-in_ok-insert-in-Variable : goal.returns-in_ok-insert-in-Variable
returns-in_ok-insert-in-Variable c = variable_put c.args.listed c.insert.new.self c.in-Variable.x c.args.item.is_var c.args.item.item c.in-Variable.is c.in_ok-insert-in-Variable.ensures.ok
