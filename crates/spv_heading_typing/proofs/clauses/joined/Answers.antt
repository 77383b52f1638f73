use Rattle.spv_heading_typing.proofs.Items.{nothing_taken}
use Rattle.spv_heading_typing.proofs.clauses.joined.Goals as goal

pub put_copies-requires : goal.put_copies-requires
put_copies-requires c = record { new = nothing_taken _ c.args.parameters.now.own c.new-own.ensures }
