use Rattle.spv_trail.proofs.search_setup.Copies.{copy_too_many}
use Rattle.spv_trail.proofs.search_setup.starting.copy_large.Goals as goal

pub returns-in-Ok : goal.returns-in-Ok
returns-in-Ok c = copy_too_many c.args.terms.now c.args.condition.now _ _ c.in-Ok.copied c.in-Ok.ensures.copy c.requires.many
