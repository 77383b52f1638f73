use Rattle.spv_fact_search.proofs.Staged.{own-copy}
use Rattle.spv_fact_search.proofs.stages.own_copy.Goals as goal

pub returns-in-Ok : goal.returns-in-Ok
returns-in-Ok c = own-copy c.args.terms.now c.args.condition.now _ c.in-Ok.copied c.in-Ok.ensures.copy
