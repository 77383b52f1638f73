use Rattle.spv_fact_search.proofs.Found.{gave-up-terms}
use Rattle.spv_fact_search.proofs.deciding.too_many.Goals as goal

pub returns-in-Ok : goal.returns-in-Ok
returns-in-Ok c limits =
    let k = c.in-Ok.ensures.copy in
    gave-up-terms c.args.terms.now c.args.condition.now c.in-Ok.copied.terms c.in-Ok.copied.condition k.condition k.shapes k.decls c.requires.many _ c.new.ensures limits
