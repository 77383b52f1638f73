use Rattle.spv_rounds.proofs.judging.SurviveLemmas.{too-many}
use Rattle.spv_rounds.proofs.judging.surviving.too_many.Goals as goal

pub returns : goal.returns
returns c = λ rules a d limits is there falsifies calls some enough sum.
    too-many rules a d limits c.args.s is c.args.table there falsifies c.args.found.items calls c.args.count c.first-members.result c.first-members.ensures c.push.new.self c.in_ok-push.ensures.ok some enough sum
