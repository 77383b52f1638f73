use Rattle.std.proofs.Common.{◌∙◌}
use Rattle.spv_search.proofs.deciding.Found.{ready_decides, too_many_decides, too_wide_decides}
use Rattle.spv_search.proofs.deciding.deciding.decide_near.Goals as goal

pub returns-in-Ready : goal.returns-in-Ready
returns-in-Ready c = record {
  decided = ready_decides c.args.terms.now c.args.condition.now c.args.limits.now c.in_ok-opening.opening c.in-Ready.opened c.find.result c.in-Ready.is c.in_ok-opening.ensures c.find.ensures;
}

pub returns-in-Terms : goal.returns-in-Terms
returns-in-Terms c = record {
  decided = too_many_decides c.args.terms.now c.args.condition.now c.args.limits.now c.in_ok-opening.opening c.in-Terms.terms c.in-Terms.condition c.new.result c.from.result (c.from.ensures ∙ c.terms.ensures) c.in-Terms.is c.in_ok-opening.ensures c.new.ensures;
}

pub returns-in-Wide : goal.returns-in-Wide
returns-in-Wide c = record {
  decided = too_wide_decides c.args.terms.now c.args.condition.now c.args.limits.now c.in_ok-opening.opening c.in-Wide.terms c.in-Wide.condition c.in-Wide.atom c.new-in-Wide.result c.in-Wide.is c.in_ok-opening.ensures c.new-in-Wide.ensures;
}
