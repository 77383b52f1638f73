use Rattle.std.proofs.Common.{Option, IfSome, subst}
use Rattle.spv_fact_search.specs.declared.stages.Stage.{Stage}
use Rattle.spv_fact_search.specs.Stages.{IsStageOf}
use Rattle.spv_fact_search.proofs.Asked.{given-there, formulas-asked}
use Rattle.spv_fact_search.proofs.stages.try_stage.Goals as goal

pub searched-requires : goal.searched-requires
searched-requires c =
    let stage = c.in-Some.stage in
    let is = subst (λ (o : Option Stage). IfSome o (IsStageOf c.args.terms.now c.args.condition.now)) c.in-Some.is c.in_ok-stage.ensures in
    record {
      given = given-there stage.terms stage.abstracted.given is.asked.given;
      goal = is.asked.goal.0;
      formulas = formulas-asked stage.terms stage.abstracted is.asked;
    }

pub returns-in-Proved : goal.returns-in-Proved
returns-in-Proved c =
    let is = subst (λ (o : Option Stage). IfSome o (IsStageOf c.args.terms.now c.args.condition.now)) c.in-Some.is c.in_ok-stage.ensures in
    c.proved.ensures c.args.terms.now c.args.condition.now c.args.limits.now is.own

pub returns-in-Unproved : goal.returns-in-Unproved
returns-in-Unproved c =
    let is = subst (λ (o : Option Stage). IfSome o (IsStageOf c.args.terms.now c.args.condition.now)) c.in-Some.is c.in_ok-stage.ensures in
    c.unproved.ensures c.args.terms.now c.args.condition.now c.args.limits.now is.own
