use Rattle.std.proofs.Common.{Option, IfSome, subst}
use Rattle.spv_search_terms.specs.declared.condition_copy.filling.Copied.{Copied}
use Rattle.spv_fact_search.specs.Asking.{IsOwn}
use Rattle.spv_fact_search.proofs.Staged.{own-grows}
use Rattle.spv_fact_search.proofs.reasoning.decide_by_parts.Goals as goal

pub returns-in-Done : goal.returns-in-Done
returns-in-Done c =
    let a = c.args.terms.now in
    let d = c.args.condition.now in
    let is = subst (λ (o : Option Copied). IfSome o (λ k. IsOwn a d k.terms k.condition)) c.in-Some.is c.in_ok-copied.ensures in
    c.tested.ensures a d c.args.limits.now (own-grows a d c.in-Some.copied.terms c.attempted.new.terms c.in-Some.copied.condition c.attempted.ensures.grows is)
