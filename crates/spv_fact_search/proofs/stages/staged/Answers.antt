use Rattle.std.proofs.Common.{rules, Option, IfSome, IsTrue, subst}
use Rattle.spv_search_terms.specs.declared.condition_copy.filling.Copied.{Copied}
use Rattle.spv_fact_search.specs.Asking.{IsOwn}
use Rattle.spv_fact_search.proofs.Staged.{stage-own}
use Rattle.spv_fact_search.proofs.stages.staged.Goals as goal

pub standing_for-requires : goal.standing_for-requires
standing_for-requires c =
    let is = subst (λ (o : Option Copied). IfSome o (λ k. IsOwn c.args.terms.now c.args.condition.now k.terms k.condition)) c.in-Some.is c.in_ok-copied.ensures in
    record { given = is.claim.given_in; goal = is.claim.goal_in }

pub returns : goal.returns
returns c =
    let a = c.args.terms.now in
    let d = c.args.condition.now in
    let is = subst (λ (o : Option Copied). IfSome o (λ k. IsOwn a d k.terms k.condition)) c.in-Some.is c.in_ok-copied.ensures in
    let taken : IsTrue c.is_asked.result = first_of (search rules, cc) in
    record { own = stage-own a d c.in-Some.copied c.put_in.new.copied c.put_in.ensures is; asked = c.is_asked.ensures taken }
