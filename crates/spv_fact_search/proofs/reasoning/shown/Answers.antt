use Rattle.std.proofs.Common.{Option, IfSome, subst}
use Rattle.spv_search_terms.specs.declared.condition_copy.filling.Copied.{Copied}
use Rattle.spv_fact_search.specs.Asking.{IsOwn}
use Rattle.spv_fact_search.specs.Guessing.{IsTrialOf}
use Rattle.spv_fact_search.proofs.Staged.{unproved-own}
use Rattle.spv_fact_search.proofs.reasoning.shown.Goals as goal

pub tried_near-requires : goal.tried_near-requires
tried_near-requires c =
    let is = subst (λ (o : Option Copied). IfSome o (λ k. IsOwn c.args.terms.now c.args.condition.now k.terms k.condition)) c.in-Some.is c.in_ok-own.ensures in
    record { given = is.claim.given_in; goal = is.claim.goal_in }

pub returns-in-Shown : goal.returns-in-Shown
returns-in-Shown c =
    λ limits.
    let own = c.in-Some.own in
    let is = subst (λ (o : Option Copied). IfSome o (λ k. IsOwn c.args.terms.now c.args.condition.now k.terms k.condition)) c.in-Some.is c.in_ok-own.ensures in
    unproved-own c.args.terms.now c.args.condition.now limits own.terms own.condition c.in-Shown.found is (subst (IsTrialOf own.terms own.condition) c.in-Shown.is c.in_ok-found.ensures)
