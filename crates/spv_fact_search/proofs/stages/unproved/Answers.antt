use Rattle.std.proofs.Common.{Option, IfSome, subst}
use Rattle.spv_search_terms.specs.declared.condition_copy.filling.Copied.{Copied}
use Rattle.spv_fact_search.specs.Asking.{IsOwn}
use Rattle.spv_fact_search.specs.Guessing.{IsTrialOf}
use Rattle.spv_fact_search.proofs.Staged.{grown-given, grown-goal, shown-of}
use Rattle.spv_fact_search.proofs.stages.unproved.Goals as goal

pub own_copy-requires : goal.own_copy-requires
own_copy-requires c = record {
  given = grown-given c.args.stage c.becoming.new.stage c.becoming.ensures c.requires.given;
  goal = grown-goal c.args.stage c.becoming.new.stage c.becoming.ensures c.requires.goal;
}

pub tried_near-requires : goal.tried_near-requires
tried_near-requires c =
    let stage = c.becoming.new.stage in
    let is = subst (λ (o : Option Copied). IfSome o (λ k. IsOwn stage.terms stage.condition k.terms k.condition)) c.in-Some-3.is c.in_ok-own.ensures in
    record { given = is.claim.given_in; goal = is.claim.goal_in }

pub returns-in-Shown : goal.returns-in-Shown
returns-in-Shown c =
    let stage = c.becoming.new.stage in
    let own = c.in-Some-3.own in
    let is = subst (λ (o : Option Copied). IfSome o (λ k. IsOwn stage.terms stage.condition k.terms k.condition)) c.in-Some-3.is c.in_ok-own.ensures in
    shown-of c.args.stage stage c.becoming.ensures own.terms own.condition c.in-Shown.found is (subst (IsTrialOf own.terms own.condition) c.in-Shown.is c.in_ok-found.ensures)
