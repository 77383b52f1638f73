use Rattle.std.proofs.Common.{Option, Ok, IfSome, ap, subst}
use Rattle.spv_proof_rules.specs.Stand.{question}
use Rattle.spv_fact_search.specs.declared.enlarging.Enlarged.{Enlarged}
use Rattle.spv_fact_search.specs.Enlarging.{IsEnlarged, IsEnough}
use Rattle.spv_fact_search.proofs.Found.{claim-there, decided-any, decided-there, enough-there, falsity-there, found-there, origin-there}
use Rattle.spv_fact_search.proofs.deciding.decide_with_facts.Goals as goal

pub too_many-requires-clause-many : goal.too_many-requires-clause-many
too_many-requires-clause-many c = c.in_ok-enlarged.ensures.many (ap Ok c.in_default.is)

pub returns-in_default : goal.returns-in_default
returns-in_default c = record { decided = decided-any c.args.terms.now c.args.condition.now c.args.limits.now c.too_many.result c.too_many.ensures }

pub with_shorter_proof-requires : goal.with_shorter_proof-requires
with_shorter_proof-requires c = record {
  decided = record {
    arena = c.in-Some.enlarged.terms;
    condition = c.in-Some.enlarged.condition;
    limits = c.with_terms-searched.result;
    decided = c.in_ok-found.ensures.decided;
  };
}

pub own_condition-requires : goal.own_condition-requires
own_condition-requires c =
    let a = c.args.terms.now in
    let w = c.args.condition.now in
    let e = c.in-Some.enlarged in
    let is = subst (λ (o : Option Enlarged). IfSome o (λ x. IsEnlarged a w x.terms x.condition)) c.in-Some.is c.in_ok-enlarged.ensures.enlarged in
    let x = c.in_ok-own.field-0 in
    let stays = c.in_ok-own.ensures.decided e.terms e.condition c.with_terms-searched.result c.in_ok-found.ensures.decided in
    record {
      given = stays.claim.given_in;
      claim = claim-there a w e.terms e.condition is c.with_terms-searched.result x stays;
      origin = origin-there a w e.terms e.condition is c.with_terms-searched.result x stays;
    }

pub of_condition-requires : goal.of_condition-requires
of_condition-requires c =
    let a = c.args.terms.now in
    let w = c.args.condition.now in
    let e = c.in-Some.enlarged in
    let is = subst (λ (o : Option Enlarged). IfSome o (λ x. IsEnlarged a w x.terms x.condition)) c.in-Some.is c.in_ok-enlarged.ensures.enlarged in
    let enough = subst (λ (o : Option Enlarged). IfSome o (λ x. IsEnough (question a w) x.most)) c.in-Some.is c.in_ok-enlarged.ensures.enough in
    let x = c.in_ok-own.field-0 in
    let stays = c.in_ok-own.ensures.decided e.terms e.condition c.with_terms-searched.result c.in_ok-found.ensures.decided in
    record {
      given = c.in_ok-told.ensures.given_in;
      goal = c.in_ok-told.ensures.goal_in;
      falsity = falsity-there a w e.terms e.condition is c.with_terms-searched.result x stays;
      enough = enough-there a w e.terms e.condition is c.with_terms-searched.result x stays c.in_ok-told.told c.in_ok-told.ensures c.args.limits.now e.most c.with_terms-searched.ensures enough;
      found = found-there a w e.terms e.condition is c.with_terms-searched.result x stays c.in_ok-told.told c.in_ok-told.ensures;
    }

pub returns : goal.returns
returns c =
    let a = c.args.terms.now in
    let w = c.args.condition.now in
    let e = c.in-Some.enlarged in
    let is = subst (λ (o : Option Enlarged). IfSome o (λ x. IsEnlarged a w x.terms x.condition)) c.in-Some.is c.in_ok-enlarged.ensures.enlarged in
    let x = c.in_ok-own.field-0 in
    let stays = c.in_ok-own.ensures.decided e.terms e.condition c.with_terms-searched.result c.in_ok-found.ensures.decided in
    record {
      decided = decided-there a w e.terms e.condition is c.with_terms-searched.result x stays c.in_ok-told.told c.in_ok-told.ensures
          c.args.limits.now e.most c.with_terms-searched.ensures c.in_ok-verdict.verdict c.in_ok-verdict.ensures;
    }
