use Rattle.spv_fact_search.proofs.Found.{at_once, decided-at-once, decided-there, enough-there, falsity-there, found-there}
use Rattle.spv_fact_search.proofs.deciding.shown.Goals as goal

pub own_condition-requires : goal.own_condition-requires
own_condition-requires c = record { given = c.requires.enlarged.given_in; claim = c.requires.enlarged.claim; origin = c.requires.enlarged.origin }

pub of_condition-requires : goal.of_condition-requires
of_condition-requires c =
    let a = c.args.terms.now in
    let w = c.args.condition.now in
    let e = c.args.enlarged in
    let is = c.requires.enlarged in
    let most = c.with_terms-searched.result in
    let x = at_once e.terms e.condition is.given_in is.goal_in c.args.found c.requires.found in
    let found = decided-at-once e.terms e.condition is.given_in is.goal_in c.args.found c.requires.found most in
    record {
      given = c.in_ok-told.ensures.given_in;
      goal = c.in_ok-told.ensures.goal_in;
      falsity = falsity-there a w e.terms e.condition is most x found;
      enough = enough-there a w e.terms e.condition is most x found c.in_ok-told.told c.in_ok-told.ensures c.args.limits.now e.most c.with_terms-searched.ensures c.requires.enough;
      found = found-there a w e.terms e.condition is most x found c.in_ok-told.told c.in_ok-told.ensures;
    }

pub returns : goal.returns
returns c =
    let e = c.args.enlarged in
    let is = c.requires.enlarged in
    let most = c.with_terms-searched.result in
    let x = at_once e.terms e.condition is.given_in is.goal_in c.args.found c.requires.found in
    let found = decided-at-once e.terms e.condition is.given_in is.goal_in c.args.found c.requires.found most in
    decided-there c.args.terms.now c.args.condition.now e.terms e.condition is most x found c.in_ok-told.told c.in_ok-told.ensures c.args.limits.now e.most c.with_terms-searched.ensures c.in_ok-verdict.verdict c.in_ok-verdict.ensures
