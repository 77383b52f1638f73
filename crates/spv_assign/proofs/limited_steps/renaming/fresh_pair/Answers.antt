use Rattle.spv_program.specs.Terms.{alone}
use Rattle.spv_assign.specs.supply.Numbers.{supply_of}
use Rattle.spv_assign.proofs.supply.FreshLemmas.{AreThere-Extends}
use Rattle.spv_assign.proofs.limited_steps.Limits.{same_stop}
use Rattle.spv_assign.proofs.limited_steps.Renamings.{ok_at, stops_at_one, stops_at_two, walked_two, fresh_makes, is_fresh_pair}
use Rattle.spv_assign.proofs.limited_steps.renaming.fresh_pair.Goals as goal

pub returns-in_err-from-clause-walk : goal.returns-in_err-from-clause-walk
returns-in_err-from-clause-walk c =
    same_stop c.from_residual.result c.in_err-from.field-0.0 _ _ _ c.from_residual.ensures.1
    (stops_at_one (alone c.args.head) _ c.in_err-from.field-0.0 c.args.terms.now c.made.new.terms c.in_err-from.ensures.walk)

pub returns-in_err-to-clause-walk : goal.returns-in_err-to-clause-walk
returns-in_err-to-clause-walk c =
    let fresh = c.fresh_like-fresh.ensures in
    same_stop c.from_residual-in_err-to.result c.in_err-to.field-0.0 _ _ _ c.from_residual-in_err-to.ensures.1
    (stops_at_two (alone c.args.head) _ c.in_err-to.field-0.0 c.args.terms.now c.made.new.terms c.fresh_like-fresh.new.terms c.in_ok-from.ensures.walk
    (c.in_err-to.ensures.walk c.made.new.terms _
    (fresh_makes c.made.new.terms c.fresh_like-fresh.new.terms c.in_ok-from.from c.args.head (supply_of c.args.supply.now) c.in_ok-from.ensures.term c.fresh_like-fresh.new.self
    c.fresh_like-fresh.result fresh.fresh fresh.grows fresh.only fresh.size (AreThere-Extends c.args.terms.now c.made.new.terms (supply_of c.args.supply.now) c.in_ok-from.ensures.grows c.requires.there))))

pub returns-clause-fresh : goal.returns-clause-fresh
returns-clause-fresh c =
    let fresh = c.fresh_like-fresh.ensures in
    is_fresh_pair c.made.new.terms c.fresh_like-fresh.new.terms c.in_ok-from.from c.args.head (supply_of c.args.supply.now) c.in_ok-from.ensures.term c.fresh_like-fresh.new.self c.in_ok-to.to
    c.requires.variable fresh.grows (ok_at _ c.fresh_like-fresh.result c.in_ok-to.to c.in_ok-to.ensures.same fresh.fresh) (ok_at _ c.fresh_like-fresh.result c.in_ok-to.to c.in_ok-to.ensures.same fresh.sort)

pub returns-clause-there : goal.returns-clause-there
returns-clause-there c =
    c.fresh_like-fresh.ensures.there (AreThere-Extends c.args.terms.now c.made.new.terms (supply_of c.args.supply.now) c.in_ok-from.ensures.grows c.requires.there)

pub returns-clause-walk : goal.returns-clause-walk
returns-clause-walk c =
    let fresh = c.fresh_like-fresh.ensures in
    walked_two (alone c.args.head) _ c.args.terms.now c.made.new.terms c.fresh_like-fresh.new.terms c.in_ok-from.ensures.walk
    (c.in_ok-to.ensures.walk c.made.new.terms _
    (fresh_makes c.made.new.terms c.fresh_like-fresh.new.terms c.in_ok-from.from c.args.head (supply_of c.args.supply.now) c.in_ok-from.ensures.term c.fresh_like-fresh.new.self
    c.fresh_like-fresh.result fresh.fresh fresh.grows fresh.only fresh.size (AreThere-Extends c.args.terms.now c.made.new.terms (supply_of c.args.supply.now) c.in_ok-from.ensures.grows c.requires.there)))
