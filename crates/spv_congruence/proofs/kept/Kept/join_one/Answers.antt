use Rattle.std.proofs.Common.{refl, length, sym, subst}
use Rattle.spv_congruence.specs.Keep.{IsNow, GoesOn, Fits}
use Rattle.spv_congruence.proofs.Goings.{left_in, right_in, is_join, few_joins, now_joined, fits_joined, goes_joined, goes_refl, goes_trans}
use Rattle.spv_congruence.proofs.kept.Kept.join_one.Goals as goal

pub join_of-join-requires-clause-left : goal.join_of-join-requires-clause-left
join_of-join-requires-clause-left c = left_in c.args.self.now c.requires.fits c.law_joins.ensures _ _ c.args.equal c.requires.level c.requires.apart _ refl

pub join_of-join-requires-clause-right : goal.join_of-join-requires-clause-right
join_of-join-requires-clause-right c = right_in c.args.self.now c.requires.fits c.law_joins.ensures _ _ c.args.equal c.requires.level c.requires.apart _ refl

pub users-requires-clause-label : goal.users-requires-clause-label
users-requires-clause-label c = (is_join c.args.self.now c.requires.fits c.law_joins.ensures _ _ c.args.equal c.requires.level c.requires.apart c.join_of-join.result c.join_of-join.ensures).lower_is

pub users-requires-clause-within : goal.users-requires-clause-within
users-requires-clause-within c = (is_join c.args.self.now c.requires.fits c.law_joins.ensures _ _ c.args.equal c.requires.level c.requires.apart c.join_of-join.result c.join_of-join.ensures).lower_in

pub returns-in_err-users-clause-goes : goal.returns-in_err-users-clause-goes
returns-in_err-users-clause-goes c = goes_refl _

pub returns-in_err-users-clause-few : goal.returns-in_err-users-clause-few
returns-in_err-users-clause-few c = few_joins c.args.self.now c.requires.fits c.law_joins.ensures _ _ c.args.equal c.requires.level c.requires.apart c.join_of-join.result c.join_of-join.ensures

pub add_join-requires : goal.add_join-requires
add_join-requires c = is_join c.args.self.now c.requires.fits c.law_joins.ensures _ _ c.args.equal c.requires.level c.requires.apart c.join_of-join.result c.join_of-join.ensures

pub enter_users-requires-clause-fits : goal.enter_users-requires-clause-fits
enter_users-requires-clause-fits c = subst Fits (sym c.add_join.ensures) (fits_joined c.args.self.now c.requires.fits c.law_joins.ensures _ _ c.args.equal c.requires.level c.requires.apart c.join_of-join.result c.join_of-join.ensures)

pub enter_users-requires-clause-level : goal.enter_users-requires-clause-level
enter_users-requires-clause-level c = subst (λ k. IsNow k (length k.added) c.args.equals.now.items c.in_ok-users.users.items) (sym c.add_join.ensures)
    (now_joined c.args.self.now c.requires.fits c.law_joins.ensures _ _ c.args.equal c.requires.level c.requires.apart c.join_of-join.result c.join_of-join.ensures _ (λ t m early is has. c.in_ok-users.ensures t m is has))

pub returns-clause-goes : goal.returns-clause-goes
returns-clause-goes c = goes_trans _ _ _ (subst (GoesOn c.args.self.now) (sym c.add_join.ensures) (goes_joined c.args.self.now c.requires.fits c.law_joins.ensures _ _ c.args.equal c.requires.level c.requires.apart c.join_of-join.result c.join_of-join.ensures)) c.enter_users.ensures.goes

pub returns-clause-few : goal.returns-clause-few
returns-clause-few c = few_joins c.args.self.now c.requires.fits c.law_joins.ensures _ _ c.args.equal c.requires.level c.requires.apart c.join_of-join.result c.join_of-join.ensures
