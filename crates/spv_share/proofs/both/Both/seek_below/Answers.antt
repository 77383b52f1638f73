use Rattle.std.proofs.Common.{inr, refl, subst, sym}
use Rattle.spv_derivations.specs.declared.derivation.entries.Part.TheVariants as part
use Rattle.spv_tableau_rules.specs.declared.constraints.saying.RowConstraint.TheVariants.{Below}
use Rattle.spv_arithmetic_side.specs.declared.constraint_rows.standing.Standing.{Standing}
use Rattle.spv_arithmetic_side.specs.constraint_rows.Standing.{IsBack}
use Rattle.spv_share.specs.Relations.{sayable}
use Rattle.spv_share.proofs.Allowed.{may_order}
use Rattle.spv_share.proofs.Giving.{row_there}
use Rattle.spv_share.proofs.Goings.{goes_back, goes_then}
use Rattle.spv_share.proofs.Seeking.{found_point, limit_now, order_said, refuted_below, sifted_on, tried_point, tried_refuted}
use Rattle.spv_share.proofs.both.Both.seek_below.Goals as goal

pub try_saying-requires-clause-row : goal.try_saying-requires-clause-row
try_saying-requires-clause-row c = row_there c.args.terms.now c.args.self.now c.requires.sound c.args.related.row c.args.related c.requires.there

pub try_saying-requires-clause-may : goal.try_saying-requires-clause-may
try_saying-requires-clause-may c = may_order c.args.terms.now c.args.self.now c.requires.sound c.args.related c.requires.there c.requires.unjoined part.Below Below refl

pub returns-in_err-tried-clause-goes : goal.returns-in_err-tried-clause-goes
returns-in_err-tried-clause-goes c = goes_back c.args.terms.now c.args.self.now c.try_saying.new.self c.requires.sound c.try_saying.ensures.standing c.try_saying.ensures.back (c.try_saying.ensures.asserted (sayable c.args.self.now.relations.items c.args.self.now.standing.tableau.forms) (order_said c.args.terms.now c.args.self.now c.requires.sound c.args.related c.requires.there c.requires.unjoined part.Below Below refl) c.requires.sound.asserted)

pub sift-requires-clause-sound : goal.sift-requires-clause-sound
sift-requires-clause-sound c = (goes_back c.args.terms.now c.args.self.now c.try_saying.new.self c.requires.sound c.try_saying.ensures.standing c.try_saying.ensures.back (c.try_saying.ensures.asserted (sayable c.args.self.now.relations.items c.args.self.now.standing.tableau.forms) (order_said c.args.terms.now c.args.self.now c.requires.sound c.args.related c.requires.there c.requires.unjoined part.Below Below refl) c.requires.sound.asserted)).sound

pub sift-requires-clause-point : goal.sift-requires-clause-point
sift-requires-clause-point c = c.in_ok-tried.ensures.met c.in-Met.is

pub sift-requires-clause-sifted : goal.sift-requires-clause-sifted
sift-requires-clause-sifted c = sifted_on c.args.terms.now c.args.self.now (record c.args.self.now { standing = c.try_saying.new.self }) c.args.waits.now.items (goes_back c.args.terms.now c.args.self.now c.try_saying.new.self c.requires.sound c.try_saying.ensures.standing c.try_saying.ensures.back (c.try_saying.ensures.asserted (sayable c.args.self.now.relations.items c.args.self.now.standing.tableau.forms) (order_said c.args.terms.now c.args.self.now c.requires.sound c.args.related c.requires.there c.requires.unjoined part.Below Below refl) c.requires.sound.asserted)) c.try_saying.ensures.back c.requires.sifted

pub returns-in-Met-clause-goes : goal.returns-in-Met-clause-goes
returns-in-Met-clause-goes c = goes_back c.args.terms.now c.args.self.now c.try_saying.new.self c.requires.sound c.try_saying.ensures.standing c.try_saying.ensures.back (c.try_saying.ensures.asserted (sayable c.args.self.now.relations.items c.args.self.now.standing.tableau.forms) (order_said c.args.terms.now c.args.self.now c.requires.sound c.args.related c.requires.there c.requires.unjoined part.Below Below refl) c.requires.sound.asserted)

pub returns-in-Met-clause-found : goal.returns-in-Met-clause-found
returns-in-Met-clause-found c =
    found_point c.args.self.now c.try_saying.new.self c.args.related c.try_saying.ensures.back (inr (tried_point c.args.self.now.standing c.args.related.row Below c.in_ok-tried.tried c.in_ok-tried.ensures.tried c.in-Met.is))

pub returns-in-Stopped-clause-goes : goal.returns-in-Stopped-clause-goes
returns-in-Stopped-clause-goes c = goes_back c.args.terms.now c.args.self.now c.try_saying.new.self c.requires.sound c.try_saying.ensures.standing c.try_saying.ensures.back (c.try_saying.ensures.asserted (sayable c.args.self.now.relations.items c.args.self.now.standing.tableau.forms) (order_said c.args.terms.now c.args.self.now c.requires.sound c.args.related c.requires.there c.requires.unjoined part.Below Below refl) c.requires.sound.asserted)

pub returns-in-Stopped-clause-found : goal.returns-in-Stopped-clause-found
returns-in-Stopped-clause-found c =
    limit_now c.args.self.now c.try_saying.new.self c.try_saying.ensures.back (c.in_ok-tried.ensures.stopped c.in-Stopped.is)
    (c.in_ok-tried.ensures.evidence (sayable c.args.self.now.relations.items c.args.self.now.standing.tableau.forms) (order_said c.args.terms.now c.args.self.now c.requires.sound c.args.related c.requires.there c.requires.unjoined part.Below Below refl) c.requires.sound.asserted c.in-Stopped.is)

pub returns-in-Stopped-clause-sifted : goal.returns-in-Stopped-clause-sifted
returns-in-Stopped-clause-sifted c = sifted_on c.args.terms.now c.args.self.now (record c.args.self.now { standing = c.try_saying.new.self }) c.args.waits.now.items (goes_back c.args.terms.now c.args.self.now c.try_saying.new.self c.requires.sound c.try_saying.ensures.standing c.try_saying.ensures.back (c.try_saying.ensures.asserted (sayable c.args.self.now.relations.items c.args.self.now.standing.tableau.forms) (order_said c.args.terms.now c.args.self.now c.requires.sound c.args.related c.requires.there c.requires.unjoined part.Below Below refl) c.requires.sound.asserted)) c.try_saying.ensures.back c.requires.sifted

pub join-requires-clause-sound : goal.join-requires-clause-sound
join-requires-clause-sound c = (goes_back c.args.terms.now c.args.self.now c.try_saying.new.self c.requires.sound c.try_saying.ensures.standing c.try_saying.ensures.back (c.try_saying.ensures.asserted (sayable c.args.self.now.relations.items c.args.self.now.standing.tableau.forms) (order_said c.args.terms.now c.args.self.now c.requires.sound c.args.related c.requires.there c.requires.unjoined part.Below Below refl) c.requires.sound.asserted)).sound

pub join-requires-clause-second : goal.join-requires-clause-second
join-requires-clause-second c = refuted_below c.args.terms.now c.law_arena.ensures c.args.self.now c.requires.sound c.args.related c.requires.there c.in-Refuted.second (tried_refuted c.args.self.now.standing c.args.related.row Below c.in_ok-tried.tried c.in-Refuted.second c.in_ok-tried.ensures.tried c.in-Refuted.is)

pub returns-in_err-join-in-Refuted-clause-goes : goal.returns-in_err-join-in-Refuted-clause-goes
returns-in_err-join-in-Refuted-clause-goes c = goes_then c.args.terms.now c.args.self.now (record c.args.self.now { standing = c.try_saying.new.self }) c.join.new.self (goes_back c.args.terms.now c.args.self.now c.try_saying.new.self c.requires.sound c.try_saying.ensures.standing c.try_saying.ensures.back (c.try_saying.ensures.asserted (sayable c.args.self.now.relations.items c.args.self.now.standing.tableau.forms) (order_said c.args.terms.now c.args.self.now c.requires.sound c.args.related c.requires.there c.requires.unjoined part.Below Below refl) c.requires.sound.asserted)) c.join.ensures.goes

pub returns-in_ok-join-in-Refuted-clause-goes : goal.returns-in_ok-join-in-Refuted-clause-goes
returns-in_ok-join-in-Refuted-clause-goes c = goes_then c.args.terms.now c.args.self.now (record c.args.self.now { standing = c.try_saying.new.self }) c.join.new.self (goes_back c.args.terms.now c.args.self.now c.try_saying.new.self c.requires.sound c.try_saying.ensures.standing c.try_saying.ensures.back (c.try_saying.ensures.asserted (sayable c.args.self.now.relations.items c.args.self.now.standing.tableau.forms) (order_said c.args.terms.now c.args.self.now c.requires.sound c.args.related c.requires.there c.requires.unjoined part.Below Below refl) c.requires.sound.asserted)) c.join.ensures.goes

pub returns-in_ok-join-in-Refuted-clause-sifted : goal.returns-in_ok-join-in-Refuted-clause-sifted
returns-in_ok-join-in-Refuted-clause-sifted c =
    sifted_on c.args.terms.now c.args.self.now c.join.new.self c.args.waits.now.items (goes_then c.args.terms.now c.args.self.now (record c.args.self.now { standing = c.try_saying.new.self }) c.join.new.self (goes_back c.args.terms.now c.args.self.now c.try_saying.new.self c.requires.sound c.try_saying.ensures.standing c.try_saying.ensures.back (c.try_saying.ensures.asserted (sayable c.args.self.now.relations.items c.args.self.now.standing.tableau.forms) (order_said c.args.terms.now c.args.self.now c.requires.sound c.args.related c.requires.there c.requires.unjoined part.Below Below refl) c.requires.sound.asserted)) c.join.ensures.goes)
    (subst (λ (st : Standing). IsBack c.args.self.now.standing st) (sym c.join.ensures.standing) c.try_saying.ensures.back) c.requires.sifted
