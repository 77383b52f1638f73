use Rattle.std.proofs.Common.{inl, refl}
use Rattle.spv_derivations.specs.declared.derivation.entries.Part.TheVariants as part
use Rattle.spv_tableau_rules.specs.declared.constraints.saying.RowConstraint.TheVariants.{Above}
use Rattle.spv_derivations.proofs.derivation.Bridges.{if_ok}
use Rattle.spv_share.specs.Relations.{sayable}
use Rattle.spv_share.proofs.Allowed.{may_order}
use Rattle.spv_share.proofs.Giving.{row_there}
use Rattle.spv_share.proofs.Goings.{goes_back, goes_then, still_standing}
use Rattle.spv_share.proofs.Seeking.{found_point, found_then, limit_now, order_said, refuted_above, sifted_on, tried_point, tried_refuted}
use Rattle.spv_share.proofs.both.Both.seek_point.Goals as goal

pub try_saying-requires-clause-row : goal.try_saying-requires-clause-row
try_saying-requires-clause-row c = row_there c.args.terms.now c.args.self.now c.requires.sound c.args.related.row c.args.related c.requires.there

pub try_saying-requires-clause-may : goal.try_saying-requires-clause-may
try_saying-requires-clause-may c = may_order c.args.terms.now c.args.self.now c.requires.sound c.args.related c.requires.there c.requires.unjoined part.Above Above refl

pub returns-in_err-tried-clause-goes : goal.returns-in_err-tried-clause-goes
returns-in_err-tried-clause-goes c = goes_back c.args.terms.now c.args.self.now c.try_saying.new.self c.requires.sound c.try_saying.ensures.standing c.try_saying.ensures.back (c.try_saying.ensures.asserted (sayable c.args.self.now.relations.items c.args.self.now.standing.tableau.forms) (order_said c.args.terms.now c.args.self.now c.requires.sound c.args.related c.requires.there c.requires.unjoined part.Above Above refl) c.requires.sound.asserted)

pub sift-requires-clause-sound : goal.sift-requires-clause-sound
sift-requires-clause-sound c = (goes_back c.args.terms.now c.args.self.now c.try_saying.new.self c.requires.sound c.try_saying.ensures.standing c.try_saying.ensures.back (c.try_saying.ensures.asserted (sayable c.args.self.now.relations.items c.args.self.now.standing.tableau.forms) (order_said c.args.terms.now c.args.self.now c.requires.sound c.args.related c.requires.there c.requires.unjoined part.Above Above refl) c.requires.sound.asserted)).sound

pub sift-requires-clause-point : goal.sift-requires-clause-point
sift-requires-clause-point c = c.in_ok-tried.ensures.met c.in-Met.is

pub sift-requires-clause-sifted : goal.sift-requires-clause-sifted
sift-requires-clause-sifted c = sifted_on c.args.terms.now c.args.self.now (record c.args.self.now { standing = c.try_saying.new.self }) c.args.waits.now.items (goes_back c.args.terms.now c.args.self.now c.try_saying.new.self c.requires.sound c.try_saying.ensures.standing c.try_saying.ensures.back (c.try_saying.ensures.asserted (sayable c.args.self.now.relations.items c.args.self.now.standing.tableau.forms) (order_said c.args.terms.now c.args.self.now c.requires.sound c.args.related c.requires.there c.requires.unjoined part.Above Above refl) c.requires.sound.asserted)) c.try_saying.ensures.back c.requires.sifted

pub returns-in-Met-clause-goes : goal.returns-in-Met-clause-goes
returns-in-Met-clause-goes c = goes_back c.args.terms.now c.args.self.now c.try_saying.new.self c.requires.sound c.try_saying.ensures.standing c.try_saying.ensures.back (c.try_saying.ensures.asserted (sayable c.args.self.now.relations.items c.args.self.now.standing.tableau.forms) (order_said c.args.terms.now c.args.self.now c.requires.sound c.args.related c.requires.there c.requires.unjoined part.Above Above refl) c.requires.sound.asserted)

pub returns-in-Met-clause-found : goal.returns-in-Met-clause-found
returns-in-Met-clause-found c =
    found_point c.args.self.now c.try_saying.new.self c.args.related c.try_saying.ensures.back (inl (tried_point c.args.self.now.standing c.args.related.row Above c.in_ok-tried.tried c.in_ok-tried.ensures.tried c.in-Met.is))

pub returns-in-Stopped-clause-goes : goal.returns-in-Stopped-clause-goes
returns-in-Stopped-clause-goes c = goes_back c.args.terms.now c.args.self.now c.try_saying.new.self c.requires.sound c.try_saying.ensures.standing c.try_saying.ensures.back (c.try_saying.ensures.asserted (sayable c.args.self.now.relations.items c.args.self.now.standing.tableau.forms) (order_said c.args.terms.now c.args.self.now c.requires.sound c.args.related c.requires.there c.requires.unjoined part.Above Above refl) c.requires.sound.asserted)

pub returns-in-Stopped-clause-found : goal.returns-in-Stopped-clause-found
returns-in-Stopped-clause-found c =
    limit_now c.args.self.now c.try_saying.new.self c.try_saying.ensures.back (c.in_ok-tried.ensures.stopped c.in-Stopped.is)
    (c.in_ok-tried.ensures.evidence (sayable c.args.self.now.relations.items c.args.self.now.standing.tableau.forms) (order_said c.args.terms.now c.args.self.now c.requires.sound c.args.related c.requires.there c.requires.unjoined part.Above Above refl) c.requires.sound.asserted c.in-Stopped.is)

pub returns-in-Stopped-clause-sifted : goal.returns-in-Stopped-clause-sifted
returns-in-Stopped-clause-sifted c = sifted_on c.args.terms.now c.args.self.now (record c.args.self.now { standing = c.try_saying.new.self }) c.args.waits.now.items (goes_back c.args.terms.now c.args.self.now c.try_saying.new.self c.requires.sound c.try_saying.ensures.standing c.try_saying.ensures.back (c.try_saying.ensures.asserted (sayable c.args.self.now.relations.items c.args.self.now.standing.tableau.forms) (order_said c.args.terms.now c.args.self.now c.requires.sound c.args.related c.requires.there c.requires.unjoined part.Above Above refl) c.requires.sound.asserted)) c.try_saying.ensures.back c.requires.sifted

pub seek_below-requires-clause-sound : goal.seek_below-requires-clause-sound
seek_below-requires-clause-sound c = (goes_back c.args.terms.now c.args.self.now c.try_saying.new.self c.requires.sound c.try_saying.ensures.standing c.try_saying.ensures.back (c.try_saying.ensures.asserted (sayable c.args.self.now.relations.items c.args.self.now.standing.tableau.forms) (order_said c.args.terms.now c.args.self.now c.requires.sound c.args.related c.requires.there c.requires.unjoined part.Above Above refl) c.requires.sound.asserted)).sound

pub seek_below-requires-clause-first : goal.seek_below-requires-clause-first
seek_below-requires-clause-first c = refuted_above c.args.terms.now c.law_arena.ensures c.args.self.now c.requires.sound c.args.related c.requires.there c.in-Refuted.first (tried_refuted c.args.self.now.standing c.args.related.row Above c.in_ok-tried.tried c.in-Refuted.first c.in_ok-tried.ensures.tried c.in-Refuted.is)

pub seek_below-requires-clause-sifted : goal.seek_below-requires-clause-sifted
seek_below-requires-clause-sifted c = sifted_on c.args.terms.now c.args.self.now (record c.args.self.now { standing = c.try_saying.new.self }) c.args.waits.now.items (goes_back c.args.terms.now c.args.self.now c.try_saying.new.self c.requires.sound c.try_saying.ensures.standing c.try_saying.ensures.back (c.try_saying.ensures.asserted (sayable c.args.self.now.relations.items c.args.self.now.standing.tableau.forms) (order_said c.args.terms.now c.args.self.now c.requires.sound c.args.related c.requires.there c.requires.unjoined part.Above Above refl) c.requires.sound.asserted)) c.try_saying.ensures.back c.requires.sifted

pub returns-in-Refuted-clause-goes : goal.returns-in-Refuted-clause-goes
returns-in-Refuted-clause-goes c = goes_then c.args.terms.now c.args.self.now (record c.args.self.now { standing = c.try_saying.new.self }) c.seek_below.new.self (goes_back c.args.terms.now c.args.self.now c.try_saying.new.self c.requires.sound c.try_saying.ensures.standing c.try_saying.ensures.back (c.try_saying.ensures.asserted (sayable c.args.self.now.relations.items c.args.self.now.standing.tableau.forms) (order_said c.args.terms.now c.args.self.now c.requires.sound c.args.related c.requires.there c.requires.unjoined part.Above Above refl) c.requires.sound.asserted)) c.seek_below.ensures.goes

pub returns-in-Refuted-clause-found : goal.returns-in-Refuted-clause-found
returns-in-Refuted-clause-found c =
    if_ok c.seek_below.result c.seek_below.ensures.found (λ s h. found_then c.args.self.now (record c.args.self.now { standing = c.try_saying.new.self }) c.seek_below.new.self c.args.related s (still_standing c.args.self.now c.try_saying.new.self c.try_saying.ensures.back) h)
