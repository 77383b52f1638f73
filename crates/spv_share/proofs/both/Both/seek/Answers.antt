use Rattle.spv_share.proofs.Goings.{goes_same, goes_then}
use Rattle.spv_share.proofs.Seeking.{sought_none}
use Rattle.spv_share.proofs.both.Both.seek.Goals as goal

pub loop-place-init : goal.loop-place-init
loop-place-init c = record { goes = goes_same c.args.terms.now c.args.self.now c.requires.sound; sought = sought_none c.args.self.now; sifted = c.in_ok-waits.ensures }

pub returns-in_err-waits-clause-goes : goal.returns-in_err-waits-clause-goes
returns-in_err-waits-clause-goes c = goes_same c.args.terms.now c.args.self.now c.requires.sound

pub returns-in_err-sought-clause-goes : goal.returns-in_err-sought-clause-goes
returns-in_err-sought-clause-goes c = goes_then c.args.terms.now c.args.self.now c.loop-place.self c.seek_on.new.self c.loop-place.invariant.goes c.seek_on.ensures.goes

pub loop-place-preserved : goal.loop-place-preserved
loop-place-preserved c = record {
  goes = goes_then c.args.terms.now c.args.self.now c.loop-place.self c.seek_on.new.self c.loop-place.invariant.goes c.seek_on.ensures.goes;
  sought = c.in_ok-sought.ensures.sought c.args.self.now c.loop-place.invariant.goes.relations c.loop-place.invariant.sought;
  sifted = c.in_ok-sought.ensures.sifted;
}
