use Rattle.std.proofs.Common.{subst, sym}
use Rattle.spv_congruence.specs.Graph.{IsGraph}
use Rattle.spv_congruence.proofs.GrownLemmas.{taken_same, taken_fits}
use Rattle.spv_congruence.proofs.kept.Kept.add.Goals as goal

pub returns-in-Err-clause-err : goal.returns-in-Err-clause-err
returns-in-Err-clause-err c = taken_same c.args.self.now c.add_or_stop.new.self c.take_back.new.self c.in-Err.ensures.grown _ c.level-level.ensures _ c.places-places.ensures c.take_back.ensures

pub returns-in-Err-clause-fits : goal.returns-in-Err-clause-fits
returns-in-Err-clause-fits c = taken_fits c.args.self.now c.add_or_stop.new.self c.take_back.new.self c.in-Err.ensures.grown _ c.level-level.ensures _ c.places-places.ensures c.take_back.ensures c.requires.fits c.in-Err.ensures.fits

pub returns-in-Err-clause-graph : goal.returns-in-Err-clause-graph
returns-in-Err-clause-graph c = subst IsGraph (sym (taken_same c.args.self.now c.add_or_stop.new.self c.take_back.new.self c.in-Err.ensures.grown _ c.level-level.ensures _ c.places-places.ensures c.take_back.ensures)) c.requires.graph
