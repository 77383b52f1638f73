use Rattle.std.proofs.Common.{subst, sym, arith}
use Rattle.spv_congruence.specs.Graph.{IsGraph}
use Rattle.spv_congruence.specs.Keep.{IsRewound}
use Rattle.spv_congruence.proofs.Goings.{goes_fits}
use Rattle.spv_congruence.proofs.Tells.{fits_fact, told_graph, stopped_back}
use Rattle.spv_congruence.proofs.kept.Kept.tell.Goals as goal

pub returns-in-Ok-clause-fits : goal.returns-in-Ok-clause-fits
returns-in-Ok-clause-fits c = goes_fits _ _ c.in-Ok.ensures.ok.goes (fits_fact c.args.self.now c.args.fact c.requires.left c.requires.right c.requires.fits)

pub returns-in-Ok-clause-graph : goal.returns-in-Ok-clause-graph
returns-in-Ok-clause-graph c = told_graph c.args.self.now c.tell_or_stop.new.self c.args.fact c.in-Ok.ensures.ok c.requires.graph

pub returns-in-Err-clause-fits : goal.returns-in-Err-clause-fits
returns-in-Err-clause-fits c = (stopped_back c.args.self.now c.tell_or_stop.new.self c.restore.new.self c.args.fact c.requires.left c.requires.right c.requires.graph c.requires.fits (λ h. let e = c.count-count.ensures in c.restore.ensures.less (omega (arith, h, e))) (λ h. let e = c.count-count.ensures in subst (λ n. IsRewound c.tell_or_stop.new.self n c.restore.new.self) e (c.restore.ensures.more (omega (arith, h, e)))) c.in-Err.ensures.err).fits

pub returns-in-Err-clause-err : goal.returns-in-Err-clause-err
returns-in-Err-clause-err c = (stopped_back c.args.self.now c.tell_or_stop.new.self c.restore.new.self c.args.fact c.requires.left c.requires.right c.requires.graph c.requires.fits (λ h. let e = c.count-count.ensures in c.restore.ensures.less (omega (arith, h, e))) (λ h. let e = c.count-count.ensures in subst (λ n. IsRewound c.tell_or_stop.new.self n c.restore.new.self) e (c.restore.ensures.more (omega (arith, h, e)))) c.in-Err.ensures.err).same

pub returns-in-Err-clause-graph : goal.returns-in-Err-clause-graph
returns-in-Err-clause-graph c = subst IsGraph (sym ((stopped_back c.args.self.now c.tell_or_stop.new.self c.restore.new.self c.args.fact c.requires.left c.requires.right c.requires.graph c.requires.fits (λ h. let e = c.count-count.ensures in c.restore.ensures.less (omega (arith, h, e))) (λ h. let e = c.count-count.ensures in subst (λ n. IsRewound c.tell_or_stop.new.self n c.restore.new.self) e (c.restore.ensures.more (omega (arith, h, e)))) c.in-Err.ensures.err).same)) c.requires.graph
