use Rattle.spv_explanations.proofs.congruence_side.Trails.{added_holds, added_term}
use Rattle.spv_explanations.proofs.congruence_side.trail.Trail.add.Goals as goal

pub returns-clause-holds : goal.returns-clause-holds
returns-clause-holds c = added_holds c.args.terms.now c.args.self.now c.add.new.self c.args.t c.add.result c.requires.holds c.add.ensures.parts c.add.ensures.of c.add.ensures.err

pub returns-clause-adds : goal.returns-clause-adds
returns-clause-adds c = added_term c.args.terms.now c.args.self.now c.add.new.self c.args.t c.add.result c.add.ensures.parts c.add.ensures.err
