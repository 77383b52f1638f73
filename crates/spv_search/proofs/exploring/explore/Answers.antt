use Rattle.spv_proof_rules.specs.Stand.{question}
use Rattle.spv_search.proofs.Ends.{starts}
use Rattle.spv_search.proofs.exploring.explore.Goals as goal

pub run-requires-clause-arrived : goal.run-requires-clause-arrived
run-requires-clause-arrived c =
    starts c.args.terms.now c.args.condition.now c.args.atoms.now c.args.ground.now c.args.limits.now c.args.path.now c.new-branches.result _ c.args.end c.new-branches.ensures.start
    (c.new-branches.ensures.grows (question c.args.terms.now c.args.condition.now)) (c.new-branches.ensures.within c.args.terms.now) c.new-marks.ensures.items c.requires.set_up c.requires.told
