use Rattle.std.proofs.Common.{◌+◌, drop, length}
use Rattle.std.proofs.lemmas.List.{drop_more}
use Rattle.spv_proof_steps.proofs.StepLemmas.{AllBelow-read}
use Rattle.spv_rules.specs.matching.Views.{instances_here}
use Rattle.spv_rules.proofs.matching.Adding.{gathers_next}
use Rattle.spv_rules.proofs.matching.instances.add_rule.Goals as goal

pub add_at-requires-clause-u : goal.add_at-requires-clause-u
add_at-requires-clause-u c = AllBelow-read (length c.args.s.now.terms.now.nodes) c.args.s.now.used.now c.loop-u.u-index _ c.requires.setting.used c.loop-u-test.true

pub loop-u-preserved : goal.loop-u-preserved
loop-u-preserved c =
    gathers_next c.args.s.now.terms.now (instances_here c.args.s.now c.args.number c.args.trigger) _ c.loop-u.found.items (drop c.loop-u.u-index c.args.s.now.used.now) (drop (c.loop-u.u-index + 1) c.args.s.now.used.now) _
    (drop_more c.args.s.now.used.now c.loop-u.u-index _ c.loop-u-test.true) c.loop-u.invariant c.add_at.new.found.items c.in_ok-add_at.ensures.ok
