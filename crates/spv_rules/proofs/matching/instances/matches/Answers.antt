use Rattle.std.proofs.Common.{◌+◌, drop, arith}
use Rattle.spv_rules.proofs.matching.Sequences.{if_fault}
use Rattle.spv_rules.proofs.matching.Ruling.{rule_at, rules_next, rules_stop}
use Rattle.spv_rules.proofs.matching.instances.matches.Goals as goal

pub returns-in_err-add_numbered-clause-fault : goal.returns-in_err-add_numbered-clause-fault
returns-in_err-add_numbered-clause-fault c =
    let r = rule_at c.args.rules.now.list c.loop-place.place (omega (arith, c.loop-place-test.true, c.len-place-end.ensures)) in
    if_fault c.from_residual.result c.in_err-add_numbered.field-0.0 _ c.from_residual.ensures.1
    (rules_stop c.args.rules.now.arena _ _ c.loop-place.found.items (c.loop-place.place + 1) (drop c.loop-place.place c.args.rules.now.list) (drop (c.loop-place.place + 1) c.args.rules.now.list) r.rule r.rest c.loop-place.invariant c.in_err-add_numbered.field-0.0
    (c.in_err-add_numbered.ensures.fault r.rule r.there))

pub loop-place-preserved : goal.loop-place-preserved
loop-place-preserved c =
    let r = rule_at c.args.rules.now.list c.loop-place.place (omega (arith, c.loop-place-test.true, c.len-place-end.ensures)) in
    rules_next c.args.rules.now.arena _ _ c.loop-place.found.items (c.loop-place.place + 1) (drop c.loop-place.place c.args.rules.now.list) (drop (c.loop-place.place + 1) c.args.rules.now.list) r.rule r.rest c.loop-place.invariant c.add_numbered.new.found.items
    (c.in_ok-add_numbered.ensures.ok r.rule r.there)
