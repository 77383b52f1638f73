use Rattle.spv_proof.proofs.checker.Made.{fact_is_made, instance_is_made}
use Rattle.spv_proof.proofs.checker.walking.made.Goals as goal

pub returns-in_ok-fact-in-Some-clause-fact : goal.returns-in_ok-fact-in-Some-clause-fact
returns-in_ok-fact-in-Some-clause-fact c =
    let k = c.in_ok-fact-in-Some.ensures in
    fact_is_made k.grows c.args.task.now c.args.step.now c.in-Schema.number c.in-Schema.ts c.in-Schema.field c.in-Schema.is c.requires.step c.in-Some.kind c.kind_of.result c.kind_of.ensures c.in-Some.is
    c.as_slice.result.now c.as_slice.ensures c.in_ok-fact-in-Some.field-0 k.in_range k.fact

pub returns-in_ok-instance-in-Some-rules-clause-fact : goal.returns-in_ok-instance-in-Some-rules-clause-fact
returns-in_ok-instance-in-Some-rules-clause-fact c =
    let k = c.in_ok-instance-in-Some-rules.ensures in
    instance_is_made k.grows c.args.task.now c.args.step.now c.in-Rule.number c.in-Rule.ts c.in-Rule.is c.requires.step c.in-Some-rules.rules c.in-Some-rules.is
    c.as_slice-in-Some-rules.result.now c.as_slice-in-Some-rules.ensures c.in_ok-instance-in-Some-rules.field-0 k.in_range k.instance
